-- The test of a box.
use Rattle.std.proofs.Common.{◌≡◌, ◌⊎◌, ℕ, ◌≤◌, ◌<◌, true, not, ◌||◌, cond, eqb, Option, Some, None, refl, sym, ◌∙◌, ap, inl, inr, SomeIff}
use Rattle.std.proofs.lemmas.Bool.{cases_Bool, and_parts, and_from, or_cases, or_left, or_right, leb-true, le-leb, eqb-true, eq-eqb, ne_eqb, cases_eq, not-true, cond-true, cond-false, both_ways}
use Rattle.lbm_space.specs.Torus.{Torus, IsSpace}
use Rattle.lbm_model.specs.Sets.{stencil_of}
use Rattle.lbm_model.specs.declared.sets.SetKind.{SetKind}
use Rattle.lbm_model.proofs.SetLaws.{IsVelocitySet-stencil_of}
use Rattle.lbm_case.specs.Drawing.{is_side, is_space}

side_from : (n : ℕ) → is_side n ≡ true → (0 < n) × (n ≤ 4096)
side_from n passed = let parts = and_parts _ _ passed in (leb-true _ _ parts.0, leb-true _ _ parts.1)

side_test : (n : ℕ) → 0 < n → n ≤ 4096 → is_side n ≡ true
side_test n some few = and_from _ _ (le-leb 1 n some) (le-leb n 4096 few)

flat_from : (dimension nz : ℕ) → (not (eqb dimension 2) || eqb nz 1) ≡ true → dimension ≡ 2 → nz ≡ 1
flat_from dimension nz passed plane = elim (or_cases _ _ passed) [
  | inl other ↦ absurd (both_ways _ (not-true _ other) (eq-eqb _ _ plane))
  | inr one ↦ eqb-true _ _ one
]

flat_test : (dimension nz : ℕ) → (dimension ≡ 2 → nz ≡ 1) → (not (eqb dimension 2) || eqb nz 1) ≡ true
flat_test dimension nz flat = elim (cases_eq dimension 2) [
  | inl plane ↦ or_right _ _ (eq-eqb _ _ (flat plane))
  | inr space ↦ or_left _ _ (ap not (ne_eqb _ _ space))
]

pub IsSpace-from_is_space : (t : Torus) → (t.dimension ≡ 2) ⊎ (t.dimension ≡ 3) → is_space t ≡ true → IsSpace t
IsSpace-from_is_space t dimension passed =
    let all = and_parts _ _ passed in
    let shape = and_parts _ _ all.0 in
    let sides = and_parts _ _ shape.0 in
    let plane = and_parts _ _ sides.0 in
    let x = side_from t.nx plane.0 in
    let y = side_from t.ny plane.1 in
    let z = side_from t.nz sides.1 in
    record {
      plane_or_space = dimension;
      some_x = x.0;
      some_y = y.0;
      some_z = z.0;
      few_x = x.1;
      few_y = y.1;
      few_z = z.1;
      flat = flat_from t.dimension t.nz shape.1;
      fits = leb-true _ _ all.1;
    }

pub is_space-from_IsSpace : (t : Torus) → IsSpace t → is_space t ≡ true
is_space-from_IsSpace t allowed =
    and_from _ _
    (and_from _ _
    (and_from _ _ (and_from _ _ (side_test t.nx allowed.some_x allowed.few_x) (side_test t.ny allowed.some_y allowed.few_y)) (side_test t.nz allowed.some_z allowed.few_z))
    (flat_test t.dimension t.nz allowed.flat))
    (le-leb _ _ allowed.fits)

-- the lattice of a velocity set is a plane or a space
pub two_or_three : (set : SetKind) → ((stencil_of set).dimension ≡ 2) ⊎ ((stencil_of set).dimension ≡ 3)
two_or_three set = (IsVelocitySet-stencil_of set).plane_or_space

-- a box is given exactly where it is allowed
pub given_space : (t : Torus) (r : Option Torus) → (t.dimension ≡ 2) ⊎ (t.dimension ≡ 3) → SomeIff r (IsSpace t) t → r ≡ cond (is_space t) (Some t) None
given_space t None dimension refused = elim (cases_Bool (is_space t)) [
  | inl allowed ↦ absurd (refused (IsSpace-from_is_space t dimension allowed))
  | inr other ↦ sym (cond-false _ _ _ other)
]
given_space t (Some s) dimension given = ap Some given.1 ∙ sym (cond-true _ _ _ (is_space-from_IsSpace t given.0))
