-- What the ranges of the numbers give.
use Rattle.std.proofs.Common.{◌≡◌, ℕ, zero, suc, ◌<◌, ◌≤◌, Bool, true, false, not, if◌then◌else◌, List, [], ◌∷◌, length, get_or, Some, None, find, ℤ, pos, ◌≤ℤ◌, ◌<ℤ◌, unsigned_abs, int_le, int_lt, nat_le, refl, sym, ◌∙◌, subst, T, lit<, arith, inl, inr}
use Rattle.std.specs.List.{list_all}
use Rattle.std.proofs.lemmas.Bool.{cases_Bool, cond-true, cond-false, not-false, and_parts, leb-true, eqb-true, eq-eqb, both_ways}
use Rattle.std.proofs.lemmas.Bool.Decides.{Decides-int_eq}
use Rattle.std.proofs.lemmas.Option.{none-some}
use Rattle.std.proofs.lemmas.Int.{ints}
use Rattle.lbm_space.specs.Stencil.{part}
use Rattle.lbm_cell.specs.Collision.{IsRates, rates}
use Rattle.lbm_model.specs.Case.{IsMomentum, IsFlat}
use Rattle.lbm_model.specs.Sets.{stencil_of}
use Rattle.lbm_model.specs.declared.sets.SetKind.{SetKind}
use Rattle.lbm_model.proofs.SetLaws.{IsVelocitySet-stencil_of}
use Rattle.lbm_case.specs.declared.key.Key.{Key}
use Rattle.lbm_case.specs.declared.key.Key.TheVariants.{Set, Omega, Map, Layers, Density, Digit, Momentum, Force, OmegaMinus, Wall}
use Rattle.lbm_case.specs.Keys.{all_keys}
use Rattle.lbm_case.specs.Settings.{Settings}
use Rattle.lbm_case.specs.Numbers.{is_plane, is_between, is_vector, is_in_range, bad_number}

not_first : {X : Type 0} (p : X → Bool) (x : X) (xs : List X) → find p (x ∷ xs) ≡ None → (p x ≡ false) × (find p xs ≡ None)
not_first p x xs none = elim (cases_Bool (p x)) [
  | inl passes ↦ absurd (none-some _ (sym none ∙ cond-true _ _ _ passes))
  | inr fails ↦ (fails, sym (cond-false _ _ _ fails) ∙ none)
]

pub find-None : {X : Type 0} (p : X → Bool) (xs : List X) (i : ℕ) (d : X) → find p xs ≡ None → i < length xs → p (get_or xs i d) ≡ false
find-None p [] i d none within = absurd (omega arith)
find-None p (x ∷ xs) zero d none within = (not_first p x xs none).0
find-None p (x ∷ xs) (suc i) d none within = find-None p xs i d (not_first p x xs none).1 (omega arith)

-- where no number is bad, those at each key are in range
pub in_range_at : (s : Settings) → bad_number s ≡ None → (key : Key) → is_in_range s key ≡ true
unfolding all_keys
in_range_at s none Set = refl
in_range_at s none Omega = not-false _ (find-None (λ key. not (is_in_range s key)) all_keys 1 Set none (lit< tt))
in_range_at s none Map = refl
in_range_at s none Layers = not-false _ (find-None (λ key. not (is_in_range s key)) all_keys 3 Set none (lit< tt))
in_range_at s none Density = not-false _ (find-None (λ key. not (is_in_range s key)) all_keys 4 Set none (lit< tt))
in_range_at s none Digit = not-false _ (find-None (λ key. not (is_in_range s key)) all_keys 5 Set none (lit< tt))
in_range_at s none Momentum = not-false _ (find-None (λ key. not (is_in_range s key)) all_keys 6 Set none (lit< tt))
in_range_at s none Force = not-false _ (find-None (λ key. not (is_in_range s key)) all_keys 7 Set none (lit< tt))
in_range_at s none OmegaMinus = not-false _ (find-None (λ key. not (is_in_range s key)) all_keys 8 Set none (lit< tt))
in_range_at s none Wall = not-false _ (find-None (λ key. not (is_in_range s key)) all_keys 9 Set none (lit< tt))

pub at_most : (x y : ℤ) → int_le x y ≡ true → x ≤ℤ y
at_most x y passed = record { le = subst T (sym passed) tt }

pub below : (x y : ℤ) → int_lt x y ≡ true → x <ℤ y
below x y passed = record { lt = subst T (sym passed) tt }

pub record IsWithin (least greatest n : ℤ) : Type 0 where
  pub low : least ≤ℤ n
  pub high : n ≤ℤ greatest

within : (low high n : ℤ) → is_between low high n ≡ true → IsWithin low high n
within low high n passed = let parts = and_parts _ _ passed in record { low = at_most _ _ parts.0; high = at_most _ _ parts.1 }

-- one layer, or up to 4096
up_to : (plane : Bool) → (if plane then pos 1 else pos 4096) ≤ℤ pos 4096
up_to true = record { le = tt }
up_to false = record { le = tt }

pub layers_within : (s : Settings) → bad_number s ≡ None → IsWithin (pos 1) (pos 4096) s.layers
layers_within s none =
    let high = up_to (is_plane s.set) in
    let known = within _ _ _ (in_range_at s none Layers) in
    record { low = known.low; high = omega (arith, ints) }

pub density_within : (s : Settings) → bad_number s ≡ None → IsWithin (pos 442368) (pos 1769472) s.density
density_within s none = within _ _ _ (in_range_at s none Density)

pub digit_within : (s : Settings) → bad_number s ≡ None → IsWithin (pos 0) (pos 200000) s.digit
digit_within s none = within _ _ _ (in_range_at s none Digit)

pub rates_allowed : (s : Settings) → bad_number s ≡ None → IsRates (rates (part s.rate 0) s.rate_minus (part s.rate 1))
rates_allowed s none =
    let rate_parts = and_parts _ _ (in_range_at s none Omega) in
    let q = within (pos 1) (pos 1024) (part s.rate 1) rate_parts.0 in
    let p_parts = and_parts _ _ rate_parts.1 in
    let p = within (pos 1) (pos 1024) (part s.rate 0) p_parts.0 in
    let m_parts = and_parts _ _ (in_range_at s none OmegaMinus) in
    let m = within (pos 1) (pos 1024) s.rate_minus m_parts.0 in
    record {
      p_above = omega (arith, ints);
      m_above = omega (arith, ints);
      q_above = omega (arith, ints);
      p_at_most = p.high;
      m_at_most = m.high;
      q_at_most = q.high;
      p_stable = below _ _ p_parts.1;
      m_stable = below _ _ m_parts.1;
    }

-- each part of a short vector, also past its end, is small
small_part : (size : ℕ) (u : List ℤ) → list_all (λ n. nat_le (unsigned_abs n) size) u ≡ true → (a : ℕ) → unsigned_abs (part u a) ≤ size
small_part size [] passed a = omega arith
small_part size (x ∷ u) passed zero = leb-true _ _ (and_parts _ _ passed).0
small_part size (x ∷ u) passed (suc a) = small_part size u (and_parts _ _ passed).1 a

vector_small : (plane : Bool) (size : ℕ) (u : List ℤ) → is_vector plane size u ≡ true → (a : ℕ) → unsigned_abs (part u a) ≤ size
vector_small plane size u passed = small_part size u (and_parts _ _ passed).0

vector_flat : (set : SetKind) (size : ℕ) (u : List ℤ) → is_vector (is_plane (Some set)) size u ≡ true → IsFlat (stencil_of set).dimension u
vector_flat set size u passed a axis past = elim (cases_Bool (is_plane (Some set))) [
  | inl flat ↦ (
      let two : (stencil_of set).dimension ≡ 2 = eqb-true _ _ flat in
      let third : a ≡ 2 = omega arith in
      let within : is_vector true size u ≡ true = rw flat at passed in
      rw third ((Decides-int_eq (part u 2) (pos 0)).0 (and_parts _ _ within).1))
  | inr deep ↦ elim (IsVelocitySet-stencil_of set).plane_or_space [
    | inl two ↦ absurd (both_ways _ deep (eq-eqb _ _ two))
    | inr three ↦ absurd (omega arith)
  ]
]

pub force_is_small : (s : Settings) → bad_number s ≡ None → (a : ℕ) → unsigned_abs (part s.force a) ≤ 1024
force_is_small s none = vector_small _ 1024 s.force (in_range_at s none Force)

pub wall_is_small : (s : Settings) → bad_number s ≡ None → (a : ℕ) → unsigned_abs (part s.wall a) ≤ 1024
wall_is_small s none = vector_small _ 1024 s.wall (in_range_at s none Wall)

pub wall_is_flat : (s : Settings) (set : SetKind) → bad_number s ≡ None → s.set ≡ Some set → IsFlat (stencil_of set).dimension s.wall
wall_is_flat s set none named = vector_flat set 1024 s.wall (rw named at (in_range_at s none Wall))

pub momentum_is_allowed : (s : Settings) (set : SetKind) → bad_number s ≡ None → s.set ≡ Some set → IsMomentum (stencil_of set).dimension s.momentum
momentum_is_allowed s set none named = record {
  small = λ a axis. vector_small _ 884736 s.momentum (in_range_at s none Momentum) a;
  flat = vector_flat set 884736 s.momentum (rw named at (in_range_at s none Momentum));
}

pub layers_positive : (s : Settings) → bad_number s ≡ None → 0 < unsigned_abs s.layers
layers_positive s none = let known = layers_within s none in omega (arith, ints)
