-- What a voxel file makes of an accepted case is an accepted case.
use Rattle.std.proofs.Common.{◌≡◌, ℕ, zero, suc, ◌≤◌, ◌==◌, ◌&&◌, List, [], ◌∷◌, nat_le, cond, ℤ, pos, Option, Some, None, Result, Ok, Err, ok_or, unwrap_or, option_and_then, All, refl, sym, ap, subst, ◌∙◌, arith}
use Rattle.std.specs.Prelude.{slice_get}
use Rattle.std.specs.List.{range_with_len}
use Rattle.std.proofs.lemmas.Bool.{cond_both, and_parts, leb-true}
use Rattle.std.proofs.lemmas.Int.{ints}
use Rattle.std.proofs.lemmas.List.Elements.{All-map}
use Rattle.std.proofs.lemmas.Option.{cond_some}
use Rattle.lbm_number.specs.Number.{number_of}
use Rattle.lbm_space.specs.Torus.{Torus, IsSpace, cells}
use Rattle.lbm_cell.specs.Collision.{IsForce}
use Rattle.lbm_model.specs.Case.{FlowCase, IsCase, AreDensities, AreMoving, IsFlat}
use Rattle.lbm_model.specs.Refusals.{◌>>=◌, demand}
use Rattle.lbm_case.specs.Drawing.{is_space}
use Rattle.lbm_case.specs.CaseOf.{IsFirstDensity}
use Rattle.lbm_case.proofs.Boxes.{IsSpace-from_is_space}
use Rattle.lbm_voxel.specs.declared.fault.VoxelFault.TheVariants.{Word, Sides, Count, Value}
use Rattle.lbm_voxel.specs.declared.head.WordKind.{WordKind}
use Rattle.lbm_voxel.specs.Text.{words}
use Rattle.lbm_voxel.specs.Head.{head_in, strange_word, count_in, values_in}
use Rattle.lbm_voxel.specs.Refusals.{refuse}
use Rattle.lbm_voxel.specs.Voxels.{body_of, box_in, space_in, density_of, density_at, bad_value, densities_of, densities_in, with_voxels, case_in, voxels_of}
use Rattle.lbm_voxel.specs.Laws.{MakesCases}
use Rattle.lbm_voxel.proofs.Densities.{length-densities_of}

-- a reading that was not refused went through each step
pub passed : {A B E : Type 0} (u : Result A E) (f : A → Result B E) (y : B) → u >>= f ≡ Ok y → (x : A) × (u ≡ Ok x) × (f x ≡ Ok y)
passed (Ok x) f y e = (x, refl, e)
passed (Err refusal) f y e = absurd cc

found : {A E : Type 0} (o : Option A) (x : A) (refusal : E) → ok_or o refusal ≡ Ok x → o ≡ Some x
found None x refusal e = cc
found (Some y) x refusal e = cc

given : {A E : Type 0} (x y : A) → ◌≡◌ {A = Result A E} (Ok x) (Ok y) → x ≡ y
given x y same = cc

-- ---- first densities

solid : IsFirstDensity 0
solid some = absurd (some refl)

is_allowed : (value : ℕ) → IsFirstDensity (unwrap_or (density_of value) 0)
is_allowed value =
    let P : Option ℕ → Type 0 = λ o. IsFirstDensity (unwrap_or o 0) in
    cond_both (value == 0) (Some 0) _ P (λ _. solid)
    (λ _. cond_both (value == 1) (Some 884736) _ P (λ _ some. (omega arith, omega arith))
    (λ _. cond_both (nat_le 442368 value && nat_le value 1769472) (Some value) None P
    (λ within some. let parts = and_parts _ _ within in (leb-true _ _ parts.0, let most = leb-true _ _ parts.1 in omega arith))
    (λ _. solid)))

allowed_number : (number : Option ℕ) → IsFirstDensity (unwrap_or (option_and_then density_of number) 0)
allowed_number None = solid
allowed_number (Some value) = is_allowed value

allowed_word : (word : Option (List ℕ)) → IsFirstDensity (unwrap_or (option_and_then density_of (option_and_then number_of word)) 0)
allowed_word None = solid
allowed_word (Some word) = allowed_number (number_of word)

allowed_at : (values : List (List ℕ)) (x : ℕ) → IsFirstDensity (unwrap_or (density_at values x) 0)
unfolding density_at
allowed_at values x = allowed_word (slice_get values x)

are_first : (values : List (List ℕ)) (n : ℕ) → All IsFirstDensity (densities_of values n)
are_first values n = All-map IsFirstDensity (λ x. unwrap_or (density_at values x) 0) (range_with_len 0 n) (λ k d within. allowed_at values _)

are_densities : (t : Torus) (values : List (List ℕ)) → AreDensities t (densities_of values (cells t))
are_densities t values = record {
  one_each = length-densities_of values (cells t);
  not_thin = λ k d within some. (are_first values (cells t) k d within some).0;
  not_dense = λ k d within. not_dense _ (are_first values (cells t) k d within);
}
  where
    not_dense : (n : ℕ) → IsFirstDensity n → n ≤ 4194304
    not_dense zero first = omega arith
    not_dense (suc n) first = let within = first (λ none. absurd cc) in omega (arith, within.1)

densities_given : (values : List (List ℕ)) (n : ℕ) (densities : List ℕ) → densities_in values n ≡ Ok densities → densities_of values n ≡ densities
unfolding densities_in
densities_given values n densities e =
    let step = passed (refuse Value (bad_value values n)) _ densities e in
    given (densities_of values n) densities step.2

-- ---- the case

abbrev at_rest : List ℤ
at_rest = pos 0 ∷ pos 0 ∷ pos 0 ∷ []

at_rest-flat : (dimension : ℕ) → IsFlat dimension at_rest
at_rest-flat dimension zero few past = refl
at_rest-flat dimension (suc zero) few past = refl
at_rest-flat dimension (suc (suc zero)) few past = refl
at_rest-flat dimension (suc (suc (suc a))) few past = absurd (omega arith)

at_rest-small : IsForce at_rest
at_rest-small = record { three_parts = refl; x_small = omega (arith, ints); y_small = omega (arith, ints); z_small = omega (arith, ints) }

none_move : (densities : List ℕ) → AreMoving densities []
none_move densities = record {
  rising = λ k within. absurd (omega arith);
  known = λ k d within. absurd (omega arith);
  solid = λ k d within. absurd (omega arith);
}

IsCase-with_voxels : (case : FlowCase) (space : Torus) (densities : List ℕ) → IsCase case → IsSpace space → space.dimension ≡ case.stencil.dimension
    → AreDensities space densities → IsCase (with_voxels case space densities)
IsCase-with_voxels case space densities is allowed dimension are = record {
  set = is.set;
  space = allowed;
  dimension = dimension;
  densities = are;
  moving = none_move densities;
  wall = at_rest-small;
  wall_flat = at_rest-flat case.stencil.dimension;
  rates = is.rates;
  force = is.force;
  momentum = is.momentum;
}

made_in : (case : FlowCase) (space : Torus) (values : List (List ℕ)) (box : Torus) (densities : List ℕ) → IsCase case → box.dimension ≡ case.stencil.dimension
    → cond (is_space box) (Some box) None ≡ Some space → densities_in values (cells space) ≡ Ok densities → IsCase (with_voxels case space densities)
made_in case space values box densities is dimension boxed read =
    let drawn = cond_some _ _ _ boxed in
    let same : box ≡ space = drawn.1 in
    let allowed : IsSpace space = subst IsSpace same (IsSpace-from_is_space box (rw dimension is.set.plane_or_space) drawn.0) in
    let of_set : space.dimension ≡ case.stencil.dimension = ap (λ (t : Torus). t.dimension) (sym same) ∙ dimension in
    subst (λ (ds : List ℕ). IsCase (with_voxels case space ds)) (densities_given values (cells space) densities read)
    (IsCase-with_voxels case space (densities_of values (cells space)) is allowed of_set (are_densities space values))

made_of : (ws : List (List ℕ)) (case made : FlowCase) → IsCase case → case_in ws case ≡ Ok made → IsCase made
unfolding case_in
made_of ws case made is e =
    let a = passed (ok_or (head_in ws) (Word (strange_word ws))) _ made e in
    let head : List WordKind = a.0 in
    let b = passed (ok_or (space_in case.stencil.dimension head ws) Sides) _ made a.2 in
    let space : Torus = b.0 in
    let c = passed (demand (count_in head ws == cells space) Count) _ made b.2 in
    let d = passed (densities_in (values_in head ws) (cells space)) _ made c.2 in
    let whole : IsCase (with_voxels case space d.0) =
    made_in case space (values_in head ws) (box_in case.stencil.dimension head ws) d.0 is refl (found (space_in case.stencil.dimension head ws) space Sides b.1) d.1 in
    let same : with_voxels case space d.0 ≡ made = given (with_voxels case space d.0) made d.2 in
    subst IsCase same whole

pub makes-cases : MakesCases
unfolding voxels_of
makes-cases bytes case made is e =
    let a = passed (body_of bytes) (λ body. case_in (words body) case) made e in
    made_of (words a.0) case made is a.2
