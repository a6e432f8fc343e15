-- The values of the cells, one after another.
use Rattle.std.proofs.Common.{◌≡◌, ℕ, ◌+◌, ◌<◌, List, [], ◌∷◌, ◌++◌, length, drop, get_or, Bool, true, false, Option, Some, None, Ok, Err, find, refl, ap, ◌∙◌, arith, drop-cons, length-drop}
use Rattle.std.specs.Prelude.{is_none, unwrap_or, slice_get, option_and_then}
use Rattle.std.specs.List.{range_with_len, position_or_len}
use Rattle.std.proofs.lemmas.List.Folds.{find_at}
use Rattle.std.proofs.lemmas.List.FromFn.{length-range_with_len, length-map-range_with_len, get_or-range_with_len, map-range_with_len_more}
use Rattle.std.proofs.lemmas.List.Sums.{position_or_len_is}
use Rattle.std.proofs.lemmas.Option.{slice_get-get_or, slice_get_past}
use Rattle.lbm_number.specs.Number.{number_of}
use Rattle.lbm_voxel.specs.declared.fault.VoxelFault.TheVariants.{Value}
use Rattle.lbm_voxel.specs.Voxels.{density_of, density_at, densities_of, densities_in}

-- ---- the first number that passes

abbrev below : ℕ → List ℕ
below n = range_with_len 0 n

at_range : (n k : ℕ) → k < n → get_or (below n) k 0 ≡ k
at_range n k within = omega (arith, get_or-range_with_len 0 n k 0 within)

find-first : (p : ℕ → Bool) (n x : ℕ) → x < n → ((k : ℕ) → k < x → p k ≡ false) → p x ≡ true → find p (below n) ≡ Some x
find-first p n x within before here =
    let long = length-range_with_len 0 n in
    let none : (k : ℕ) → k < x → p (get_or (below n) k 0) ≡ false = λ k less. ap p (at_range n k (omega arith)) ∙ before k less in
    let at : position_or_len p (below n) ≡ x = position_or_len_is p (below n) x 0 (omega arith) none (λ _. ap p (at_range n x within) ∙ here) in
    find_at p (below n) ∙ (ap (slice_get (below n)) at ∙ (slice_get-get_or (below n) x 0 (omega arith) ∙ ap Some (at_range n x within)))

find-none : (p : ℕ → Bool) (n : ℕ) → ((k : ℕ) → k < n → p k ≡ false) → find p (below n) ≡ None
find-none p n before =
    let long = length-range_with_len 0 n in
    let none : (k : ℕ) → k < n → p (get_or (below n) k 0) ≡ false = λ k less. ap p (at_range n k less) ∙ before k less in
    let at : position_or_len p (below n) ≡ n = position_or_len_is p (below n) n 0 (omega arith) none (λ past. absurd (omega arith)) in
    find_at p (below n) ∙ (ap (slice_get (below n)) at ∙ slice_get_past (below n) n (omega arith))

-- ---- the value of a cell

-- the first cells have values
abbrev pub AreValues : List (List ℕ) → ℕ → Type 0
AreValues values x = (k : ℕ) → k < x → is_none (density_at values k) ≡ false

pub density_at-none : (values : List (List ℕ)) (x : ℕ) → drop x values ≡ [] → density_at values x ≡ None
unfolding density_at
density_at-none values x none = rw (slice_get_past values x (omega (arith, length-drop x values, ap length none))) refl

pub density_at-word : (values rest : List (List ℕ)) (x : ℕ) (word : List ℕ) → drop x values ≡ word ∷ rest
    → density_at values x ≡ option_and_then density_of (number_of word)
unfolding density_at
density_at-word values rest x word here =
    let inside : x < length values = omega (arith, length-drop x values, ap length here) in
    let front = drop-cons values x word inside in
    let same : get_or values x word ≡ word = cc in
    rw (slice_get-get_or values x word inside, same) refl

-- ---- the values of all cells

pub refused : (values : List (List ℕ)) (n x : ℕ) → x < n → AreValues values x → density_at values x ≡ None → densities_in values n ≡ Err (Value x)
unfolding densities_in
refused values n x within before none = rw (find-first (λ k. is_none (density_at values k)) n x within before (ap is_none none)) refl

pub accepted : (values : List (List ℕ)) (n : ℕ) → AreValues values n → densities_in values n ≡ Ok (densities_of values n)
unfolding densities_in
accepted values n before = rw (find-none (λ k. is_none (density_at values k)) n before) refl

pub one_more : (values : List (List ℕ)) (x density : ℕ) → density_at values x ≡ Some density → densities_of values (x + 1) ≡ densities_of values x ++ density ∷ []
one_more values x density here =
    map-range_with_len_more (λ k. unwrap_or (density_at values k) 0) 0 x x (omega arith)
    ∙ ap (λ (o : Option ℕ). densities_of values x ++ unwrap_or o 0 ∷ []) here

pub length-densities_of : (values : List (List ℕ)) (n : ℕ) → length (densities_of values n) ≡ n
length-densities_of values n = length-map-range_with_len (λ k. unwrap_or (density_at values k) 0) 0 n
