-- The first populations, and a list of populations cell by cell.
use Rattle.std.proofs.Common.{◌≡◌, ℕ, zero, suc, ◌+◌, ◌*◌, ◌/◌, ◌%◌, ◌<◌, ◌≤◌, ℤ, false, List, [], ◌∷◌, ◌++◌, append_assoc, length, refl, ap, sym, ◌∙◌, arith, subst}
use Rattle.std.proofs.lemmas.Nat.{div-mul-add, mod-mul-add}
use Rattle.std.proofs.lemmas.List.{append-nil}
use Rattle.std.proofs.Math.Nat.{mul-le-mul_right, mul-mod_left}
use Rattle.std.proofs.lemmas.List.FromFn.{map-range_with_len_more, length-map-range_with_len}
use Rattle.lbm_space.specs.Sum.{list_below}
use Rattle.lbm_space.specs.Stencil.{Stencil}
use Rattle.lbm_space.specs.Torus.{cells}
use Rattle.lbm_model.specs.State.{FlowState, IsState, flow_state}
use Rattle.lbm_model.specs.Case.{FlowCase, is_solid, source}
use Rattle.lbm_model.specs.Flow.{fluid_first, wall_first, first_in, first}

-- what a wall holds of a fluid neighbour
pub wall_first-fluid : (case : FlowCase) (x i from : ℕ) → from ≡ source case x i → is_solid case from ≡ false → wall_first case x i ≡ fluid_first case from i
wall_first-fluid case x i from is fluid =
    let fluid_source : is_solid case (source case x i) ≡ false = subst (λ (y : ℕ). is_solid case y ≡ false) is fluid in
    rw fluid_source (ap (λ (y : ℕ). fluid_first case y i) (sym is))

-- a list in two parts
list_below-split : (m n : ℕ) (f : ℕ → ℤ) → list_below (m + n) f ≡ list_below m f ++ list_below n (λ k. f (m + k))
list_below-split m zero f = let e : m + 0 ≡ m = omega arith in rw e (sym (append-nil (list_below m f)))
list_below-split m (suc n) f =
    let e : m + (n + 1) ≡ m + n + 1 = omega arith in
    let one : n + 1 ≡ suc n = omega arith in
    let last : list_below (m + n + 1) f ≡ list_below (m + n) f ++ f (m + n) ∷ [] = map-range_with_len_more f 0 (m + n) (m + n) (omega arith) in
    let inner : list_below (n + 1) (λ k. f (m + k)) ≡ list_below n (λ k. f (m + k)) ++ f (m + n) ∷ [] = map-range_with_len_more (λ k. f (m + k)) 0 n n (omega arith) in
    subst (λ (k : ℕ). list_below (m + k) f ≡ list_below m f ++ list_below k (λ i. f (m + i))) one
    (ap (λ (k : ℕ). list_below k f) e ∙ last ∙ ap (λ (xs : List ℤ). xs ++ f (m + n) ∷ []) (list_below-split m n f)
    ∙ append_assoc (list_below m f) (list_below n (λ k. f (m + k))) (f (m + n) ∷ []) ∙ ap (λ (xs : List ℤ). list_below m f ++ xs) (sym inner))

pub list_below-same : (n : ℕ) (f g : ℕ → ℤ) → ((k : ℕ) → k < n → f k ≡ g k) → list_below n f ≡ list_below n g
list_below-same zero f g same = refl
list_below-same (suc n) f g same =
    let one : n + 1 ≡ suc n = omega arith in
    let f_more : list_below (n + 1) f ≡ list_below n f ++ f n ∷ [] = map-range_with_len_more f 0 n n (omega arith) in
    let g_more : list_below (n + 1) g ≡ list_below n g ++ g n ∷ [] = map-range_with_len_more g 0 n n (omega arith) in
    let front : list_below n f ≡ list_below n g = list_below-same n f g (λ k below. same k (omega arith)) in
    let last : f n ≡ g n = same n (omega arith) in
    subst (λ (k : ℕ). list_below k f ≡ list_below k g) one
    (f_more ∙ ap (λ (xs : List ℤ). xs ++ f n ∷ []) front ∙ ap (λ (z : ℤ). list_below n g ++ z ∷ []) last ∙ sym g_more)

-- one cell more
pub list_below_cell : (q w x : ℕ) (xs ys : List ℤ) (f : ℕ → ℕ → ℤ) (h : ℕ → ℤ) → w ≡ q → ((i : ℕ) → i < q → h i ≡ f x i) → xs ≡ list_below (x * q) (λ k. f (k / q) (k % q)) → ys ≡ xs ++ list_below w h →
    ys ≡ list_below ((x + 1) * q) (λ k. f (k / q) (k % q))
list_below_cell q w x xs ys f h width same e more =
    let sizes : (x + 1) * q ≡ x * q + q = omega arith in
    let here : list_below q h ≡ list_below q (λ i. f ((x * q + i) / q) ((x * q + i) % q)) =
    list_below-same q h (λ i. f ((x * q + i) / q) ((x * q + i) % q)) (λ i known. same i known ∙ sym (ap (λ (y : ℕ). f y ((x * q + i) % q)) (div-mul-add x q i known) ∙ ap (f x) (mod-mul-add x q i known))) in
    more ∙ ap (λ (n : ℕ). xs ++ list_below n h) width ∙ ap (λ (zs : List ℤ). zs ++ list_below q h) e ∙ ap (λ (zs : List ℤ). list_below (x * q) (λ k. f (k / q) (k % q)) ++ zs) here
    ∙ sym (list_below-split (x * q) q (λ k. f (k / q) (k % q))) ∙ ap (λ (n : ℕ). list_below n (λ k. f (k / q) (k % q))) (sym sizes)

-- a list of whole cells is a state
pub IsState-whole : (q n : ℕ) (f : ℕ → ℤ) → 0 < q → q ≤ 27 → n ≤ 4194304 → IsState (flow_state q (list_below (n * q) f))
IsState-whole q n f some few small =
    let size : length (list_below (n * q) f) ≡ n * q = length-map-range_with_len f 0 (n * q) in
    record {
      some_direction = some;
      few_directions = few;
      whole_cells = rw size (mul-mod_left n q);
      few_cells = rw size (mul-le-mul_right q small);
    }

-- the first state, from the list of its populations
pub is_first : (case : FlowCase) (v : Stencil) (w n : ℕ) (xs : List ℤ) (s : FlowState) → case.stencil ≡ v → w ≡ v.directions → n ≡ cells case.torus → xs ≡ list_below (n * v.directions) (λ k. first_in case (k / v.directions) (k % v.directions)) → s ≡ flow_state w xs →
    s ≡ first case
is_first case v w n xs s set width all made is =
    let of_set = λ (s : Stencil). flow_state s.directions (list_below (cells case.torus * s.directions) (λ k. first_in case (k / s.directions) (k % s.directions))) in
    is
    ∙ ap (λ (k : ℕ). flow_state k xs) width
    ∙ ap (flow_state v.directions) made
    ∙ ap (λ (k : ℕ). flow_state v.directions (list_below (k * v.directions) (λ j. first_in case (j / v.directions) (j % v.directions)))) all
    ∙ ap of_set (sym set)
