-- A list with one value written at several places.
use Rattle.std.proofs.Common.{◌≡◌, ◌≢◌, ℕ, zero, suc, ◌+◌, ◌<◌, List, [], ◌∷◌, length, get_or, set, take, Some, slice_get, sym, ap, refl, ◌∙◌, arith, add-one}
use mathlib.Core.Logic.{dite}
use native.Mathlib.Decide.{ℕ_discrete}
use Rattle.lbm_board.specs.Entries.{one_if_same}
use Rattle.lbm_board.specs.Fields.{times}
use Rattle.lbm_board.proofs.Counts.{same_counts, other_counts_not}

module _ {A : Type 0} where
  pub slice_get-set_here : (xs : List A) (i : ℕ) (v : A) → i < length xs → slice_get (set xs i v) i ≡ Some v
  slice_get-set_here [] i v inside = absurd (omega arith)
  slice_get-set_here (x ∷ xs) zero v inside = refl
  slice_get-set_here (x ∷ xs) (suc i) v inside = slice_get-set_here xs i v (omega arith)

  pub slice_get-set_else : (xs : List A) (i k : ℕ) (v : A) → k ≢ i → slice_get (set xs i v) k ≡ slice_get xs k
  slice_get-set_else [] i k v other = refl
  slice_get-set_else (x ∷ xs) zero zero v other = absurd (other refl)
  slice_get-set_else (x ∷ xs) zero (suc k) v other = refl
  slice_get-set_else (x ∷ xs) (suc i) zero v other = refl
  slice_get-set_else (x ∷ xs) (suc i) (suc k) v other = slice_get-set_else xs i k v (λ e. other (ap suc e))

pub times-take_more : (k i : ℕ) (ns : List ℕ) → i < length ns → times k (take (i + 1) ns) ≡ times k (take i ns) + one_if_same (get_or ns i 0) k
times-take_more k i ns inside = ap (λ (j : ℕ). times k (take j ns)) (add-one i) ∙ next k i ns inside where
  next : (k i : ℕ) (ns : List ℕ) → i < length ns → times k (take (suc i) ns) ≡ times k (take i ns) + one_if_same (get_or ns i 0) k
  next k i [] inside = absurd (omega arith)
  next k zero (n ∷ ns) inside = omega arith
  next k (suc i) (n ∷ ns) inside = let rest = next k i ns (omega arith) in omega arith

module _ {A : Type 0} (first now : List A) (v : A) (ns : List ℕ) (i : ℕ) (inside : i < length ns) (there : get_or ns i 0 < length now) where
  abbrev place : ℕ
  place = get_or ns i 0

  pub written_more : ((k : ℕ) → 0 < times k (take i ns) → slice_get now k ≡ Some v) → (k : ℕ) → 0 < times k (take (i + 1) ns) → slice_get (set now place v) k ≡ Some v
  written_more before k some = dite (ℕ_discrete k place)
      (λ here. ap (slice_get (set now place v)) here ∙ slice_get-set_here now place v there)
      (λ other. let more = times-take_more k i ns inside in let none = other_counts_not place k (λ e. other (sym e)) in
      slice_get-set_else now place k v other ∙ before k (omega arith))

  pub kept_more : ((k : ℕ) → times k (take i ns) ≡ 0 → slice_get now k ≡ slice_get first k) → (k : ℕ) → times k (take (i + 1) ns) ≡ 0 → slice_get (set now place v) k ≡ slice_get first k
  kept_more before k none =
      let more = times-take_more k i ns inside in
      let other : k ≢ place = λ same. let counts : one_if_same place k ≡ 1 = ap (λ (z : ℕ). one_if_same z k) (sym same) ∙ same_counts k in omega arith in
      slice_get-set_else now place k v other ∙ before k (omega arith)
