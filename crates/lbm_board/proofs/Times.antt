-- How often a number stands in a list.
use Rattle.std.proofs.Common.{◌≡◌, ℕ, zero, suc, ◌+◌, ◌<◌, List, [], ◌∷◌, ◌++◌, length, drop, Some, slice_get, ap, arith}
use Rattle.std.specs.List.{remove}
use Rattle.lbm_board.specs.Entries.{one_if_same}
use Rattle.lbm_board.specs.Fields.{times}
use Rattle.lbm_board.proofs.Lists.{total_append}

pub times_more : (k n : ℕ) (ns : List ℕ) → times k (ns ++ n ∷ []) ≡ times k ns + one_if_same n k
times_more k n ns = let more = total_append (λ m. one_if_same m k) ns (n ∷ []) in omega arith

-- a number that stands from a place on
pub stands_inside : (k n : ℕ) (ns : List ℕ) → 0 < times k (drop n ns) → n < length ns
stands_inside k zero [] h = absurd (omega arith)
stands_inside k (suc n) [] h = absurd (omega arith)
stands_inside k zero (m ∷ ms) h = omega arith
stands_inside k (suc n) (m ∷ ms) h = let rest = stands_inside k n ms h in omega arith

-- the number that stands at a place is one more than the others
pub times_remove : (k n m : ℕ) (ns : List ℕ) → slice_get ns n ≡ Some m → times k ns ≡ times k (remove ns n) + one_if_same m k
times_remove k n m [] e = cc
times_remove k zero m (x ∷ xs) e = let same : x ≡ m = cc in let counts : one_if_same x k ≡ one_if_same m k = ap (λ (z : ℕ). one_if_same z k) same in omega arith
times_remove k (suc n) m (x ∷ xs) e = let rest = times_remove k n m xs e in omega arith

pub length_remove : (n m : ℕ) (ns : List ℕ) → slice_get ns n ≡ Some m → length ns ≡ length (remove ns n) + 1
length_remove n m [] e = cc
length_remove zero m (x ∷ xs) e = omega arith
length_remove (suc n) m (x ∷ xs) e = let rest = length_remove n m xs e in omega arith
