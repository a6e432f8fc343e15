-- Counts of one number.
use Rattle.std.proofs.Common.{◌≡◌, ◌≢◌, ℕ, ◌+◌, ◌<◌, ◌≤◌, min, arith}
use Rattle.std.proofs.lemmas.Bool.Decides.{nat_tests}
use Rattle.lbm_board.specs.Entries.{one_if_same, one_if_below}

pub same_counts : (n : ℕ) → one_if_same n n ≡ 1
same_counts n = grind (arith, nat_tests)

pub other_counts_not : (n k : ℕ) → n ≢ k → one_if_same n k ≡ 0
other_counts_not n k ne = grind (arith, nat_tests)

pub same_if_counted : (n k : ℕ) → 0 < one_if_same n k → n ≡ k
same_if_counted n k some_one = grind (arith, nat_tests)

pub below_with_one_more : (k n pieces : ℕ) → n < pieces → one_if_below k (min n pieces) + one_if_same n k ≡ one_if_below k (min (n + 1) pieces)
below_with_one_more k n pieces room = grind (arith, nat_tests)

pub below_with_all : (k n pieces : ℕ) → pieces ≤ n → one_if_below k (min n pieces) ≡ one_if_below k (min (n + 1) pieces)
below_with_all k n pieces full = grind (arith, nat_tests)

pub below_at_most_one : (k n : ℕ) → one_if_below k n ≤ 1
below_at_most_one k n = grind (arith, nat_tests)

pub below_inside : (k n : ℕ) → 0 < one_if_below k n → k < n
below_inside k n some_one = grind (arith, nat_tests)

pub not_below : (k n : ℕ) → one_if_below k n ≡ 0 → n ≤ k
not_below k n none = grind (arith, nat_tests)

pub below_zero : (k n : ℕ) → 0 ≡ one_if_below k (min 0 n)
below_zero k n = grind (arith, nat_tests)
