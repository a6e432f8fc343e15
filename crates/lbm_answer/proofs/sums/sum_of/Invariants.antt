use Rattle.std.proofs.Common.{◌≡◌, ◌*◌, ◌≤◌, take, pos, ◌+ℤ◌, unsigned_abs, fold}
use Rattle.lbm_answer.proofs.sums.sum_of.Given as goal

abbrev pub invariant-loop-population : goal.invariant-loop-population
invariant-loop-population l = record {
  sum_is : l.sum ≡ fold (λ a b. a +ℤ b) (pos 0) (take l.population-index l.pops);
  sum_small : unsigned_abs l.sum ≤ 2147483648 * l.population-index;
}
