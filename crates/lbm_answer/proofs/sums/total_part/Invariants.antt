use Rattle.std.proofs.Common.{◌≡◌, ◌*◌, ◌≤◌, take, unsigned_abs}
use Rattle.lbm_answer.specs.Reports.{moment_part, total}
use Rattle.lbm_answer.proofs.sums.total_part.Given as goal

abbrev pub invariant-loop-moment : goal.invariant-loop-moment
invariant-loop-moment l = record {
  sum_is : l.sum ≡ total (λ m. moment_part m l.axis) (take l.moment-index l.moments);
  sum_small : unsigned_abs l.sum ≤ 68719476736 * l.moment-index;
}
