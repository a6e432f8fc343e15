use Rattle.lbm_symmetry.proofs.Accepted.{accepted}
use Rattle.lbm_symmetry.proofs.Flow.{first-moved, next-moved, limits-moved, limits-former, run-moved, range-moved, symmetric-first, symmetry_stays}
use Rattle.lbm_symmetry.proofs.laws.flow_law.Goals as goal

pub returns : goal.returns
returns c = record {
  accepted = accepted;
  first = first-moved;
  next = λ m case s can. next-moved m case can s;
  limits = λ m case s can. (limits-former m case can s, limits-moved m case can s);
  run = λ m case s end time steps can. run-moved m case can s end time steps;
  range = λ m case s time steps end x can. range-moved m case can s time steps end x;
  symmetric_first = symmetric-first;
  symmetric = λ m case s end time steps can. symmetry_stays m case can s end time steps;
}
