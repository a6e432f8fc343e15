use Rattle.lbm_symmetry.proofs.Flow.{density-at, momentum-at, mass-moved, all_momentum-moved}
use Rattle.lbm_symmetry.proofs.laws.moment_law.Goals as goal

pub returns : goal.returns
returns c = record {
  density = λ m case s y can. density-at m case can s y;
  momentum = λ m case s y can. momentum-at m case can s y;
  mass = λ m case s can. mass-moved m case can s;
  total_momentum = λ m case s can. all_momentum-moved m case can s;
}
