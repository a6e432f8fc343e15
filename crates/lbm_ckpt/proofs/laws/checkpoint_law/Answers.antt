use Rattle.lbm_ckpt.specs.declared.version.Version.TheVariants.{One, Two}
use Rattle.lbm_ckpt.proofs.Round.{read_again, exact_size, one_spelling}
use Rattle.lbm_ckpt.proofs.laws.checkpoint_law.Goals as goal

pub returns : goal.returns
returns c = record { written = read_again Two; old = read_again One; one_spelling = one_spelling; size = exact_size }
