use Rattle.lbm_model.proofs.SmallStates.{narrow-first, small-narrow, small-next, narrow-reached}
use Rattle.lbm_model.proofs.laws.size_law.Goals as goal

pub returns : goal.returns
returns c = record { first = narrow-first; narrow = small-narrow; next = small-next; reached = narrow-reached }
