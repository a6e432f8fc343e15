use Rattle.std.proofs.Common.{None}
use Rattle.lbm_board.proofs.Front.{front}
use Rattle.lbm_board.proofs.steps.put_in.Goals as goal

pub exchange-requires : goal.exchange-requires
exchange-requires g c = (c.requires.0, (None, front _ _ _ c.requires.1.1))
