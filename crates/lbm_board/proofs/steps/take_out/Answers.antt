use Rattle.std.proofs.Common.{Some}
use Rattle.lbm_board.proofs.Front.{front}
use Rattle.lbm_board.proofs.steps.take_out.Goals as goal

pub exchange-requires : goal.exchange-requires
exchange-requires g c = (c.requires.0, (Some c.requires.1.0, front _ _ _ c.requires.1.2))
