use Rattle.std.proofs.Common.{arith, ◌∙◌}
use Rattle.lbm_lanes.specs.Lanes.{entry}
use Rattle.lbm_lanes.proofs.Wrapping.{lane_made, sum_is}
use Rattle.lbm_lanes.proofs.signed.plus.Goals as goal

pub returns : goal.returns
returns c = λ l known. lane_made _ c.args.a c.args.b l (omega arith) (omega arith) known ∙ sum_is (entry c.args.a l) (entry c.args.b l) (c.requires.first l known) (c.requires.second l known)
