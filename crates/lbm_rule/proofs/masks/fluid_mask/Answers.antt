use Rattle.std.proofs.Common.{Bool, ◌/◌, ◌-◌, ◌^◌, ap, ◌∙◌, arith}
use Rattle.std.specs.Prelude.{◌&&◌, not}
use Rattle.lbm_lanes.specs.Lanes.{has}
use Rattle.lbm_lanes.proofs.Masks.{chosen_bit}
use Rattle.lbm_rule.proofs.FirstLanes.{first_lanes, first_lanes_fit}
use Rattle.lbm_rule.proofs.masks.fluid_mask.Goals as goal

pub returns : goal.returns
returns c j lane =
    chosen_bit (255 / 2 ^ (8 - c.args.n)) c.args.solid j (first_lanes_fit c.args.n c.requires.some c.requires.few) (omega arith) lane
    ∙ ap (λ (b : Bool). b && not (has c.args.solid j)) (first_lanes c.args.n j c.requires.some c.requires.few)
