use Rattle.std.specs.Prelude.{slice_index}
use Rattle.lbm_lanes.proofs.pair.shared_part.Goals as goal

pub returns-clause-value : goal.returns-clause-value
returns-clause-value c l known =
    let part = c.numerator-y.ensures.value l known in
    (part.0, slice_index c.numerator-y.result l, record { is_square = part.1; is_y = part.2; is_shared = c.shared.ensures.value l known })
