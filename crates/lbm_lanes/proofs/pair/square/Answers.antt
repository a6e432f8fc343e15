use Rattle.std.proofs.Common.{arith, refl}
use Rattle.std.specs.Prelude.{slice_index}
use Rattle.lbm_lanes.proofs.Quotients.{square_by, turned_is}
use Rattle.lbm_lanes.proofs.pair.square.Goals as goal

pub product-both-requires-clause-room : goal.product-both-requires-clause-room
product-both-requires-clause-room c l known =
    let by = square_by (slice_index c.args.raised l) (slice_index c.difference-turned.result l) _ (turned_is _ _ _ (c.all.ensures l known) (c.difference-turned.ensures l known)) (c.requires l known) refl in omega (arith, by.0)

pub difference-requires : goal.difference-requires
difference-requires c l known =
    let by = square_by (slice_index c.args.raised l) (slice_index c.difference-turned.result l) (slice_index c.product-both.result l) (turned_is _ _ _ (c.all.ensures l known) (c.difference-turned.ensures l known)) (c.requires l known) (c.product-both.ensures l known) in
    omega (arith, by.0, c.all-2.ensures l known)

pub returns : goal.returns
returns c l known =
    let by = square_by (slice_index c.args.raised l) (slice_index c.difference-turned.result l) (slice_index c.product-both.result l) (turned_is _ _ _ (c.all.ensures l known) (c.difference-turned.ensures l known)) (c.requires l known) (c.product-both.ensures l known) in
    omega (arith, by.0, by.1, c.all-2.ensures l known, c.difference.ensures l known)
