use Rattle.std.proofs.Common.{Some, ap, ◌∙◌}
use Rattle.std.proofs.lemmas.Option.{slice_get-get_or}
use Rattle.lbm_board.proofs.Times.{stands_inside}
use Rattle.lbm_board.proofs.holding.place_of.Goals as goal

pub returns : goal.returns
returns c =
    let inside = stands_inside c.args.number c.loop-place.place c.args.numbers.now c.loop-place.invariant in
    slice_get-get_or c.args.numbers.now c.loop-place.place 0 inside ∙ ap Some c.loop-place-test.false
