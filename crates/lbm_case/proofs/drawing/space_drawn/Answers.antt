use Rattle.std.proofs.Common.{SomeIff}
use Rattle.lbm_space.specs.Torus.{IsSpace}
use Rattle.lbm_case.specs.Views.{settings_view}
use Rattle.lbm_case.specs.CaseOf.{box_drawn}
use Rattle.lbm_case.proofs.DrawingLemmas.{length-drawing_view}
use Rattle.lbm_case.proofs.Boxes.{given_space, two_or_three}
use Rattle.lbm_case.proofs.drawing.space_drawn.Goals as goal

pub returns : goal.returns
returns c =
    let s = settings_view c.args.settings.now in
    let given : SomeIff c.space_of.result (IsSpace (box_drawn c.args.set s)) (box_drawn c.args.set s) =
    rw (length-drawing_view c.args.settings.now.rows.now, ← c.dimension.ensures, ← c.width.ensures, ← c.layers-layers.ensures.value) c.space_of.ensures in
    given_space (box_drawn c.args.set s) c.space_of.result (two_or_three c.args.set) given
