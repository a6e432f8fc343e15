use Rattle.std.proofs.Common.{ap, ◌∙◌, Fits, w32, rules, arith}
use Rattle.lbm_space.specs.Torus.{cells}
use Rattle.lbm_model.specs.Sets.{stencil_of}
use Rattle.lbm_case.specs.CaseOf.{drawing_of}
use Rattle.std.proofs.lemmas.Option.{cond_some}
use Rattle.lbm_case.specs.Views.{settings_view}
use Rattle.lbm_case.proofs.Ranges.{force_is_small, wall_is_small, wall_is_flat, momentum_is_allowed, layers_positive}
use Rattle.lbm_case.proofs.Even.{length-cells_of-box, are_densities, are_first_densities, are_moving}
use Rattle.lbm_case.proofs.drawing.case_drawn.Goals as goal

pub force_of-force-requires : goal.force_of-force-requires
force_of-force-requires c = force_is_small (settings_view c.args.settings.now) c.requires.ranged

pub force_of-velocity-requires : goal.force_of-velocity-requires
force_of-velocity-requires c = wall_is_small (settings_view c.args.settings.now) c.requires.ranged

pub with_wall-requires-clause-momentum : goal.with_wall-requires-clause-momentum
with_wall-requires-clause-momentum c = momentum_is_allowed (settings_view c.args.settings.now) c.args.set c.requires.ranged c.requires.set

pub with_wall-requires-clause-wall : goal.with_wall-requires-clause-wall
with_wall-requires-clause-wall c = rw c.force_of-velocity.ensures (wall_is_flat (settings_view c.args.settings.now) c.args.set c.requires.ranged c.requires.set)

pub moving_in-requires : goal.moving_in-requires
moving_in-requires c =
    let s = settings_view c.args.settings.now in
    let drawn = cond_some _ _ _ c.requires.space in
    let long = length-cells_of-box (stencil_of c.args.set).dimension _ (drawing_of s) (layers_positive s c.requires.ranged) c.requires.even ∙ ap cells drawn.1 in
    let fits : Fits w32 c.cells-count.result = search rules in
    rw (long, ← c.cells-count.ensures.count) (omega arith)

pub with_wall-requires-clause-densities : goal.with_wall-requires-clause-densities
with_wall-requires-clause-densities c =
    let s = settings_view c.args.settings.now in
    let drawn = cond_some _ _ _ c.requires.space in
    rw (c.in_ok-densities.ensures, ← drawn.1) (are_densities _ _ _ _ _ (layers_positive s c.requires.ranged) c.requires.even (omega arith) (omega arith))

pub with_wall-requires-clause-moving : goal.with_wall-requires-clause-moving
with_wall-requires-clause-moving c = rw (c.in_ok-densities.ensures, c.in_ok-cells.ensures) (are_moving _ _ _)

pub returns-clause-densities : goal.returns-clause-densities
returns-clause-densities c = rw (c.with_wall.ensures, c.in_ok-densities.ensures) (are_first_densities _ _ _ (omega arith) (omega arith))
