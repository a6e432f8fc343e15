use Rattle.std.proofs.Common.{◌≡◌, ℕ, ◌+◌, List, slice_get, Some, sym, subst}
use Rattle.std.specs.Prelude.{Option}
use Rattle.lbm_rows.specs.Lending.{TileModel}
use Rattle.lbm_rows.specs.Tiles.{ArePieces}
use Rattle.lbm_sweep.specs.Steps.{IsStepTo}
use Rattle.lbm_rows.specs.Kept.{population_kept, state_kept}
use Rattle.lbm_rows.proofs.StepMade.{pieces_whole, report_fits, step_made}
use Rattle.lbm_rows.proofs.step.advance.Goals as goal

pub return_pieces-requires-clause-pieces : goal.return_pieces-requires-clause-pieces
return_pieces-requires-clause-pieces g c =
    subst (ArePieces c.args.case.now) (sym c.as_mut_slice-pieces.ensures.value)
    (pieces_whole c.args.case.now c.requires.valid c.args.t c.args.kept.now c.requires.kept c.args.division.per_tile c.in_ok-board.board.given c.in_ok-board.ensures.lent c.requires.small c.work_off-closed.result.pieces.items c.work_off-closed.result.least c.work_off-closed.ensures)

pub reported_cell-requires : goal.reported_cell-requires
reported_cell-requires g c =
    report_fits c.args.case.now c.requires.valid c.args.t c.args.kept.now c.requires.kept c.args.division.per_tile c.in_ok-board.board.given c.in_ok-board.ensures.lent c.requires.small c.work_off-closed.result.pieces.items c.work_off-closed.result.least c.work_off-closed.ensures

pub returns-clause-step : goal.returns-clause-step
returns-clause-step g c =
    let case = c.args.case.now in let new = c.return_pieces.new.kept in
    subst (λ (answer : Option ℕ). IsStepTo case (state_kept case c.args.t c.args.kept.now) (population_kept case (c.args.t + 1) new) answer) (sym c.reported_cell.ensures)
    (step_made case c.requires.valid c.args.t c.args.kept.now c.requires.kept c.args.division.per_tile c.in_ok-board.board.given c.in_ok-board.ensures.lent c.requires.small c.work_off-closed.result.pieces.items c.work_off-closed.result.least c.work_off-closed.ensures new
    (λ k tile is. c.return_pieces.ensures.back k tile (subst (λ (l : List (Option TileModel)). slice_get l k ≡ Some (Some tile)) (sym c.as_mut_slice-pieces.ensures.value) is)))
