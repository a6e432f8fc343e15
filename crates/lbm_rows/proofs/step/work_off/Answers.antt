use Rattle.std.proofs.Common.{◌≡◌, ℕ, ◌<◌, List, length, map, slice_get, ap, ◌∙◌, subst, arith}
use Rattle.std.proofs.lemmas.List.{with_items_is}
use Rattle.lbm_board.specs.BoardRecord.{IsClosed}
use Rattle.lbm_board.specs.Models.{TurnModel, log_of}
use Rattle.lbm_rows.specs.Lending.{TileModel}
use Rattle.lbm_rows.proofs.StepMade.{closed_off}
use Rattle.lbm_rows.proofs.step.work_off.Goals as goal

pub returns : goal.returns
returns g c =
    let board = c.args.board in let old = c.as_mut_slice-all.result.now in let new = c.serve_all.new.turns in let value = c.as_mut_slice-all.ensures.value in
    let items = with_items_is c.args.turns new (c.serve_all.ensures.count ∙ c.as_mut_slice-all.ensures.len) in
    let closed = subst (λ (ts : List (TurnModel TileModel)). IsClosed board.given (map log_of ts) c.close.result.pieces.items c.close.result.drawn.items c.close.result.least) items c.close.ensures in
    let many : length old ≡ board.turns = ap (λ (ts : List (TurnModel TileModel)). length ts) value ∙ c.requires.turns.1 in
    let some : 0 < length new = omega (arith, c.requires.turns.0, many, c.serve_all.ensures.count) in
    closed_off c.args.case.now c.args.t board old new c.close.result.pieces.items c.close.result.drawn.items c.close.result.least closed some c.serve_all.ensures.count
    (λ k below. ap (λ (ts : List (TurnModel TileModel)). slice_get ts k) value ∙ c.requires.fresh k (subst (λ (m : ℕ). k < m) many below))
    c.serve_all.ensures.each
