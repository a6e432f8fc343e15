use Rattle.std.proofs.Common.{arith, ◌<◌, [], ◌∷◌, ◌++◌, Option, None, ap, sym, ◌∙◌}
use mathlib.Core.Option.{some}
use Rattle.atomic_table.specs.Table.{Me, turned}
use Rattle.lbm_board.specs.declared.record.View.{View}
use Rattle.lbm_board.specs.Entries.{only}
use Rattle.lbm_board.proofs.Claiming.{claim_allowed}
use Rattle.lbm_board.proofs.steps.draw.Goals as goal

pub fetch_add-found-requires : goal.fetch_add-found-requires
fetch_add-found-requires g c = let table = c.requires.seat in (
  table.2,
  (let words = table.0 in omega arith),
  claim_allowed c.args.table.now.key.turns c.args.table.now.key.given.value.items _ c.args.seat.now.id c.args.seat.now.me (only c.args.seat.now.me.0.records) table.3 table.4 c.requires.leave,
)

pub take_out-piece-requires : goal.take_out-piece-requires
take_out-piece-requires g c =
    let table = c.requires.seat in
    let inside : c.fetch_add-found.result < c.args.table.now.table_id.slots = let slots = table.1 in omega arith in
    let played = (c.fetch_add-found.ensures.2 (only c.args.seat.now.me.0.records) table.3).0 inside in
    (c.fetch_add-found.ensures.0 ∙ table.2, (played.0, c.args.seat.now.me.1, ap (λ (m : Me (Option g.row.T.Denot) (View g.row.T.Denot)). m.1) played.2))

pub returns-clause-piece : goal.returns-clause-piece
returns-clause-piece g c =
    let table = c.requires.seat in
    let inside : c.fetch_add-found.result < c.args.table.now.table_id.slots = let slots = table.1 in omega arith in
    let played = (c.fetch_add-found.ensures.2 (only c.args.seat.now.me.0.records) table.3).0 inside in
    let carried = c.args.seat.now.me.1 in
    let taken = c.take_out-piece.ensures.piece played.0 carried (ap (λ (m : Me (Option g.row.T.Denot) (View g.row.T.Denot)). m.1) played.2) in (
      omega arith,
      played.1 ∙ ap some (sym taken.0),
      played.3,
      c.turn.ensures.2 ∙ ap (λ (m : Me (Option g.row.T.Denot) (View g.row.T.Denot)). (m.0, turned m.1)) taken.1 ∙ (λ i. ((played.2 i).0, carried ++ (c.fetch_add-found.result, None) ∷ [])),
    )
