use Rattle.std.proofs.Common.{◌≡◌, length, sym, ap, refl, ◌∙◌, arith, Option, Some}
use Rattle.atomic_table.specs.Table.{Me}
use Rattle.lbm_board.specs.declared.record.View.{View}
use Rattle.lbm_board.specs.Models.{IsTurnOf, board_model, fresh_turn}
use Rattle.lbm_board.proofs.Numbered.{all_made}
use Rattle.lbm_board.proofs.board.Board.start.Goals as goal

pub invariant_of-board : goal.invariant_of-board
invariant_of-board g c =
    let made = c.in_ok-table.ensures in
    let count : length c.args.pieces.items ≡ c.len-count.result = sym c.args.pieces.ok.0 ∙ sym c.len-count.ensures in
    record {
      words = made.table.1;
      slots = made.table.2 ∙ count;
      given = ap length made.key.1 ∙ count;
      some_turn = let some = c.requires.turns.0 in let same = made.key.0 in omega arith;
      space = c.in-Ok.ensures.list;
      unclaimed = c.in-Ok.ensures.claims;
    }

pub returns-clause-turns : goal.returns-clause-turns
returns-clause-turns g c =
    let made = c.in_ok-table.ensures in
    let turns = c.make_turns-turns.result in
    let table = c.in_ok-table.table.shared in
    let many = c.make_turns-turns.ensures.count in
    let given = ap (λ (m : Me (Option g.row.T.Denot) (View g.row.T.Denot)). m.0.given) made.seat ∙ sym made.key.1 in (
      turns.ok.0 ∙ many ∙ made.key.0,
      all_made (fresh_turn table.table_id table.key.given.value.items) (IsTurnOf (board_model table.table_id table.key)) turns.items
          (λ k inside. c.make_turns-turns.ensures.fresh k (omega arith) ∙ (λ i. Some (fresh_turn (made.table.0 i) (given i) k))) (λ k. (refl, refl)),
    )
