use Rattle.std.proofs.Common.{◌≢◌, Bool, false, List, [], ◌∷◌, ◌++◌, get_or, sym, ap, ◌∙◌, arith, Option}
use lib.ListN.{get_elem?}
use Rattle.std.proofs.lemmas.List.{take_all}
use Rattle.std.specs.Mem.Slots.{slots_filled, slots_items, slots_counts}
use Rattle.lbm_board.specs.Closing.{without}
use Rattle.lbm_board.proofs.Taking.{kept, cleared_below, one_more_taken, length-without}
use Rattle.lbm_board.proofs.closing.take_pieces.Goals as goal

pub loop-number-preserved : goal.loop-number-preserved
loop-number-preserved g c =
    let h = c.loop-number.invariant in
    let number = c.loop-number.number in
    let slots : List (Option g.row.T.Denot) = slots_items c.args.closed.slots in
    let filled : List Bool = slots_filled c.loop-number.closed.slots in
    let others = c.take-piece.ensures.others in
    let before = h.long in
    let test = c.loop-number-test.true in
    let count = c.slot_count.ensures in
    record {
      still_full = λ k above below. let long = others.2 in let other : k ≢ number = omega arith in ap (λ (fs : List Bool). get_or fs k false) others.1 ∙ kept filled number k other ∙ h.still_full k (omega arith) (omega arith);
      empty = λ k below. ap (λ (fs : List Bool). get_or fs k false) others.1 ∙ cleared_below filled number k h.empty below;
      items = others.0 ∙ h.items;
      long = others.2 ∙ h.long;
      taken = c.push_reserved.ensures.items ∙ (λ i. h.taken i ++ c.finished_piece.ensures i ∷ [])
          ∙ sym (one_more_taken c.args.unfinished.now slots number c.take-piece.result (c.requires.flags ∙ (slots_counts c.args.closed.slots).0) (ap (λ (l : List (Option g.row.T.Denot)). get_elem? l number) (sym h.items) ∙ c.take-piece.ensures.value));
      count = omega arith;
      room = c.push_reserved.ensures.capacity ∙ h.room;
    }

pub returns-clause-pieces : goal.returns-clause-pieces
returns-clause-pieces g c =
    let h = c.loop-number.invariant in
    let slots : List (Option g.row.T.Denot) = slots_items c.args.closed.slots in
    let counts = (slots_counts c.args.closed.slots).0 in
    let many = length-without c.args.unfinished.now slots (c.requires.flags ∙ counts) in
    let before = h.long in
    let test = c.loop-number-test.false in
    let count = c.slot_count.ensures in
    h.taken ∙ take_all c.loop-number.number (without c.args.unfinished.now slots) (omega arith)
