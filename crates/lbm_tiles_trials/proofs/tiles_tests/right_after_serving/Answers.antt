use Rattle.std.proofs.Common.{List, ℤ, sym, subst}
use Rattle.std.specs.Prelude.{Some}
use Rattle.std.proofs.lemmas.List.Elements.{All-pop}
use Rattle.lbm_model.specs.Small.{IsSmall}
use Rattle.lbm_model.proofs.SmallStates.{small-narrow}
use Rattle.lbm_rows.specs.Kept.{state_kept}
use Rattle.lbm_rows.specs.Serving.{CanServe}
use Rattle.lbm_tiles_trials.proofs.tiles_tests.right_after_serving.Goals as goal

pub deal-requires-clause-small : goal.deal-requires-clause-small
deal-requires-clause-small g c =
    let case = c.args.case in
    let small = small-narrow case c.in_ok-state.state c.space.ensures.valid c.in_ok-state.ensures.state c.in_ok-state.ensures.narrow in
    subst (λ (rows : List (List ℤ)). IsSmall case (state_kept case c.args.t rows)) (sym c.as_mut_slice-rows.ensures.value)
    (subst (IsSmall case) (sym c.in_ok-kept.ensures.placed) small)

-- the turn that is taken last is one of those that the deal made, and so are those that are left
pub served_in_two_threads-first-requires-clause-second : goal.served_in_two_threads-first-requires-clause-second
served_in_two_threads-first-requires-clause-second g c =
    (All-pop (CanServe c.args.case c.args.t c.in_ok-board.board) c.in_ok-board.turns.items c.pop.new.self.items (Some c.in-Some.second) c.in-Some.ensures.items c.in_ok-board.ensures.able).1

pub served_in_two_threads-first-requires-clause-first : goal.served_in_two_threads-first-requires-clause-first
served_in_two_threads-first-requires-clause-first g c =
    let can = CanServe c.args.case c.args.t c.in_ok-board.board in
    let left = (All-pop can c.in_ok-board.turns.items c.pop.new.self.items (Some c.in-Some.second) c.in-Some.ensures.items c.in_ok-board.ensures.able).0 in
    (All-pop can c.pop.new.self.items c.pop-2.new.self.items (Some c.in-Some-pop.first) c.in-Some-pop.ensures.items left).1
