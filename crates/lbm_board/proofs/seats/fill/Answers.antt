use Rattle.std.proofs.Common.{◌≡◌, [], ◌∷◌, true, Option, Some, None, sym, ap, subst, ◌∙◌, arith}
use mathlib.Core.Option.{none}
use Rattle.atomic_table.specs.Table.{Me, Allows, step}
use Rattle.lbm_board.specs.declared.record.View.{View}
use Rattle.lbm_board.specs.RunningRule.{opening_view, RunningRule}
use Rattle.lbm_board.specs.Steps.{TookToFill, GaveFilled}
use Rattle.lbm_board.proofs.Filling.{take_allowed, give_allowed}
use Rattle.lbm_board.proofs.seats.fill.Goals as goal

pub load-requires : goal.load-requires
load-requires g c =
    let key = c.args.table.now.key in
    let slots = c.args.table.now.table_id.slots in
    let v = c.args.seat.now.me.0 in (
      c.requires.table.0,
      (let words = c.requires.table.1 in omega arith),
      subst (λ (m : Me (Option g.row.T.Denot) (View g.row.T.Denot)). Allows (RunningRule key.turns key.given.value.items) slots c.args.seat.now.id m 0 (λ n. n) (TookToFill (step slots 0 0 0 none) m)) (sym c.requires.seat)
          (take_allowed key.turns key.given.value.items slots c.args.seat.now.id v.leave v.given c.args.number [] c.requires.table.2),
    )

pub load-requires-2 : goal.load-requires-2
load-requires-2 g c =
    let key = c.args.table.now.key in
    let slots = c.args.table.now.table_id.slots in
    let v = c.args.seat.now.me.0 in
    let numbered = ap (λ (m : Me (Option g.row.T.Denot) (View g.row.T.Denot)). m.0.filled) c.requires.seat in
    let empty = ap (λ (m : Me (Option g.row.T.Denot) (View g.row.T.Denot)). m.1) c.requires.seat in
    let took : c.load.new.seat.me ≡ (opening_view v.leave v.given c.args.number true, (c.args.number, None) ∷ []) = c.load.ensures.2 ∙ (λ i. (opening_view v.leave v.given (numbered i) true, (numbered i, None) ∷ empty i)) in
    let put = c.put_in.ensures.piece [] (ap (λ (m : Me (Option g.row.T.Denot) (View g.row.T.Denot)). m.1) took) in
    let now : c.put_in.new.seat.me ≡ (opening_view v.leave v.given c.args.number true, (c.args.number, Some c.args.piece) ∷ []) = put ∙ (λ i. ((took i).0, (c.args.number, Some c.args.piece) ∷ [])) in (
      c.put_in.ensures.place.0 ∙ (c.load.ensures.0 ∙ c.requires.table.0),
      (let words = c.requires.table.1 in omega arith),
      subst (λ (m : Me (Option g.row.T.Denot) (View g.row.T.Denot)). Allows (RunningRule key.turns key.given.value.items) slots c.put_in.new.seat.id m 0 (λ n. n) (GaveFilled (step slots 0 0 0 none) m)) (sym now)
          (give_allowed key.turns key.given.value.items slots c.put_in.new.seat.id v.leave v.given c.args.number c.args.piece [] c.requires.table.2 c.requires.piece),
    )
