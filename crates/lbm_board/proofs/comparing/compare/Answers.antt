use Rattle.std.proofs.Common.{◌≡◌, ap, sym, subst, ◌∙◌, arith, Option}
use Rattle.atomic_table.specs.Table.{Me, Joins}
use Rattle.lbm_board.specs.declared.record.View.{View}
use Rattle.lbm_board.specs.RunningRule.{RunningRule}
use Rattle.lbm_board.specs.Steps.{joined, spent, IsSameTurn}
use Rattle.lbm_board.proofs.TwoTurns.{compare_allowed, part_allowed, take_over_allowed, both_records, both_filled, both_leave, left_same, right_same}
use Rattle.lbm_board.proofs.comparing.compare.Goals as goal

pub load-requires : goal.load-requires
load-requires g c =
    let live = c.requires.live in
    let is = ap (λ (m : Me (Option g.row.T.Denot) (View g.row.T.Denot)). m.0) c.join.ensures.both in (
      c.join.ensures.table.0 ∙ c.requires.places.0,
      (let words = c.requires.table.0 in omega arith),
      compare_allowed c.args.table.now.key.turns c.args.table.now.key.given.value.items _ c.join.new.seat.id c.join.new.seat.me
          (both_filled _ c.args.one.now.me.0 c.args.two.now.me.0 c.join.new.seat.me.0 live.0 live.1 is),
    )

pub split_seat-back-requires : goal.split_seat-back-requires
split_seat-back-requires g c =
    let live = c.requires.live in
    let v : View g.row.T.Denot = c.args.one.now.me.0 in
    let w : View g.row.T.Denot = c.args.two.now.me.0 in
    let u : View g.row.T.Denot = c.load.new.seat.me.0 in
    let is : u ≡ joined v w = ap (λ (m : Me (Option g.row.T.Denot) (View g.row.T.Denot)). m.0) (c.load.ensures.2.0 ∙ c.join.ensures.both) in (
      c.load.ensures.0 ∙ c.join.ensures.table.0 ∙ c.requires.places.0,
      (let words = c.requires.table.0 in omega arith),
      part_allowed c.args.table.now.key.turns c.args.table.now.key.given.value.items c.load.new.seat.id u _ _ (both_records _ v w u live.0 live.1 is)
          (both_filled _ v w u live.0 live.1 is ∙ c.requires.table.1) (both_leave _ v w u live.0 live.1 is),
    )

pub join_seat-requires : goal.join_seat-requires
join_seat-requires g c =
    let live = c.requires.live in
    let v : View g.row.T.Denot = c.args.one.now.me.0 in
    let w : View g.row.T.Denot = c.args.two.now.me.0 in
    let u : View g.row.T.Denot = c.load.new.seat.me.0 in
    let is : u ≡ joined v w = ap (λ (m : Me (Option g.row.T.Denot) (View g.row.T.Denot)). m.0) (c.load.ensures.2.0 ∙ c.join.ensures.both) in
    let back = c.split_seat-back in
    let given = c.args.table.now.key.given.value.items in
    let turns = c.args.table.now.key.turns in
    let left : c.join.new.other.me.0 ≡ spent = ap (λ (m : Me (Option g.row.T.Denot) (View g.row.T.Denot)). m.0) c.join.ensures.left in
    let filled = ap (λ (m : Me (Option g.row.T.Denot) (View g.row.T.Denot)). m.0.filled) back.ensures.4 ∙ both_filled _ v w u live.0 live.1 is ∙ c.requires.table.1 in (
      c.join.ensures.table.2 ∙ c.requires.places.1,
      back.ensures.3 ∙ c.load.ensures.0 ∙ c.join.ensures.table.0 ∙ c.requires.places.0,
      ap (λ (m : Me (Option g.row.T.Denot) (View g.row.T.Denot)). m.1) back.ensures.4,
      (let words = c.requires.table.0 in omega arith),
      subst (λ (x : View g.row.T.Denot). Joins (RunningRule turns given) c.join.new.other.id x back.result.id back.result.me.0 back.result.me.0 spent) (sym left)
          (take_over_allowed turns given c.join.new.other.id back.result.id back.result.me.0 filled),
    )

pub returns-clause-same : goal.returns-clause-same
returns-clause-same g c =
    let live = c.requires.live in
    let v : View g.row.T.Denot = c.args.one.now.me.0 in
    let w : View g.row.T.Denot = c.args.two.now.me.0 in
    let u : View g.row.T.Denot = c.load.new.seat.me.0 in
    let is : u ≡ joined v w = ap (λ (m : Me (Option g.row.T.Denot) (View g.row.T.Denot)). m.0) (c.load.ensures.2.0 ∙ c.join.ensures.both) in
    let one = ap (λ (m : Me (Option g.row.T.Denot) (View g.row.T.Denot)). m.0) c.split_seat-back.ensures.2 in
    let two = ap (λ (m : Me (Option g.row.T.Denot) (View g.row.T.Denot)). m.0) (c.join_seat.ensures.2) ∙ ap (λ (m : Me (Option g.row.T.Denot) (View g.row.T.Denot)). m.0) c.split_seat-back.ensures.4 in (
      subst (IsSameTurn v) (sym one) (left_same _ v w u live.0 live.1 is),
      subst (IsSameTurn w) (sym two) (right_same _ v w u live.0 live.1 is c.requires.given),
    )

pub returns-clause-apart : goal.returns-clause-apart
returns-clause-apart g c =
    let live = c.requires.live in
    let is = ap (λ (m : Me (Option g.row.T.Denot) (View g.row.T.Denot)). m.0) c.join.ensures.both in
    c.load.ensures.2.1 _ _ (both_records _ c.args.one.now.me.0 c.args.two.now.me.0 c.join.new.seat.me.0 live.0 live.1 is)
