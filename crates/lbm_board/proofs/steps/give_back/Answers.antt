use Rattle.std.proofs.Common.{arith, ◌≤◌, Option, ap, sym, ◌∙◌}
use Rattle.atomic_table.specs.Table.{Me}
use Rattle.lbm_board.specs.declared.record.Entry.TheVariants.{Finish}
use Rattle.lbm_board.specs.declared.record.View.{View}
use Rattle.lbm_board.specs.Entries.{told, latest, only}
use Rattle.lbm_board.specs.Steps.{after_entry}
use Rattle.lbm_board.proofs.Reporting.{finish_allowed}
use Rattle.lbm_board.proofs.steps.give_back.Goals as goal

pub fetch_min-found-requires : goal.fetch_min-found-requires
fetch_min-found-requires g c =
    let table = c.requires.seat.1 in
    let r = only c.args.seat.now.me.0.records in
    let put = c.put_in.ensures.piece c.requires.slot.0 c.requires.slot.1 in (
      c.put_in.ensures.place.0 ∙ table.2,
      (let words = table.0 in omega arith),
      finish_allowed c.args.table.now.key.turns c.args.table.now.key.given.value.items _ c.put_in.new.seat.id c.put_in.new.seat.me r c.args.number c.args.piece c.requires.slot.0 c.args.least
          (ap (λ (m : Me (Option g.row.T.Denot) (View g.row.T.Denot)). m.0.records) put ∙ table.3) (ap (λ (m : Me (Option g.row.T.Denot) (View g.row.T.Denot)). m.0.filled) put ∙ table.4) (ap (λ (m : Me (Option g.row.T.Denot) (View g.row.T.Denot)). m.1) put) c.requires.held,
    )

pub returns-clause-answer : goal.returns-clause-answer
returns-clause-answer g c =
    let table = c.requires.seat.1 in
    let r = only c.args.seat.now.me.0.records in
    let put = c.put_in.ensures.piece c.requires.slot.0 c.requires.slot.1 in
    let played = c.fetch_min-found.ensures.2 r (ap (λ (m : Me (Option g.row.T.Denot) (View g.row.T.Denot)). m.0.records) put ∙ table.3) c.args.number c.args.piece c.requires.slot.0
    (ap (λ (m : Me (Option g.row.T.Denot) (View g.row.T.Denot)). m.1) put) in
    let known : c.fetch_min-found.result ≤ told r.entries = played.1 in
    let answer = c.min.ensures in
    (omega arith, omega arith)

pub returns-clause-given : goal.returns-clause-given
returns-clause-given g c rest holds =
    let table = c.requires.seat.1 in
    let r = only c.args.seat.now.me.0.records in
    let put = c.put_in.ensures.piece rest holds in
    let played = c.fetch_min-found.ensures.2 r (ap (λ (m : Me (Option g.row.T.Denot) (View g.row.T.Denot)). m.0.records) put ∙ table.3) c.args.number c.args.piece rest
    (ap (λ (m : Me (Option g.row.T.Denot) (View g.row.T.Denot)). m.1) put) in
    played.0 ∙ (λ i. (after_entry (put i).0 r (Finish c.args.number c.args.piece c.args.least (sym c.min.ensures i) (latest c.args.table.now.table_id.slots r.entries)), rest))
