use Rattle.std.proofs.Common.{◌+◌, ◌-◌, ◌<◌, FitsSigned, w64, slice_index, ap, sym, subst, ◌∙◌, arith, rules}
use Rattle.std.proofs.lemmas.Int.{to_z-of_z}
use Rattle.std.proofs.lemmas.Nat.{mod_below}
use Rattle.lbm_space.specs.Stencil.{Stencil}
use Rattle.lbm_cell.specs.Rows.{entry}
use Rattle.lbm_rows.proofs.CellRows.{number_known, own_set, read_is, start_known}
use Rattle.lbm_rows.proofs.reading.CellRow.population.Goals as goal

pub slot_of-slot-requires-clause-start : goal.slot_of-slot-requires-clause-start
slot_of-slot-requires-clause-start g c =
    let r = c.args.self.now in
    start_known r (own_set g.V.VelocitySet.stencil r c.requires.row) c.args.dir (subst (λ (v : Stencil). c.args.dir < v.directions) (sym c.requires.row.set) c.requires.direction)

pub slot_in-requires-clause-row : goal.slot_in-requires-clause-row
slot_in-requires-clause-row g c =
    let r = c.args.self.now in
    let known = number_known r (own_set g.V.VelocitySet.stencil r c.requires.row) c.args.dir (subst (λ (v : Stencil). c.args.dir < v.directions) (sym c.requires.row.set) c.requires.direction) in
    omega (arith, known, c.requires.kept.count)

pub slot_in-requires-clause-inside : goal.slot_in-requires-clause-inside
slot_in-requires-clause-inside g c =
    let r = c.args.self.now in
    let known = number_known r (own_set g.V.VelocitySet.stencil r c.requires.row) c.args.dir (subst (λ (v : Stencil). c.args.dir < v.directions) (sym c.requires.row.set) c.requires.direction) in
    let long = c.requires.kept.lengths (slice_index r.numbers c.args.dir) known in let x = c.requires.x in
    let column = mod_below (c.args.x + slice_index r.starts c.args.dir + (r.width - 1)) r.width (omega arith) in
    omega (arith, long, column, c.requires.row.width, c.slot_of-slot.ensures)

pub returns : goal.returns
returns g c =
    let r = c.args.self.now in
    let fits : FitsSigned w64 c.slot_in.result = search rules in
    to_z-of_z w64 c.slot_in.result fits ∙ c.slot_in.ensures ∙ ap (entry c.args.kept.now (slice_index r.numbers c.args.dir)) c.slot_of-slot.ensures
    ∙ read_is r (own_set g.V.VelocitySet.stencil r c.requires.row) c.args.kept.now c.args.x c.args.dir c.requires.x (subst (λ (v : Stencil). c.args.dir < v.directions) (sym c.requires.row.set) c.requires.direction)
