use Rattle.std.proofs.Common.{◌≡◌, ℕ, ◌%◌, ◌<◌, List, slice_index_or, sym, ap, subst, ◌∙◌}
use Rattle.lbm_space.specs.Torus.{Torus}
use Rattle.lbm_tracer.specs.Tracing.{set_in}
use Rattle.lbm_tracer.specs.Carried.{amount_in}
use Rattle.lbm_tracer.specs.Rows.{cell_at}
use Rattle.lbm_tracer.proofs.Rows.{row_known, row_cell}
use Rattle.lbm_tracer.proofs.slots.amounts_at.Goals as goal

pub of-row-requires : goal.of-row-requires
of-row-requires g c =
    let t = c.args.space.now in let wide : slice_index_or c.sides.result 0 0 ≡ t.nx = ap (λ (s : List ℕ). slice_index_or s 0 0) c.sides.ensures.value in
    rw wide (row_known t c.args.cell c.sides.ensures.valid c.requires.cell)

pub returns : goal.returns
returns g c =
    let t = c.args.space.now in let w = slice_index_or c.sides.result 0 0 in let r = c.of-row.result in let e = c.of-row.ensures in let slots = c.args.region.now.slots in
    let wide : w ≡ t.nx = ap (λ (s : List ℕ). slice_index_or s 0 0) c.sides.ensures.value in
    let at : cell_at r (c.args.cell % w) ≡ c.args.cell = row_cell r t w c.args.cell e.row e.space wide e.number in
    λ k known. c.amounts_in_row.ensures k (subst (λ (u : Torus). k < (set_in u).directions) (sym e.space) known) ∙ (λ j. amount_in (e.space j) (e.time j) slots (at j) k)
