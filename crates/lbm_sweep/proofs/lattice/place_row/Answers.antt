use Rattle.std.proofs.Common.{◌≡◌, ◌≢◌, ◌<◌, refl, ◌∙◌, inl, inr, subst, arith}
use Rattle.std.proofs.lemmas.Bool.{cases_lt}
use Rattle.lbm_space.specs.Stencil.{Stencil}
use Rattle.lbm_arrays.proofs.Padding.{same_again}
use Rattle.lbm_sweep.specs.CellRows.{cell_at}
use Rattle.lbm_sweep.proofs.CellRows.{cell_known}
use Rattle.lbm_sweep.proofs.Lattices.{laid_again}
use Rattle.lbm_sweep.proofs.lattice.place_row.Goals as goal

pub loop-x-init : goal.loop-x-init
loop-x-init g c = record { same = refl; placed = c.requires.before }

pub place_cell-requires-clause-laid : goal.place_cell-requires-clause-laid
place_cell-requires-clause-laid g c = laid_again c.args.row.now.case.now c.args.row.now.layout c.args.region.now c.loop-x.region c.loop-x.invariant.same c.requires.laid

pub loop-x-preserved : goal.loop-x-preserved
loop-x-preserved g c =
    let r = c.args.row.now in let x = c.loop-x.x in let old = c.loop-x.invariant in let done = c.place_cell.ensures in
    let here = cell_known g.V.VelocitySet.stencil r c.requires.row x (omega (arith, c.loop-x-test.true)) in
    record {
      same = same_again c.args.region.now c.loop-x.region c.place_cell.new.region old.same done.same;
      placed = λ y i below known.
          let known' = subst (λ (v : Stencil). i < v.directions) c.requires.row.set known in
          elim (cases_lt y (cell_at r x)) [
            | inl front ↦ (let ne : y ≢ cell_at r x = omega (arith, front) in done.others y i (omega (arith, front, here)) known' ne ∙ old.placed y i front known)
            | inr last ↦ (let one : y ≡ cell_at r x = omega (arith, below, last) in rw one (done.placed i known'))
          ];
    }

pub returns-clause-placed : goal.returns-clause-placed
returns-clause-placed g c = λ y i below known. c.loop-x.invariant.placed y i (omega (arith, below, c.loop-x-test.false)) known

pub returns-clause-same : goal.returns-clause-same
returns-clause-same g c = c.loop-x.invariant.same
