use Rattle.std.proofs.Common.{◌≡◌, ℕ, ◌+◌, ◌<◌, Bool, true, false, Some, None, sym, ap, subst, ◌∙◌, arith}
use Rattle.lbm_space.specs.Stencil.{Stencil}
use Rattle.lbm_cell.specs.Moments.{populations}
use Rattle.lbm_model.specs.State.{population}
use Rattle.lbm_model.specs.Flow.{is_sound}
use Rattle.lbm_model.specs.Layout.{state_in}
use Rattle.lbm_walk.specs.First.{IsFirst}
use Rattle.lbm_walk.proofs.Firsts.{first_later, first_earlier}
use Rattle.lbm_sweep.specs.CellRows.{cell_at}
use Rattle.lbm_sweep.proofs.CellRows.{cell_known, one_passes, one_fails}
use Rattle.lbm_sweep.proofs.Lattices.{small_fits, read_sound}
use Rattle.lbm_sweep.proofs.lattice.least_in_row.Goals as goal

pub sound-requires-clause-fits : goal.sound-requires-clause-fits
sound-requires-clause-fits g c = λ i known.
    let r = c.args.row.now in let case = r.case.now in
    let known' : i < case.stencil.directions = subst (λ (v : Stencil). i < v.directions) (sym c.requires.row.set) known in
    let here = cell_known g.V.VelocitySet.stencil r c.requires.row c.loop-x.x (omega (arith, c.loop-x-test.true)) in
    rw (c.populations_at-f.ensures i known) (small_fits case r.layout c.args.region.now.slots c.requires.small (cell_at r c.loop-x.x) i here known')

pub returns-then-not-sound : goal.returns-then-not-sound
returns-then-not-sound g c =
    let r = c.args.row.now in let case = r.case.now in let slots = c.args.region.now.slots in let x = c.loop-x.x in let y = cell_at r x in let s = state_in case r.layout slots in
    let test : ℕ → Bool = λ z. is_sound case z (population s z) in
    let here = cell_known g.V.VelocitySet.stencil r c.requires.row x (omega (arith, c.loop-x-test.true)) in
    let read : is_sound case y (populations c.populations_at-f.result.f) ≡ test y =
    read_sound case r.layout slots y (populations c.populations_at-f.result.f) here (λ i known. c.populations_at-f.ensures i (subst (λ (v : Stencil). i < v.directions) c.requires.row.set known)) in
    let fail : test y ≡ false = sym read ∙ ap (λ (z : ℕ). is_sound case z (populations c.populations_at-f.result.f)) (sym c.cell-cell.ensures.cell) ∙ sym c.sound.ensures ∙ c.if-not-sound.true in
    let first = first_later test (cell_at r 0) y (y + 1) (Some y) (omega arith) c.loop-x.invariant (one_fails test y fail) in
    subst (λ (z : ℕ). IsFirst test (cell_at r 0) (cell_at r r.width) (Some z)) (sym c.cell-cell.ensures.cell) (first_earlier test (cell_at r 0) (y + 1) (cell_at r r.width) y (omega (arith, c.loop-x-test.true)) first)

pub loop-x-preserved : goal.loop-x-preserved
loop-x-preserved g c =
    let r = c.args.row.now in let case = r.case.now in let slots = c.args.region.now.slots in let x = c.loop-x.x in let y = cell_at r x in let s = state_in case r.layout slots in
    let test : ℕ → Bool = λ z. is_sound case z (population s z) in
    let here = cell_known g.V.VelocitySet.stencil r c.requires.row x (omega (arith, c.loop-x-test.true)) in
    let read : is_sound case y (populations c.populations_at-f.result.f) ≡ test y =
    read_sound case r.layout slots y (populations c.populations_at-f.result.f) here (λ i known. c.populations_at-f.ensures i (subst (λ (v : Stencil). i < v.directions) c.requires.row.set known)) in
    let pass : test y ≡ true = sym read ∙ ap (λ (z : ℕ). is_sound case z (populations c.populations_at-f.result.f)) (sym c.cell-cell.ensures.cell) ∙ sym c.sound.ensures ∙ c.if-not-sound.false in
    let next : y + 1 ≡ cell_at r (x + 1) = omega arith in
    subst (λ (z : ℕ). IsFirst test (cell_at r 0) z None) next (first_later test (cell_at r 0) y (y + 1) None (omega arith) c.loop-x.invariant (one_passes test y pass))
