use Rattle.std.proofs.Common.{◌≡◌, ◌<◌, sym, ap, ◌∙◌, arith, below_more}
use Rattle.lbm_space.specs.Stencil.{Stencil}
use Rattle.lbm_space.specs.Torus.{cells}
use Rattle.lbm_cell.specs.Moments.{populations}
use Rattle.lbm_model.specs.State.{population}
use Rattle.lbm_model.specs.Flow.{is_sound}
use Rattle.lbm_cell.proofs.Least.{least_failing-all, least_failing-at}
use Rattle.lbm_plain.proofs.Readings.{read_sound, small_fits}
use Rattle.lbm_plain.proofs.plain.least_out_of_limits.Given as given
use Rattle.lbm_plain.proofs.plain.least_out_of_limits.Goals as goal

pub loop-cell-init : goal.loop-cell-init
loop-cell-init g c = λ x below. absurd (omega arith)

pub sound-requires-clause-fits : goal.sound-requires-clause-fits
sound-requires-clause-fits g c = λ i known.
    let case = c.args.case.now in
    let of_set : case.stencil.directions ≡ g.V.VelocitySet.stencil.directions = ap (λ (v : Stencil). v.directions) c.requires.set in
    let here : c.loop-cell.cell < cells case.torus = omega (arith, c.loop-cell-test.true, c.cells-cell-end.ensures.count ∙ ap cells c.space.ensures.value) in
    rw (c.pops_at.ensures i known) (small_fits case c.args.state.now c.requires.small c.loop-cell.cell i here (omega (arith, of_set, known)))

pub returns-then-not-sound : goal.returns-then-not-sound
returns-then-not-sound g c =
    let case = c.args.case.now in let x = c.loop-cell.cell in let s = c.args.state.now in
    let here : x < cells case.torus = omega (arith, c.loop-cell-test.true, c.cells-cell-end.ensures.count ∙ ap cells c.space.ensures.value) in
    let read = read_sound case g.V.VelocitySet.stencil c.requires.set s x (populations c.pops_at.result.f) c.pops_at.ensures in
    sym (least_failing-at (cells case.torus) (λ y. is_sound case y (population s y)) x (record { known = here; failed = sym read ∙ sym c.sound.ensures ∙ c.if-not-sound.true; passed = c.loop-cell.invariant }))

pub loop-cell-preserved : goal.loop-cell-preserved
loop-cell-preserved g c =
    let case = c.args.case.now in let x = c.loop-cell.cell in let s = c.args.state.now in
    let read = read_sound case g.V.VelocitySet.stencil c.requires.set s x (populations c.pops_at.result.f) c.pops_at.ensures in
    below_more _ _ c.loop-cell.invariant (sym read ∙ sym c.sound.ensures ∙ c.if-not-sound.false)

pub returns : goal.returns
returns g c =
    let case = c.args.case.now in let s = c.args.state.now in
    let all : c.cells-cell-end.result ≡ cells case.torus = c.cells-cell-end.ensures.count ∙ ap cells c.space.ensures.value in
    sym (least_failing-all (cells case.torus) (λ y. is_sound case y (population s y)) (λ y here. c.loop-cell.invariant y (omega (arith, all, here, c.loop-cell-test.false))))
