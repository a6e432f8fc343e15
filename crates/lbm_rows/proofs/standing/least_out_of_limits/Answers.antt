use Rattle.std.proofs.Common.{◌≡◌, ◌<◌, sym, ap, ◌∙◌, arith, below_more}
use Rattle.lbm_space.specs.Stencil.{Stencil}
use Rattle.lbm_space.specs.Torus.{cells}
use Rattle.lbm_cell.specs.Moments.{populations}
use Rattle.lbm_model.specs.State.{population}
use Rattle.lbm_model.specs.Flow.{is_sound}
use Rattle.lbm_rows.specs.Kept.{state_kept}
use Rattle.lbm_cell.proofs.Least.{least_failing-all, least_failing-at}
use Rattle.lbm_rows.proofs.KeptStates.{kept_fits, kept_sound}
use Rattle.lbm_rows.proofs.standing.least_out_of_limits.Goals as goal

pub loop-cell-init : goal.loop-cell-init
loop-cell-init g c = λ x below. absurd (omega arith)

pub sound-requires-clause-fits : goal.sound-requires-clause-fits
sound-requires-clause-fits g c = λ i known.
    let case = c.args.case.now in
    let of_set : case.stencil.directions ≡ g.V.VelocitySet.stencil.directions = ap (λ (v : Stencil). v.directions) c.requires.set in
    let here : c.loop-cell.cell < cells case.torus = omega (arith, c.loop-cell-test.true, c.cells-cell-end.ensures.count ∙ ap cells c.space.ensures.value) in
    let known' : i < case.stencil.directions = omega (arith, of_set, known) in
    rw (c.populations_at.ensures i known) (kept_fits case c.args.t c.args.kept.now c.requires.small c.loop-cell.cell i here known')

pub returns-then-not-sound : goal.returns-then-not-sound
returns-then-not-sound g c =
    let case = c.args.case.now in let x = c.loop-cell.cell in let s = state_kept case c.args.t c.args.kept.now in
    let here : x < cells case.torus = omega (arith, c.loop-cell-test.true, c.cells-cell-end.ensures.count ∙ ap cells c.space.ensures.value) in
    let of_set : case.stencil.directions ≡ g.V.VelocitySet.stencil.directions = ap (λ (v : Stencil). v.directions) c.requires.set in
    let read : is_sound case x (populations c.populations_at.result.f) ≡ is_sound case x (population s x) =
    kept_sound case c.args.t c.args.kept.now x (populations c.populations_at.result.f) here (λ i known. c.populations_at.ensures i (omega (arith, of_set, known))) in
    sym (least_failing-at (cells case.torus) (λ y. is_sound case y (population s y)) x (record { known = here; failed = sym read ∙ sym c.sound.ensures ∙ c.if-not-sound.true; passed = c.loop-cell.invariant }))

pub loop-cell-preserved : goal.loop-cell-preserved
loop-cell-preserved g c =
    let case = c.args.case.now in let x = c.loop-cell.cell in let s = state_kept case c.args.t c.args.kept.now in
    let here : x < cells case.torus = omega (arith, c.loop-cell-test.true, c.cells-cell-end.ensures.count ∙ ap cells c.space.ensures.value) in
    let of_set : case.stencil.directions ≡ g.V.VelocitySet.stencil.directions = ap (λ (v : Stencil). v.directions) c.requires.set in
    let read : is_sound case x (populations c.populations_at.result.f) ≡ is_sound case x (population s x) =
    kept_sound case c.args.t c.args.kept.now x (populations c.populations_at.result.f) here (λ i known. c.populations_at.ensures i (omega (arith, of_set, known))) in
    below_more _ _ c.loop-cell.invariant (sym read ∙ sym c.sound.ensures ∙ c.if-not-sound.false)

pub returns : goal.returns
returns g c =
    let case = c.args.case.now in let s = state_kept case c.args.t c.args.kept.now in
    let all : c.cells-cell-end.result ≡ cells case.torus = c.cells-cell-end.ensures.count ∙ ap cells c.space.ensures.value in
    sym (least_failing-all (cells case.torus) (λ y. is_sound case y (population s y)) (λ y here. c.loop-cell.invariant y (omega (arith, all, here, c.loop-cell-test.false))))
