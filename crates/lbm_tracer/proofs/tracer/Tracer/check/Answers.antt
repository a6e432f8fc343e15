use Rattle.std.proofs.Common.{◌≡◌, ℕ, Bool, sym, ap, ◌∙◌, arith}
use Rattle.lbm_space.specs.Torus.{cells}
use Rattle.lbm_cell.proofs.Least.{least_failing-all, least_failing-at}
use Rattle.lbm_model.specs.State.{population}
use Rattle.lbm_tracer.specs.Tracing.{is_tracer_sound}
use Rattle.lbm_tracer.specs.Carried.{TracerLattice, carried}
use Rattle.lbm_tracer.proofs.tracer.Tracer.check.Goals as goal

pub returns-then-not-is_sound : goal.returns-then-not-is_sound
returns-then-not-is_sound g c =
    let case = c.args.case.now in let x = c.loop-cell.cell in
    let count : cells case.torus ≡ cells c.self.inside.space = ap cells c.requires.space ∙ ap (λ (m : TracerLattice). cells m.torus) (sym c.self.view_is) in
    let test : ℕ → Bool = λ y. is_tracer_sound case y (population (carried c.args.self.now).state y) in
    sym (least_failing-at (cells case.torus) test x (record {
      known = omega (arith, count, c.loop-cell-test.true, c.cells-cell-end.ensures.count);
      failed = sym c.is_sound.ensures ∙ c.if-not-is_sound.true;
      passed = c.loop-cell.invariant.passed;
    }))

pub returns : goal.returns
returns g c =
    let case = c.args.case.now in
    let count : cells case.torus ≡ cells c.self.inside.space = ap cells c.requires.space ∙ ap (λ (m : TracerLattice). cells m.torus) (sym c.self.view_is) in
    sym (least_failing-all (cells case.torus) (λ y. is_tracer_sound case y (population (carried c.args.self.now).state y))
    (λ y here. c.loop-cell.invariant.passed y (omega (arith, here, count, c.loop-cell-test.false, c.cells-cell-end.ensures.count))))
