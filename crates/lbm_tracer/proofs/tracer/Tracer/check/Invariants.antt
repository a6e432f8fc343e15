use Rattle.std.proofs.Common.{◌≡◌, ℕ, ◌<◌, true}
use Rattle.lbm_model.specs.State.{population}
use Rattle.lbm_tracer.specs.Tracing.{is_tracer_sound}
use Rattle.lbm_tracer.specs.Carried.{carried}
use Rattle.lbm_tracer.proofs.tracer.Tracer.check.Given as goal

abbrev pub invariant-loop-cell : goal.invariant-loop-cell
invariant-loop-cell g l = record { passed : (x : ℕ) → x < l.cell → is_tracer_sound l.case x (population (carried l.self).state x) ≡ true }
