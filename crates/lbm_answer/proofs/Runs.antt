-- The first step of a run.
use Rattle.std.proofs.Common.{◌≡◌, ℕ, zero, suc, ◌+◌, Some, None, refl}
use Rattle.lbm_model.specs.Case.{FlowCase}
use Rattle.lbm_model.specs.State.{FlowState}
use Rattle.lbm_model.specs.Flow.{next, out_of_limits, run, reached, range}

-- a run that ends at once, and one that goes on
pub run-range : (case : FlowCase) (s : FlowState) (time steps cell : ℕ) → out_of_limits case s ≡ Some cell → run case s time steps ≡ range time cell
run-range case s time zero cell unsound = rw (run, unsound) refl
run-range case s time (suc steps) cell unsound = rw (run, unsound) refl

pub run-step : (case : FlowCase) (s : FlowState) (time steps : ℕ) → out_of_limits case s ≡ None → run case s time (suc steps) ≡ run case (next case s) (time + 1) steps
run-step case s time steps sound = rw (run, sound) refl

pub run-end : (case : FlowCase) (s : FlowState) (time : ℕ) → out_of_limits case s ≡ None → run case s time 0 ≡ reached s
run-end case s time sound = rw (run, sound) refl
