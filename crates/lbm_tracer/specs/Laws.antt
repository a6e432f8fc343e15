-- Laws of every tracer.
use Rattle.std.specs.Prelude.{◌≡◌, ◌<◌, ℕ, pos}
use Rattle.lbm_space.specs.Torus.{cells}
use Rattle.lbm_cell.specs.Collision.{RelaxationRates}
use Rattle.lbm_model.specs.State.{FlowState, mass}
use Rattle.lbm_model.specs.Case.{FlowCase, IsCase}
use Rattle.lbm_tracer.specs.Tracing.{tracer_first, tracer_next, tracer_run, reached}
use Rattle.lbm_tracer.specs.Carried.{places_of}
use Rattle.lbm_model.specs.Flow.{IsStateOf}

-- the first state has the whole amount, a step loses none of it, and so neither does a run
abbrev pub TotalAtFirst : Type 0
TotalAtFirst = (case : FlowCase) (amount cell : ℕ) → IsCase case → cell < cells case.torus → mass (tracer_first case.torus amount cell) ≡ pos amount

abbrev pub TotalOfStep : Type 0
TotalOfStep = (case : FlowCase) (r : RelaxationRates) (s g : FlowState) → IsCase case → IsStateOf (places_of case.torus) g → mass (tracer_next case r s g) ≡ mass g

abbrev pub TotalOfRun : Type 0
TotalOfRun = (case : FlowCase) (r : RelaxationRates) (s g end last : FlowState) (time steps : ℕ) → IsCase case → IsStateOf (places_of case.torus) g
    → tracer_run case r s g time steps ≡ reached end last → mass last ≡ mass g
