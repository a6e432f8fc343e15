-- The states of a case.
use Rattle.lbm_model.specs.Case.{FlowCase}
use Rattle.lbm_model.specs.Flow.{IsStateOf, first, first_in}
use Rattle.lbm_model.proofs.Mass.{IsStateOf-state_by}

pub first_is_state : (case : FlowCase) → IsStateOf case (first case)
first_is_state case = IsStateOf-state_by case (first_in case)
