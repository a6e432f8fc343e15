use Rattle.std.proofs.Common.{sym, subst}
use Rattle.lbm_model.specs.Flow.{IsStateOf, first_in}
use Rattle.lbm_model.proofs.States.{IsStateOf-state_by}
use Rattle.lbm_plain.proofs.plain.first_of.Goals as goal

pub returns-clause-state : goal.returns-clause-state
returns-clause-state g c = let case = c.args.case.now in subst (IsStateOf case) (sym c.in_ok-state.ensures.first) (IsStateOf-state_by case (first_in case))
