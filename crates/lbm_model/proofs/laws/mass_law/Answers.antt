use Rattle.lbm_model.proofs.Mass.{mass-next, mass-run, all_gain-at_rest}
use Rattle.lbm_model.proofs.laws.mass_law.Goals as goal

pub returns-clause-step : goal.returns-clause-step
returns-clause-step c = mass-next

pub returns-clause-run : goal.returns-clause-run
returns-clause-run c = mass-run

pub returns-clause-at_rest : goal.returns-clause-at_rest
returns-clause-at_rest c = all_gain-at_rest
