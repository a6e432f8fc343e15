-- The rates and the force that a rule was prepared with.
use Rattle.std.specs.Prelude.{◌≡◌, List, ℤ}
use Rattle.lbm_space.specs.Stencil.{Stencil}
use Rattle.lbm_cell.specs.Collision.{RelaxationRates}
use Rattle.lbm_model.specs.Case.{FlowCase}

-- they are those of a case of the velocity set v
pub record IsRuleOf (v : Stencil) (rates : RelaxationRates) (force : List ℤ) (case : FlowCase) : Type 0 where
  pub set : case.stencil ≡ v
  pub rates_are : rates ≡ case.rates
  pub force_is : force ≡ case.force
