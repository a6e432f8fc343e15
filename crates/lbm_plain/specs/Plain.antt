-- What the plain pattern keeps to.
use Rattle.std.specs.Prelude.{◌≡◌, None}
use Rattle.lbm_space.specs.Stencil.{Stencil}
use Rattle.lbm_model.specs.Case.{IsCase}
use Rattle.lbm_model.specs.Flow.{IsStateOf}
use Rattle.lbm_model.specs.Small.{IsSmall}
use Rattle.lbm_model.specs.Standing.{Standing}

-- it stands for a state of an accepted case, whose populations are small while it is not spent
pub record IsPlain (v : Stencil) (now : Standing) : Type 0 where
  pub set : now.case.stencil ≡ v
  pub valid : IsCase now.case
  pub state : IsStateOf now.case now.state
  pub small : now.spent ≡ None → IsSmall now.case now.state
