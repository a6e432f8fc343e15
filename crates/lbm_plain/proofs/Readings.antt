-- The cells of a state, by the populations that are read of it.
use Rattle.std.proofs.Common.{◌≡◌, ℕ, ◌<◌, ◌≤◌, ◌^◌, ◌+◌, ℤ, unsigned_abs, FitsSigned, w32, Bool, true, false, ap, sym, subst, ◌∙◌, arith}
use Rattle.std.specs.Prelude.{None, if◌then◌else◌}
use Rattle.std.proofs.lemmas.Int.{ints}
use Rattle.lbm_space.specs.Stencil.{Stencil}
use Rattle.lbm_space.specs.Torus.{cells}
use Rattle.lbm_cell.proofs.Least.{least_failing-none}
use Rattle.lbm_model.specs.State.{FlowState, population}
use Rattle.lbm_model.specs.Case.{FlowCase, IsCase, is_solid, source}
use Rattle.lbm_model.specs.Flow.{is_sound, post, next, out_of_limits}
use Rattle.lbm_model.specs.Small.{size_limit, IsSmall}
use Rattle.lbm_model.proofs.Local.{is_sound-agree, post-agree}
use Rattle.lbm_model.proofs.Mass.{population-state_of}
use Rattle.lbm_cell.proofs.Agreement.{Agree}

limit_least : (case : FlowCase) (x : ℕ) → size_limit case x ≤ 2 ^ 28 + 2 ^ 15
limit_least case x = by_cases (is_solid case x)
  where
    by_cases : (solid : Bool) → (if solid then 2 ^ 28 else 2 ^ 28 + 2 ^ 15) ≤ 2 ^ 28 + 2 ^ 15
    by_cases true = omega arith
    by_cases false = omega arith

pub limit_fits : (case : FlowCase) (x : ℕ) (z : ℤ) → unsigned_abs z ≤ size_limit case x → FitsSigned w32 z
limit_fits case x z within = omega (arith, ints, within, limit_least case x)

pub small_fits : (case : FlowCase) (s : FlowState) → IsSmall case s → (x i : ℕ) → x < cells case.torus → i < case.stencil.directions → FitsSigned w32 (population s x i)
small_fits case s small x i here known = limit_fits case x (population s x i) (small.within x i here known)

-- what is read of a cell by a set that is the case's
module _ (case : FlowCase) (v : Stencil) (set : case.stencil ≡ v) (s : FlowState) (x : ℕ) (f : ℕ → ℤ) (read : (i : ℕ) → i < v.directions → f i ≡ population s x i) where
  agree : Agree case.stencil f (population s x)
  agree = record { same = λ i known. read i (subst (λ (w : Stencil). i < w.directions) set known) }

  pub read_sound : is_sound case x f ≡ is_sound case x (population s x)
  read_sound = is_sound-agree case x f (population s x) agree

  pub read_post : (i : ℕ) → IsCase case → i < case.stencil.directions → post case x f i ≡ post case x (population s x) i
  read_post i allowed known = post-agree case x i f (population s x) allowed.set agree known
