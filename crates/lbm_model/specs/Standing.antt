-- What a lattice stands for.
use Rattle.std.specs.Prelude.{◌≡◌, ℕ, ◌+◌, Bool, IsTrue, Option, Some, None, Result, Ok, Err}
use Rattle.lbm_model.specs.State.{FlowState}
use Rattle.lbm_model.specs.Case.{FlowCase}
use Rattle.lbm_model.specs.Flow.{next, out_of_limits}
use Rattle.lbm_model.specs.declared.pattern.StepEnd.{StepEnd}
use Rattle.lbm_model.specs.declared.pattern.StepEnd.TheVariants.{Range, Memory}

-- a case at a time, and the cell that spent the pattern, if it is spent; where it is not spent, it stands for the state
pub record Standing : Type 0 where
  pub case : FlowCase
  pub time : ℕ
  pub spent : Option ℕ
  pub state : FlowState

-- the cell at which a step ends: the one that spent the pattern, or the least one out of limits in its state
abbrev pub stopped_at : Standing → Option ℕ
stopped_at now = elim now.spent [
  | Some x ↦ Some x
  | None ↦ out_of_limits now.case now.state
]

-- the pattern has made one step
abbrev pub stepped : Standing → Standing
stepped now = record now { time = now.time + 1; state = next now.case now.state }

-- the pattern is spent by cell x, and of its state nothing is said
pub record IsSpent (old new : Standing) (x : ℕ) : Type 0 where
  pub case : new.case ≡ old.case
  pub time : new.time ≡ old.time
  pub spent : new.spent ≡ Some x

-- what a step answers, and what the pattern stands for then; memory may be wanted only where that is said of the pattern
abbrev pub StepGives : Bool → Standing → Standing → Result (Unit {0}) StepEnd → Type 0
StepGives wants old new (Ok _) = (stopped_at old ≡ None) × (new ≡ stepped old)
StepGives wants old new (Err (Range x)) = (stopped_at old ≡ Some x) × IsSpent old new x
StepGives wants old new (Err Memory) = IsTrue wants × (new ≡ old)
