-- No orientation is preferred: what a motion does with a flow.
use Rattle.std.specs.Prelude.{◌≡◌, ℕ, ◌<◌, ◌≤◌, ◌↔◌, List, [], ◌∷◌, ℤ, None}
use Rattle.lbm_space.specs.Torus.{cells}
use Rattle.lbm_cell.specs.Moments.{density, momentum}
use Rattle.lbm_model.specs.State.{FlowState, population, mass}
use Rattle.lbm_model.specs.Case.{FlowCase, IsCase, all_gain}
use Rattle.lbm_model.specs.Flow.{IsStateOf, first, next, out_of_limits, run, reached, range}
use Rattle.lbm_model.specs.Drift.{total_momentum}
use Rattle.lbm_symmetry.specs.Motions.{Motion, IsMotion, translation, mirror, exchange, quarter_turn, moved_vector, former_cell}
use Rattle.lbm_symmetry.specs.Moved.{moved_case, moved_state}
use Rattle.lbm_symmetry.specs.Sets.{IsSymmetric}

-- ---- the motions by name are motions

abbrev pub TranslationsAreMotions : Type 0
TranslationsAreMotions = (dimension : ℕ) (d : List ℤ) → IsMotion dimension (translation d)

abbrev pub MirrorsAreMotions : Type 0
MirrorsAreMotions = (dimension a : ℕ) → IsMotion dimension (mirror a)

abbrev pub ExchangesAreMotions : Type 0
ExchangesAreMotions = (dimension a b : ℕ) → dimension ≤ 3 → a < dimension → b < dimension → IsMotion dimension (exchange a b)

abbrev pub TurnsAreMotions : Type 0
TurnsAreMotions = (dimension a b : ℕ) → dimension ≤ 3 → a < dimension → b < dimension → IsMotion dimension (quarter_turn a b)

-- ---- what the laws of flows ask: an accepted case over a symmetric set, and a motion of its box

pub record CanMove (m : Motion) (case : FlowCase) : Type 0 where
  pub allowed : IsCase case
  pub symmetric : IsSymmetric case.stencil
  pub motion : IsMotion case.stencil.dimension m

-- an accepted case, moved, is an accepted case
abbrev pub MovedCaseIsAccepted : Type 0
MovedCaseIsAccepted = (m : Motion) (case : FlowCase) → CanMove m case → IsCase (moved_case m case)

-- its first state is the first state moved, and the next of a moved state is the next state moved
abbrev pub FirstIsMoved : Type 0
FirstIsMoved = (m : Motion) (case : FlowCase) → CanMove m case → first (moved_case m case) ≡ moved_state m case (first case)

abbrev pub NextIsMoved : Type 0
NextIsMoved = (m : Motion) (case : FlowCase) (s : FlowState) → CanMove m case →
    next (moved_case m case) (moved_state m case s) ≡ moved_state m case (next case s)

-- a cell is out of limits in a moved state where one was before
abbrev pub LimitsAreMoved : Type 0
LimitsAreMoved = (m : Motion) (case : FlowCase) (s : FlowState) → CanMove m case →
    out_of_limits (moved_case m case) (moved_state m case s) ≡ None ↔ out_of_limits case s ≡ None

-- so a run of the moved case reaches the state that the run reaches, moved
abbrev pub RunIsMoved : Type 0
RunIsMoved = (m : Motion) (case : FlowCase) (s end : FlowState) (time steps : ℕ) → CanMove m case →
    run case s time steps ≡ reached end → run (moved_case m case) (moved_state m case s) time steps ≡ reached (moved_state m case end)

-- or leaves the limits at the same time; the least of the cells out of limits may be another, since cells are numbered anew
abbrev pub RangeIsMoved : Type 0
RangeIsMoved = (m : Motion) (case : FlowCase) (s : FlowState) (time steps end x : ℕ) → CanMove m case →
    run case s time steps ≡ range end x → (y : ℕ) × (run (moved_case m case) (moved_state m case s) time steps ≡ range end y)

-- a case that a motion leaves as it is begins with a state that it leaves as it is
abbrev pub FirstIsSymmetric : Type 0
FirstIsSymmetric = (m : Motion) (case : FlowCase) → CanMove m case → moved_case m case ≡ case → moved_state m case (first case) ≡ first case

-- and from such a state it runs to no other states
abbrev pub SymmetryStays : Type 0
SymmetryStays = (m : Motion) (case : FlowCase) (s end : FlowState) (time steps : ℕ) → CanMove m case → moved_case m case ≡ case → moved_state m case s ≡ s →
    run case s time steps ≡ reached end → moved_state m case end ≡ end

-- ---- moments

-- each cell has the density of the cell that was moved to it, and its momentum, moved
abbrev pub DensityIsMoved : Type 0
DensityIsMoved = (m : Motion) (case : FlowCase) (s : FlowState) (y : ℕ) → CanMove m case → y < cells (moved_case m case).torus →
    density case.stencil (population (moved_state m case s) y) ≡ density case.stencil (population s (former_cell m case.torus y))

abbrev pub MomentumIsMoved : Type 0
MomentumIsMoved = (m : Motion) (case : FlowCase) (s : FlowState) (y : ℕ) → CanMove m case → y < cells (moved_case m case).torus →
    momentum case.stencil (population (moved_state m case s) y) ≡ moved_vector m (momentum case.stencil (population s (former_cell m case.torus y)))

-- the mass is the same, and the momentum of all cells is moved
abbrev pub MassIsMoved : Type 0
MassIsMoved = (m : Motion) (case : FlowCase) (s : FlowState) → CanMove m case → IsStateOf case s → mass (moved_state m case s) ≡ mass s

abbrev pub all_momentum : FlowCase → FlowState → List ℤ
all_momentum case s = total_momentum case s 0 ∷ total_momentum case s 1 ∷ total_momentum case s 2 ∷ []

abbrev pub TotalMomentumIsMoved : Type 0
TotalMomentumIsMoved = (m : Motion) (case : FlowCase) (s : FlowState) → CanMove m case →
    all_momentum (moved_case m case) (moved_state m case s) ≡ moved_vector m (all_momentum case s)
