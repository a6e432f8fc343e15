-- A tracer that stands in the slots of a region.
use Rattle.std.specs.Prelude.{◌≡◌, ℕ, ◌<◌, ◌≤◌, Bool, false, List, [], ℤ, pos, unsigned_abs}
use Rattle.lbm_space.specs.Torus.{Torus, cells}
use Rattle.lbm_cell.specs.Collision.{RelaxationRates, rates}
use Rattle.lbm_model.specs.State.{FlowState}
use Rattle.lbm_model.specs.Case.{FlowCase}
use Rattle.lbm_model.specs.Layout.{aa_layout, population_in}
use Rattle.lbm_arrays.specs.Arrays.{Arrays}
use Rattle.lbm_tracer.specs.Limits.{amount_bound}
use Rattle.lbm_tracer.specs.Tracing.{set_in, tracer_state_by, tracer_first}

-- the places of a box, with the directions of its tracer: of a case, what a layout asks for
abbrev pub places_of : Torus → FlowCase
places_of t = record {
  stencil = set_in t;
  torus = t;
  densities = [];
  moving = [];
  wall = [];
  rates = rates (pos 1) (pos 1) (pos 1);
  force = [];
  momentum = [];
}

-- amount k of cell x at a time, by what the slots hold: they are laid out as those of the pattern `aa`
abbrev pub amount_in : Torus → ℕ → List ℤ → ℕ → ℕ → ℤ
amount_in t time slots x k = population_in (places_of t) (aa_layout time) slots x k

abbrev pub tracer_state_in : Torus → ℕ → List ℤ → FlowState
tracer_state_in t time slots = tracer_state_by t (amount_in t time slots)

-- a tracer in a box at a time, its rates, whether it is spent, and its slots
pub record TracerLattice : Type 0 where
  pub torus : Torus
  pub rates : RelaxationRates
  pub time : ℕ
  pub spent : Bool
  pub slots : List ℤ

-- the same with its state in place of the slots; where it is spent, nothing is said of the state
pub record Carried : Type 0 where
  pub torus : Torus
  pub rates : RelaxationRates
  pub time : ℕ
  pub spent : Bool
  pub state : FlowState

abbrev pub carried : TracerLattice → Carried
carried l = record { torus = l.torus; rates = l.rates; time = l.time; spent = l.spent; state = tracer_state_in l.torus l.time l.slots }

-- no amount is above the bound in size
abbrev pub AreFew : Torus → (ℕ → ℕ → ℤ) → Type 0
AreFew t f = (x k : ℕ) → x < cells t → k < (set_in t).directions → unsigned_abs (f x k) ≤ amount_bound

-- the region has an array for each direction, with two slots beside the padded places
pub record IsTracerRegion (t : Torus) (region : Arrays) : Type 0 where
  pub space : region.space ≡ t
  pub count : region.count ≡ (set_in t).directions
  pub margin : region.margin ≡ 2

-- the region of a tracer that begins with an amount in one cell
pub record HoldsFirst (t : Torus) (amount cell : ℕ) (region : Arrays) : Type 0 where
  pub laid : IsTracerRegion t region
  pub state : tracer_state_in t 0 region.slots ≡ tracer_first t amount cell
  pub few : AreFew t (amount_in t 0 region.slots)

-- what a tracer keeps to
pub record IsTracer (t : Torus) (time : ℕ) (spent : Bool) (region : Arrays) : Type 0 where
  pub laid : IsTracerRegion t region
  pub few : spent ≡ false → AreFew t (amount_in t time region.slots)
