-- Tracers that were worked by hand.
use Rattle.std.specs.Prelude.{◌≡◌, ℕ, List, [], ◌∷◌, ℤ, pos, negsuc}
use Rattle.lbm_space.specs.Sum.{list_below}
use Rattle.lbm_space.specs.Tables.{d2q9, d3q19}
use Rattle.lbm_space.specs.Torus.{torus, cells}
use Rattle.lbm_cell.specs.Moments.{density}
use Rattle.lbm_cell.specs.Collision.{RelaxationRates, rates}
use Rattle.lbm_model.specs.State.{FlowState, population, mass}
use Rattle.lbm_model.specs.Case.{FlowCase}
use Rattle.lbm_model.specs.Flow.{first}
use Rattle.lbm_tracer.specs.Tracing.{set_in, tracer_first, tracer_run, reached, tracer_range}
use Rattle.lbm_tracer.specs.Running.{flow_after, tracer_after}

abbrev one_rate : RelaxationRates
one_rate = rates (pos 1) (pos 1) (pos 1)

abbrev vector : ℤ → ℤ → ℤ → List ℤ
vector x y z = x ∷ y ∷ z ∷ []

-- a row of cells of the unit density in the plane, which move along it at first
abbrev row : List ℕ → (count : ℕ) → ℤ → FlowCase
row densities count speed = record {
  stencil = d2q9;
  torus = torus 2 count 1 1;
  densities = densities;
  moving = [];
  wall = vector (pos 0) (pos 0) (pos 0);
  rates = one_rate;
  force = vector (pos 0) (pos 0) (pos 0);
  momentum = vector speed (pos 0) (pos 0);
}

-- a tracer that begins with 600 in a cell, after n steps of its flow from the first state
abbrev pub tracer_from : FlowCase → (cell n : ℕ) → FlowState
tracer_from case cell n = tracer_after case one_rate (first case) (tracer_first case.torus 600 cell) n

-- the amount of each cell, and the amounts of one
abbrev pub amounts : FlowCase → FlowState → List ℤ
amounts case g = list_below (cells case.torus) (λ x. density (set_in case.torus) (population g x))

abbrev pub amounts_at : FlowCase → FlowState → ℕ → List ℤ
amounts_at case g x = list_below (set_in case.torus).directions (population g x)

-- two cells at rest: of 600 a sixth goes each way, so a third of it comes into the other cell; then of 400 and 200 a sixth, rounded
-- down, goes each way, and what is left rests
unfoldable pub two_cells : FlowCase
two_cells = row (884736 ∷ 884736 ∷ []) 2 (pos 0)

pub record TwoCells : Type 0 where
  pub at_first : amounts_at two_cells (tracer_from two_cells 0 0) 0 ≡ pos 200 ∷ pos 100 ∷ pos 100 ∷ pos 100 ∷ pos 100 ∷ []
  pub elsewhere : amounts_at two_cells (tracer_from two_cells 0 0) 1 ≡ pos 0 ∷ pos 0 ∷ pos 0 ∷ pos 0 ∷ pos 0 ∷ []
  pub after_one : amounts two_cells (tracer_from two_cells 0 1) ≡ pos 400 ∷ pos 200 ∷ []
  pub after_two : amounts two_cells (tracer_from two_cells 0 2) ≡ pos 334 ∷ pos 266 ∷ []
  pub total : mass (tracer_from two_cells 0 2) ≡ pos 600
  pub run_of_two : tracer_run two_cells one_rate (first two_cells) (tracer_from two_cells 0 0) 0 2 ≡ reached (flow_after two_cells (first two_cells) 2) (tracer_from two_cells 0 2)

-- a cell that is its own neighbour, in a flow too fast for the tracer: against it the tracer sends a negative amount,
-- 100 (1 - 3 * 500000 / 884736), rounded down
unfoldable pub fast_cell : FlowCase
fast_cell = row (884736 ∷ []) 1 (pos 500000)

pub record FastCell : Type 0 where
  pub against : population (tracer_from fast_cell 0 1) 0 3 ≡ negsuc 69
  pub out_of_range : tracer_run fast_cell one_rate (first fast_cell) (tracer_from fast_cell 0 0) 0 5 ≡ tracer_range 1 0

-- a fluid cell beside a wall: what has gone into the wall is back after another step, while the next comes in
unfoldable pub walled_cell : FlowCase
walled_cell = row (0 ∷ 884736 ∷ []) 2 (pos 0)

pub record WalledCell : Type 0 where
  pub into_the_wall : amounts walled_cell (tracer_from walled_cell 1 1) ≡ pos 200 ∷ pos 400 ∷ []
  pub in_the_wall : amounts_at walled_cell (tracer_from walled_cell 1 1) 0 ≡ pos 0 ∷ pos 100 ∷ pos 0 ∷ pos 100 ∷ pos 0 ∷ []
  pub total : mass (tracer_from walled_cell 1 3) ≡ pos 600

-- a cell in space
unfoldable pub cell_in_space : FlowCase
cell_in_space = record (row (884736 ∷ 884736 ∷ []) 2 (pos 0)) { stencil = d3q19; torus = torus 3 2 1 1 }

pub record CellInSpace : Type 0 where
  pub at_first : amounts_at cell_in_space (tracer_from cell_in_space 0 0) 0 ≡ pos 150 ∷ pos 75 ∷ pos 75 ∷ pos 75 ∷ pos 75 ∷ pos 75 ∷ pos 75 ∷ []
  pub after_one : amounts cell_in_space (tracer_from cell_in_space 0 1) ≡ pos 450 ∷ pos 150 ∷ []
