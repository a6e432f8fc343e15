-- Cases that were worked by hand, and what each step of them gives.
use Rattle.std.specs.Prelude.{◌≡◌, ℕ, zero, suc, List, [], ◌∷◌, ℤ, pos, negsuc}
use Rattle.lbm_space.specs.Sum.{list_below}
use Rattle.lbm_space.specs.Tables.{d2q9}
use Rattle.lbm_space.specs.Torus.{torus}
use Rattle.lbm_cell.specs.Moments.{density, momentum}
use Rattle.lbm_cell.specs.Collision.{RelaxationRates, rates}
use Rattle.lbm_model.specs.State.{FlowState, population, mass}
use Rattle.lbm_model.specs.Case.{FlowCase, all_gain}
use Rattle.lbm_model.specs.Flow.{first, next, run, reached, range}
use Rattle.lbm_model.specs.Layout.{array_of, place_of, two_layout, swap_layout, aa_layout, grid_layout}

-- the state after n steps
abbrev pub after : ℕ → FlowCase → FlowState
after zero case = first case
after (suc n) case = next case (after n case)

-- of each cell: the populations, the density and the momentum
abbrev pub populations_at : FlowCase → FlowState → ℕ → List ℤ
populations_at case s x = list_below case.stencil.directions (population s x)

abbrev pub density_at : FlowCase → FlowState → ℕ → ℤ
density_at case s x = density case.stencil (population s x)

abbrev pub momentum_at : FlowCase → FlowState → ℕ → List ℤ
momentum_at case s x = momentum case.stencil (population s x)

abbrev vector : ℤ → ℤ → ℤ → List ℤ
vector x y z = x ∷ y ∷ z ∷ []

abbrev none : List ℤ
none = vector (pos 0) (pos 0) (pos 0)

-- a case in the plane, at rest at first, without force or moving walls; 884736 is the unit of density
abbrev plane : ℕ → ℕ → List ℕ → RelaxationRates → FlowCase
plane nx ny densities rates = record {
  stencil = d2q9;
  torus = torus 2 nx ny 1;
  densities = densities;
  moving = [];
  wall = none;
  rates = rates;
  force = none;
  momentum = none;
}

abbrev one_rate : RelaxationRates
one_rate = rates (pos 1) (pos 1) (pos 1)

-- one cell that is its own neighbour, under a force
unfoldable pub pushed_cell : ℤ → FlowCase
pushed_cell force = record (plane 1 1 (884736 ∷ []) one_rate) { force = vector force (pos 0) (pos 0) }

pub record PushedCell : Type 0 where
  pub momentum_after_one : momentum_at (pushed_cell (pos 1)) (after 1 (pushed_cell (pos 1))) 0 ≡ vector (pos 12) (pos 0) (pos 0)
  pub momentum_after_two : momentum_at (pushed_cell (pos 1)) (after 2 (pushed_cell (pos 1))) 0 ≡ vector (pos 24) (pos 0) (pos 0)
  pub mass_after_two : mass (after 2 (pushed_cell (pos 1))) ≡ pos 884736
  pub populations_after_two : (after 2 (pushed_cell (pos 1))).numbers
      ≡ pos 393218 ∷ pos 98312 ∷ pos 98303 ∷ pos 98296 ∷ pos 98303 ∷ pos 24578 ∷ pos 24574 ∷ pos 24574 ∷ pos 24578 ∷ []

-- under a strong force the cell leaves the limits at its 60th step, and a run ends there however long it was to be
pub record LeavingCell : Type 0 where
  pub within : run (pushed_cell (pos 1024)) (first (pushed_cell (pos 1024))) 0 59 ≡ reached (after 59 (pushed_cell (pos 1024)))
  pub at_the_end : run (pushed_cell (pos 1024)) (first (pushed_cell (pos 1024))) 0 60 ≡ range 60 0
  pub before_the_end : run (pushed_cell (pos 1024)) (first (pushed_cell (pos 1024))) 0 61 ≡ range 60 0

-- two cells of different density, which even out
unfoldable pub two_levels : FlowCase
two_levels = plane 2 1 (884736 ∷ 921600 ∷ []) one_rate

abbrev levels : ℕ → List ℤ
levels n = density_at two_levels (after n two_levels) 0 ∷ density_at two_levels (after n two_levels) 1 ∷ []

pub record TwoLevels : Type 0 where
  pub at_first : levels 0 ≡ pos 884736 ∷ pos 921600 ∷ []
  pub after_one : levels 1 ≡ pos 897024 ∷ pos 909312 ∷ []
  pub after_two : levels 2 ≡ pos 901118 ∷ pos 905218 ∷ []
  pub after_three : levels 3 ≡ pos 902480 ∷ pos 903856 ∷ []
  pub still : list_below 4 (λ n. list_below 2 (momentum_at two_levels (after n two_levels))) ≡ list_below 4 (λ _. none ∷ none ∷ [])
  pub masses : list_below 4 (λ n. mass (after n two_levels)) ≡ list_below 4 (λ _. pos 1806336)

-- without a step the first state is tested and reached: each cell holds its share of its density in each direction
pub record NoStep : Type 0 where
  pub first_state : run two_levels (first two_levels) 0 0 ≡ reached (first two_levels)
  pub first_populations : (first two_levels).numbers
      ≡ pos 393216 ∷ pos 98304 ∷ pos 98304 ∷ pos 98304 ∷ pos 98304 ∷ pos 24576 ∷ pos 24576 ∷ pos 24576 ∷ pos 24576
      ∷ pos 409600 ∷ pos 102400 ∷ pos 102400 ∷ pos 102400 ∷ pos 102400 ∷ pos 25600 ∷ pos 25600 ∷ pos 25600 ∷ pos 25600 ∷ []

-- cells 2 and 5 are too dense at once: the least of them is named
unfoldable pub dense_cells : FlowCase
dense_cells = plane 4 2 (884736 ∷ 884736 ∷ 1784736 ∷ 884736 ∷ 884736 ∷ 1784736 ∷ 884736 ∷ 884736 ∷ []) one_rate

pub record DenseCells : Type 0 where
  pub at_once : run dense_cells (first dense_cells) 0 3 ≡ range 0 2

-- one cell that moves at first, in a box of walls: it bounces back and forth
unfoldable pub boxed_cell : FlowCase
boxed_cell = record (plane 3 3 (0 ∷ 0 ∷ 0 ∷ 0 ∷ 884736 ∷ 0 ∷ 0 ∷ 0 ∷ 0 ∷ []) one_rate) { momentum = vector (pos 5000) (pos 0) (pos 0) }

pub record BoxedCell : Type 0 where
  pub first_populations : populations_at boxed_cell (first boxed_cell) 4
      ≡ pos 393200 ∷ pos 99980 ∷ pos 98299 ∷ pos 96646 ∷ pos 98299 ∷ pos 24995 ∷ pos 24161 ∷ pos 24161 ∷ pos 24995 ∷ []
  pub densities : list_below 5 (λ n. density_at boxed_cell (after n boxed_cell) 4) ≡ list_below 5 (λ _. pos 884736)
  pub momenta : list_below 5 (λ n. momentum_at boxed_cell (after n boxed_cell) 4)
      ≡ vector (pos 5002) (pos 0) (pos 0) ∷ vector (negsuc 5001) (pos 0) (pos 0) ∷ vector (negsuc 5001) (pos 0) (pos 0) ∷ vector (pos 5002) (pos 0) (pos 0) ∷ vector (pos 5002) (pos 0) (pos 0) ∷ []
  pub masses : list_below 5 (λ n. mass (after n boxed_cell)) ≡ list_below 5 (λ _. pos 1376272)

-- a fluid cell beside a wall under a force, where m over 2 is the rate of the odd part
unfoldable pub two_rates : ℕ → FlowCase
two_rates m = record (plane 1 2 (0 ∷ 884736 ∷ []) (rates (pos 2) (pos m) (pos 2))) { force = vector (pos 3) (pos 0) (pos 0) }

pub record TwoRates : Type 0 where
  pub slow_momentum : momentum_at (two_rates 1) (after 2 (two_rates 1)) 1 ≡ vector (pos 32) (pos 0) (pos 0)
  pub slow_density : density_at (two_rates 1) (after 2 (two_rates 1)) 1 ≡ pos 884738
  pub slow_mass : mass (after 2 (two_rates 1)) ≡ pos 1179648
  pub same_momentum : momentum_at (two_rates 2) (after 2 (two_rates 2)) 1 ≡ vector (pos 28) (pos 0) (pos 0)
  pub same_density : density_at (two_rates 2) (after 2 (two_rates 2)) 1 ≡ pos 884738
  pub same_mass : mass (after 2 (two_rates 2)) ≡ pos 1179648

-- a wall that moves toward the fluid, and a wall at rest behind it
unfoldable pub pressing_wall : FlowCase
pressing_wall = record (plane 1 3 (0 ∷ 884736 ∷ 0 ∷ []) one_rate) { moving = 0 ∷ []; wall = vector (pos 0) (pos 3) (pos 0) }

pub record PressingWall : Type 0 where
  pub gain : all_gain pressing_wall ≡ pos 18
  pub first_mass : mass (first pressing_wall) ≡ pos 1179648
  pub mass_after_one : mass (after 1 pressing_wall) ≡ pos 1179666
  pub density_after_one : density_at pressing_wall (after 1 pressing_wall) 1 ≡ pos 884754
  pub momentum_after_one : momentum_at pressing_wall (after 1 pressing_wall) 1 ≡ vector (pos 0) (pos 18) (pos 0)

-- a wall that slides along the fluid
unfoldable pub sliding_wall : FlowCase
sliding_wall = record (plane 1 2 (0 ∷ 884736 ∷ []) one_rate) { moving = 0 ∷ []; wall = vector (pos 3) (pos 0) (pos 0) }

pub record SlidingWall : Type 0 where
  pub gain : all_gain sliding_wall ≡ pos 0
  pub mass_after_one : mass (after 1 sliding_wall) ≡ pos 1179648
  pub momentum_after_one : momentum_at sliding_wall (after 1 sliding_wall) 1 ≡ vector (pos 12) (pos 0) (pos 0)

-- Where each pattern keeps what comes to cell (0, 0) of a plane along (1, 1), which is direction 5: from cell (2, 1), behind it
-- on the torus. With its pads the plane has four lines of 5 places: (0, 0) is place 6 and (2, 1) place 13. A diagonal neighbour
-- is 6 places away.
unfoldable pub three_by_two : FlowCase
three_by_two = plane 3 2 (884736 ∷ 884736 ∷ 884736 ∷ 884736 ∷ 884736 ∷ 884736 ∷ []) one_rate

pub record KeptPopulations : Type 0 where
  pub two_array : array_of d2q9 two_layout 5 ≡ 5
  pub two_slot : place_of three_by_two two_layout 0 5 ≡ 13
  pub swap_array : array_of d2q9 swap_layout 5 ≡ 5
  pub swap_slot : place_of three_by_two swap_layout 0 5 ≡ 7
  pub aa_array_at_even_times : array_of d2q9 (aa_layout 6) 5 ≡ 5
  pub aa_slot_at_even_times : place_of three_by_two (aa_layout 6) 0 5 ≡ 7
  pub aa_array_at_odd_times : array_of d2q9 (aa_layout 7) 5 ≡ 7
  pub aa_slot_at_odd_times : place_of three_by_two (aa_layout 7) 0 5 ≡ 14
  pub grid_array : array_of d2q9 (grid_layout (torus 2 3 2 1) d2q9 6) 5 ≡ 5
  pub grid_slot_at_even_times : place_of three_by_two (grid_layout (torus 2 3 2 1) d2q9 6) 0 5 ≡ 19
  pub grid_slot_at_odd_times : place_of three_by_two (grid_layout (torus 2 3 2 1) d2q9 7) 0 5 ≡ 13
