-- What a motion makes of cases and of states.
use Rattle.std.specs.Prelude.{ℕ, List, ℤ}
use Rattle.std.specs.List.{filter, range_with_len}
use Rattle.lbm_space.specs.Sum.{list_below}
use Rattle.lbm_space.specs.Torus.{cells}
use Rattle.lbm_model.specs.State.{FlowState, population}
use Rattle.lbm_model.specs.Case.{FlowCase, first_density, is_moving}
use Rattle.lbm_model.specs.Flow.{state_by}
use Rattle.lbm_symmetry.specs.Motions.{Motion, moved_vector, moved_torus, former_cell}
use Rattle.lbm_symmetry.specs.Sets.{former_direction}

-- each cell of the moved case is as the cell that is moved to it, and vectors are moved; the velocity set and the rates stay
abbrev pub moved_case : Motion → FlowCase → FlowCase
moved_case m case =
    let box = moved_torus m case.torus in
    let former = former_cell m case.torus in
    record case {
      torus = box;
      densities = list_below (cells box) (λ y. first_density case (former y));
      moving = filter (λ y. is_moving case (former y)) (range_with_len 0 (cells box));
      wall = moved_vector m case.wall;
      force = moved_vector m case.force;
      momentum = moved_vector m case.momentum;
    }

-- each population is moved with its cell and with its velocity
abbrev pub moved_state : Motion → FlowCase → FlowState → FlowState
moved_state m case s = state_by (moved_case m case) (λ y j. population s (former_cell m case.torus y) (former_direction m case.stencil j))
