-- The worked cases, by computation.
use Rattle.std.proofs.Common.{refl}
use Rattle.lbm_space.specs.Padded.{padded_index, offset, reach}
use Rattle.lbm_model.specs.Worked.{pushed_cell, PushedCell, LeavingCell, two_levels, TwoLevels, NoStep, dense_cells, DenseCells, boxed_cell, BoxedCell, two_rates, TwoRates, pressing_wall, PressingWall, sliding_wall, SlidingWall, three_by_two, KeptPopulations}

pub pushed : PushedCell
unfolding pushed_cell
pushed = record { momentum_after_one = refl; momentum_after_two = refl; mass_after_two = refl; populations_after_two = refl }

pub leaving : LeavingCell
unfolding pushed_cell
leaving = record { within = refl; at_the_end = refl; before_the_end = refl }

pub levelled : TwoLevels
unfolding two_levels
levelled = record { at_first = refl; after_one = refl; after_two = refl; after_three = refl; still = refl; masses = refl }

pub unmoved : NoStep
unfolding two_levels
unmoved = record { first_state = refl; first_populations = refl }

pub crowded : DenseCells
unfolding dense_cells
crowded = record { at_once = refl }

pub boxed : BoxedCell
unfolding boxed_cell
boxed = record { first_populations = refl; densities = refl; momenta = refl; masses = refl }

pub mixed : TwoRates
unfolding two_rates
mixed = record { slow_momentum = refl; slow_density = refl; slow_mass = refl; same_momentum = refl; same_density = refl; same_mass = refl }

pub pressed : PressingWall
unfolding pressing_wall
pressed = record { gain = refl; first_mass = refl; mass_after_one = refl; density_after_one = refl; momentum_after_one = refl }

pub slid : SlidingWall
unfolding sliding_wall
slid = record { gain = refl; mass_after_one = refl; momentum_after_one = refl }

pub kept : KeptPopulations
unfolding three_by_two padded_index offset reach
kept = record {
  two_array = refl;
  two_slot = refl;
  swap_array = refl;
  swap_slot = refl;
  aa_array_at_even_times = refl;
  aa_slot_at_even_times = refl;
  aa_array_at_odd_times = refl;
  aa_slot_at_odd_times = refl;
  grid_array = refl;
  grid_slot_at_even_times = refl;
  grid_slot_at_odd_times = refl;
}
