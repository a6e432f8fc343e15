use Rattle.std.specs.Prelude.{refl}
use Rattle.lbm_space.specs.Stencil.{IsVelocitySet}
use Rattle.lbm_space.specs.Laws.{all_pass, laws_from_tests}
use Rattle.lbm_sets.specs.Tables.{d3q15, d3q27}

pub d3q15_laws : IsVelocitySet d3q15
unfolding all_pass
d3q15_laws = laws_from_tests d3q15 (record { some_direction = refl; few_directions = refl; plane_or_space = refl; all_velocities = refl; all_weights = refl; all_opposites = refl; three_parts = refl; unit_parts = refl; flat_parts = refl; rest = refl; distinct = refl; opposite_exists = refl; opposite_twice = refl; opposite_velocity = refl; opposite_weight = refl; positive_weights = refl; whole = refl; balanced = refl; isotropic = refl; small_denominator = refl; light = refl })

pub d3q27_laws : IsVelocitySet d3q27
unfolding all_pass
d3q27_laws = laws_from_tests d3q27 (record { some_direction = refl; few_directions = refl; plane_or_space = refl; all_velocities = refl; all_weights = refl; all_opposites = refl; three_parts = refl; unit_parts = refl; flat_parts = refl; rest = refl; distinct = refl; opposite_exists = refl; opposite_twice = refl; opposite_velocity = refl; opposite_weight = refl; positive_weights = refl; whole = refl; balanced = refl; isotropic = refl; small_denominator = refl; light = refl })
