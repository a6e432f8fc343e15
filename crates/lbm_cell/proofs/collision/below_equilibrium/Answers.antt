use Rattle.std.proofs.Common.{◌≡◌, ◌≤◌, ◌*◌, ◌^◌, ◌*ℤ◌, unsigned_abs, arith}
use Rattle.std.proofs.lemmas.Int.{ints}
use Rattle.lbm_cell.proofs.Sizes.{product_of, product_size}
use Rattle.lbm_cell.proofs.collision.below_equilibrium.Goals as goal

pub difference-requires : goal.difference-requires
difference-requires c =
    let first : c.product.result ≡ c.args.weight *ℤ c.args.numerator = product_of _ _ _ c.ranges.weight c.ranges.numerator c.product.ensures.value in
    let second : c.product-2.result ≡ c.args.scale *ℤ c.args.population = product_of _ _ _ c.ranges.scale c.ranges.population c.product-2.ensures.value in
    let first_size : unsigned_abs c.product.result ≤ 216 * 2 ^ 53 = rw first (product_size c.args.weight c.args.numerator 216 (2 ^ 53) c.requires.weight_small (omega (arith, c.requires.numerator_small))) in
    let second_size : unsigned_abs c.product-2.result ≤ 382205952 * 1769472 = rw second (product_size c.args.scale c.args.population 382205952 1769472 c.requires.scale_small c.requires.population_small) in
    omega (arith, ints, c.product-3.ensures.value)
