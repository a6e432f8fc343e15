use Rattle.std.proofs.Common.{◌≡◌, ◌<◌, ◌≤◌, ℕ, ℤ, List, pos, unsigned_abs, FitsSigned, w64, slice_index_or, arith, rules, to_z, ◌+ℤ◌, ◌*ℤ◌, ◌*◌, sym, ◌∙◌, ap}
use Rattle.std.proofs.lemmas.Int.{to_z-of_z}
use Rattle.lbm_space.specs.Stencil.{part, velocity}
use Rattle.lbm_space.proofs.Sums.{sum_below_more}
use Rattle.lbm_cell.specs.Moments.{populations}
use Rattle.lbm_cell.proofs.Sizes.{size_of_32, unsigned_abs-add, product_size, clean}
use Rattle.lbm_cell.proofs.moments.momentum_part.Goals as goal

pub loop-i-preserved : goal.loop-i-preserved
loop-i-preserved g c =
    let v = g.V.VelocitySet.stencil in
    let i = c.loop-i.i in
    let x = populations c.args.f.now.f i in
    let u = part (velocity v i) c.args.axis in
    let total = to_z w64 c.loop-i.total-bits in
    let known : i < v.directions = omega (arith, g.met.V.VelocitySet.constants.0) in
    let small : unsigned_abs x ≤ 2147483648 = size_of_32 _ (c.requires.fits i known) in
    let fits_u : FitsSigned w64 (slice_index_or c.c.result c.args.axis (pos 0)) = search rules in
    let fits_x : FitsSigned w64 x = search rules in
    let fits : FitsSigned w64 c.add_scaled-total.result = search rules in
    let u_is : slice_index_or c.c.result c.args.axis (pos 0) ≡ u = ap (λ (w : List ℤ). part w c.args.axis) c.c.ensures in
    let next : c.add_scaled-total.result ≡ total +ℤ u *ℤ x = rw (to_z-of_z w64 x fits_x, clean (slice_index_or c.c.result c.args.axis (pos 0)) u fits_u u_is) at c.add_scaled-total.ensures in
    let product : unsigned_abs (u *ℤ x) ≤ 1 * unsigned_abs x = product_size u x 1 (unsigned_abs x) (g.met.V.VelocitySet.laws.unit_parts i c.args.axis known c.requires.axis) (omega arith) in
    record {
      sum_is = to_z-of_z w64 c.add_scaled-total.result fits ∙ next ∙ ap (λ (s : ℤ). s +ℤ u *ℤ x) c.loop-i.invariant.sum_is ∙ sym (sum_below_more i (λ (k : ℕ). part (velocity v k) c.args.axis *ℤ populations c.args.f.now.f k));
      sum_small = rw (to_z-of_z w64 c.add_scaled-total.result fits, next) (omega (arith, unsigned_abs-add total (u *ℤ x), product, c.loop-i.invariant.sum_small));
    }
