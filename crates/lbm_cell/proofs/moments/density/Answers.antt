use Rattle.std.proofs.Common.{◌≡◌, ◌<◌, ◌≤◌, ℕ, ℤ, unsigned_abs, FitsSigned, w64, arith, rules, to_z, ◌+ℤ◌, sym, ◌∙◌, ap}
use Rattle.std.proofs.lemmas.Int.{to_z-of_z}
use Rattle.lbm_space.proofs.Sums.{sum_below_more}
use Rattle.lbm_cell.specs.Moments.{populations}
use Rattle.lbm_cell.proofs.Sizes.{size_of_32, unsigned_abs-add}
use Rattle.lbm_cell.proofs.moments.density.Goals as goal

pub loop-i-preserved : goal.loop-i-preserved
loop-i-preserved g c =
    let i = c.loop-i.i in
    let x = populations c.args.f.now.f i in
    let total = to_z w64 c.loop-i.total-bits in
    let known : i < g.V.VelocitySet.stencil.directions = omega (arith, g.met.V.VelocitySet.constants.0) in
    let small : unsigned_abs x ≤ 2147483648 = size_of_32 _ (c.requires i known) in
    let fits_x : FitsSigned w64 x = search rules in
    let fits : FitsSigned w64 c.sum-total.result = search rules in
    let next : c.sum-total.result ≡ total +ℤ x = rw (to_z-of_z w64 x fits_x) at c.sum-total.ensures.value in
    record {
      sum_is = to_z-of_z w64 c.sum-total.result fits ∙ next ∙ ap (λ (s : ℤ). s +ℤ x) c.loop-i.invariant.sum_is ∙ sym (sum_below_more i (λ (k : ℕ). populations c.args.f.now.f k));
      sum_small = rw (to_z-of_z w64 c.sum-total.result fits, next) (omega (arith, unsigned_abs-add total x, c.loop-i.invariant.sum_small));
    }
