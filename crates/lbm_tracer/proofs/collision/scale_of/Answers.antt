use Rattle.std.proofs.Common.{◌≡◌, ◌≤◌, ◌*◌, ℕ, ◌*ℤ◌, ◌≤ℤ◌, pos, negsuc, unsigned_abs, ℤ, to_z, of_z, w64, ap, ◌∙◌, arith}
use Rattle.std.proofs.lemmas.Int.{ints}
use Rattle.std.proofs.lemmas.Nat.{mul-le}
use Rattle.lbm_cell.proofs.Sizes.{product_size}
use Rattle.lbm_cell.specs.declared.populations.Moment.{Moment}
use Rattle.lbm_tracer.specs.Collision.{IsFlowMoment}
use Rattle.lbm_tracer.specs.Sets.{stencil_of}
use Rattle.lbm_tracer.specs.declared.set.TracerSet.{TracerSet}
use Rattle.lbm_tracer.proofs.Sets.{named_facts}
use Rattle.lbm_tracer.proofs.Numbers.{fits, held, density_size}
use Rattle.lbm_tracer.proofs.collision.scale_of.Goals as goal

-- a denominator from 6 to 8, times a density in limits
scale_between : (d : ℕ) (rho : ℤ) → 6 ≤ d → d ≤ 8 → pos 442368 ≤ℤ rho → rho ≤ℤ pos 1769472 → (pos 2654208 ≤ℤ (pos d *ℤ rho)) × ((pos d *ℤ rho) ≤ℤ pos 14155776)
scale_between d (pos r) least most thin dense =
    let low = mul-le 6 442368 d r least (omega (arith, ints)) in
    let high = mul-le d r 8 1769472 most (omega (arith, ints)) in
    (omega (arith, ints, low), omega (arith, ints, high))
scale_between d (negsuc r) least most thin dense = absurd (omega (arith, ints))

record Scale (z rho : ℤ) : Type 0 where
  factor : to_z w64 (of_z w64 z) ≡ z
  density : to_z w64 (of_z w64 rho) ≡ rho
  size : unsigned_abs (z *ℤ rho) ≤ 8 * 1769472
  least : pos 2654208 ≤ℤ (z *ℤ rho)
  most : (z *ℤ rho) ≤ℤ pos 14155776

scale : (set : TracerSet) (z : ℤ) (flow : Moment) → z ≡ (stencil_of set).denominator → IsFlowMoment flow → Scale z flow.rho
scale set z flow is moment =
    let facts = named_facts set in
    let d = unsigned_abs (stencil_of set).denominator in
    let whole : z ≡ pos d = is ∙ facts.denominator in
    let small : unsigned_abs z ≤ 8 = rw whole facts.denominator_most in
    let both = scale_between d flow.rho facts.denominator_least facts.denominator_most moment.not_thin moment.not_dense in
    record {
      factor = held z (omega (arith, small));
      density = held flow.rho (omega (arith, density_size flow moment));
      size = product_size z flow.rho 8 1769472 small (density_size flow moment);
      least = rw whole both.0;
      most = rw whole both.1;
    }

pub overflow_mul-result : goal.overflow_mul-result
overflow_mul-result c =
    let s = scale c.args.set c.denominator.result c.args.flow.now c.denominator.ensures c.requires in
    rw (s.factor, s.density) (fits (c.denominator.result *ℤ c.args.flow.now.rho) (omega (arith, s.size)))

pub returns-clause-value : goal.returns-clause-value
returns-clause-value c =
    let s = scale c.args.set c.denominator.result c.args.flow.now c.denominator.ensures c.requires in
    rw (s.factor, s.density, held (c.denominator.result *ℤ c.args.flow.now.rho) (omega (arith, s.size))) (ap (λ z. z *ℤ c.args.flow.now.rho) c.denominator.ensures)

pub returns-clause-least : goal.returns-clause-least
returns-clause-least c =
    let s = scale c.args.set c.denominator.result c.args.flow.now c.denominator.ensures c.requires in
    rw (s.factor, s.density, held (c.denominator.result *ℤ c.args.flow.now.rho) (omega (arith, s.size))) s.least

pub returns-clause-most : goal.returns-clause-most
returns-clause-most c =
    let s = scale c.args.set c.denominator.result c.args.flow.now c.denominator.ensures c.requires in
    rw (s.factor, s.density, held (c.denominator.result *ℤ c.args.flow.now.rho) (omega (arith, s.size))) s.most
