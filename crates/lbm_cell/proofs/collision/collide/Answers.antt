use Rattle.std.proofs.Common.{◌≡◌, ◌≢◌, ◌<◌, ◌≤◌, ◌*◌, ◌^◌, ℕ, ℤ, pos, ◌+ℤ◌, ◌*ℤ◌, ◌<ℤ◌, ◌≤ℤ◌, unsigned_abs, FitsSigned, w64, length, to_z, of_z, lit<, arith, rules, refl, inl, inr, ◌∙◌, get_or-set_same, get_or-set_other, length-set}
use Rattle.std.proofs.lemmas.Int.{ints, to_z-of_z}
use Rattle.std.proofs.lemmas.Bool.{cases_lt}
use Rattle.lbm_cell.specs.Moments.{populations, density}
use Rattle.lbm_cell.specs.Collision.{relaxation, push, collision}
use Rattle.lbm_cell.proofs.Sizes.{fits_32, clean, clean_product, product_size, room}
use Rattle.lbm_cell.proofs.Limits.{InLimits-from_test, denominator_small, density_small, population_small, moved_small, collision_small}
use Rattle.lbm_cell.proofs.Conservation.{with_rest-same, density-same, density-collision}
use Rattle.lbm_cell.proofs.collision.collide.Goals as goal

-- a rate is at most 1024
rate_small : (z : ℤ) → pos 0 <ℤ z → z ≤ℤ pos 1024 → unsigned_abs z ≤ 1024
rate_small z above at_most = omega (arith, ints)

four_times : (r a x : ℤ) → FitsSigned w64 a → a ≡ x → r ≡ pos 4 *ℤ to_z w64 (of_z w64 a) → r ≡ pos 4 *ℤ x
four_times r a x fits is e = rw (clean a x fits is) at e

pub moment-m-requires : goal.moment-m-requires
moment-m-requires g c =
    let f = populations c.args.f.now.f in
    λ i known. fits_32 (f i) (omega (arith, population_small g.V.VelocitySet.stencil f i (InLimits-from_test g.V.VelocitySet.stencil f c.requires) known))

pub product-scale-requires : goal.product-scale-requires
product-scale-requires g c =
    let v = g.V.VelocitySet.stencil in
    let f = populations c.args.f.now.f in
    let fits_d : FitsSigned w64 c.DEN.result = search rules in
    let fits_r : FitsSigned w64 c.moment-m.result.rho = search rules in
    room c.DEN.result c.moment-m.result.rho v.denominator (density v f) 216 1769472 (2 ^ 62) fits_d fits_r (c.DEN.ensures ∙ g.met.V.VelocitySet.constants.1) c.moment-m.ensures.density
    (denominator_small v g.met.V.VelocitySet.laws) (density_small v f (InLimits-from_test v f c.requires)) (lit< tt)

pub departures-departures-requires-clause-scale : goal.departures-departures-requires-clause-scale
departures-departures-requires-clause-scale g c =
    let v = g.V.VelocitySet.stencil in
    let rho = c.moment-m.result.rho in
    let fits_d : FitsSigned w64 c.DEN.result = search rules in
    let fits_r : FitsSigned w64 rho = search rules in
    let fits : FitsSigned w64 c.product-scale.result = search rules in
    let scale : c.product-scale.result ≡ v.denominator *ℤ rho = clean_product c.product-scale.result c.DEN.result rho v.denominator rho fits_d fits_r (c.DEN.ensures ∙ g.met.V.VelocitySet.constants.1) refl c.product-scale.ensures.value in
    rw (to_z-of_z w64 rho fits_r) (clean c.product-scale.result (v.denominator *ℤ rho) fits scale)

pub product-requires : goal.product-requires
product-requires g c =
    let v = g.V.VelocitySet.stencil in
    let f = populations c.args.f.now.f in
    let fits_d : FitsSigned w64 c.DEN.result = search rules in
    let fits_r : FitsSigned w64 c.moment-m.result.rho = search rules in
    let fits_s : FitsSigned w64 c.product-scale.result = search rules in
    let fits_q : FitsSigned w64 c.q.result = search rules in
    let scale : c.product-scale.result ≡ v.denominator *ℤ density v f = clean_product c.product-scale.result c.DEN.result c.moment-m.result.rho v.denominator (density v f) fits_d fits_r (c.DEN.ensures ∙ g.met.V.VelocitySet.constants.1) c.moment-m.ensures.density c.product-scale.ensures.value in
    room c.product-scale.result c.q.result (v.denominator *ℤ density v f) c.args.r.q 382205952 1024 (2 ^ 62) fits_s fits_q scale c.q.ensures.value
    (omega (arith, product_size v.denominator (density v f) 216 1769472 (denominator_small v g.met.V.VelocitySet.laws) (density_small v f (InLimits-from_test v f c.requires))))
    (rate_small c.args.r.q c.q.ensures.valid.q_above c.q.ensures.valid.q_at_most) (lit< tt)

pub product-divisor-requires : goal.product-divisor-requires
product-divisor-requires g c =
    let v = g.V.VelocitySet.stencil in
    let f = populations c.args.f.now.f in
    let fits_d : FitsSigned w64 c.DEN.result = search rules in
    let fits_r : FitsSigned w64 c.moment-m.result.rho = search rules in
    let fits_s : FitsSigned w64 c.product-scale.result = search rules in
    let fits_q : FitsSigned w64 c.q.result = search rules in
    let fits_w : FitsSigned w64 c.product.result = search rules in
    let scale : c.product-scale.result ≡ v.denominator *ℤ density v f = clean_product c.product-scale.result c.DEN.result c.moment-m.result.rho v.denominator (density v f) fits_d fits_r (c.DEN.ensures ∙ g.met.V.VelocitySet.constants.1) c.moment-m.ensures.density c.product-scale.ensures.value in
    let whole : c.product.result ≡ v.denominator *ℤ density v f *ℤ c.args.r.q = clean_product c.product.result c.product-scale.result c.q.result (v.denominator *ℤ density v f) c.args.r.q fits_s fits_q scale c.q.ensures.value c.product.ensures.value in
    let scale_size : unsigned_abs (v.denominator *ℤ density v f) ≤ 216 * 1769472 = product_size v.denominator (density v f) 216 1769472 (denominator_small v g.met.V.VelocitySet.laws) (density_small v f (InLimits-from_test v f c.requires)) in
    let size : unsigned_abs (v.denominator *ℤ density v f *ℤ c.args.r.q) ≤ 216 * 1769472 * 1024 = product_size (v.denominator *ℤ density v f) c.args.r.q (216 * 1769472) 1024 scale_size (rate_small c.args.r.q c.q.ensures.valid.q_above c.q.ensures.valid.q_at_most) in
    rw (clean c.product.result (v.denominator *ℤ density v f *ℤ c.args.r.q) fits_w whole)
    (omega (arith, product_size (pos 4) (v.denominator *ℤ density v f *ℤ c.args.r.q) 4 (216 * 1769472 * 1024) (omega arith) size))

pub loop-i-init : goal.loop-i-init
loop-i-init g c = record {
  done = λ k above below. absurd (omega arith);
  zeros = λ k past. c.zero-moving.ensures k;
  kept = search rules;
}

pub moved-requires-clause-divisor : goal.moved-requires-clause-divisor
moved-requires-clause-divisor g c =
    let v = g.V.VelocitySet.stencil in
    let f = populations c.args.f.now.f in
    let fits_d : FitsSigned w64 c.DEN.result = search rules in
    let fits_r : FitsSigned w64 c.moment-m.result.rho = search rules in
    let fits_s : FitsSigned w64 c.product-scale.result = search rules in
    let fits_q : FitsSigned w64 c.q.result = search rules in
    let fits_w : FitsSigned w64 c.product.result = search rules in
    let fits : FitsSigned w64 c.product-divisor.result = search rules in
    let scale : c.product-scale.result ≡ v.denominator *ℤ density v f = clean_product c.product-scale.result c.DEN.result c.moment-m.result.rho v.denominator (density v f) fits_d fits_r (c.DEN.ensures ∙ g.met.V.VelocitySet.constants.1) c.moment-m.ensures.density c.product-scale.ensures.value in
    let whole : c.product.result ≡ v.denominator *ℤ density v f *ℤ c.args.r.q = clean_product c.product.result c.product-scale.result c.q.result (v.denominator *ℤ density v f) c.args.r.q fits_s fits_q scale c.q.ensures.value c.product.ensures.value in
    clean c.product-divisor.result (pos 4 *ℤ (v.denominator *ℤ density v f *ℤ c.args.r.q)) fits (four_times c.product-divisor.result c.product.result (v.denominator *ℤ density v f *ℤ c.args.r.q) fits_w whole c.product-divisor.ensures.value)

pub loop-i-preserved : goal.loop-i-preserved
loop-i-preserved g c =
    let i = c.loop-i.i in
    let invariant = c.loop-i.invariant in
    let few = g.met.V.VelocitySet.laws.few_directions in
    let within : i < length c.loop-i.moving.f = omega (arith, invariant.kept, g.met.V.VelocitySet.constants.0) in
    let fits : FitsSigned w64 c.moved.result = search rules in
    record {
      done = λ k above below. elim (cases_lt k i) [
        | inl front ↦ (let ne : k ≢ i = omega arith in rw get_or-set_other (invariant.done k above front))
        | inr last ↦ (let same : k ≡ i = omega arith in rw (same, get_or-set_same, to_z-of_z w64 c.moved.result fits) c.moved.ensures)
      ];
      zeros = λ k past. let ne : k ≢ i = omega arith in rw get_or-set_other (invariant.zeros k (omega arith));
      kept = length-set _ _ _ ∙ invariant.kept;
    }

pub with_rest-requires-clause-density : goal.with_rest-requires-clause-density
with_rest-requires-clause-density g c =
    let v = g.V.VelocitySet.stencil in
    let f = populations c.args.f.now.f in
    let fits_r : FitsSigned w64 c.moment-m.result.rho = search rules in
    rw (clean c.moment-m.result.rho (density v f) fits_r c.moment-m.ensures.density) (omega (arith, density_small v f (InLimits-from_test v f c.requires)))

pub with_rest-requires-clause-moving : goal.with_rest-requires-clause-moving
with_rest-requires-clause-moving g c =
    let v = g.V.VelocitySet.stencil in
    let f = populations c.args.f.now.f in
    let all : c.loop-i.i ≡ v.directions = omega (arith, g.met.V.VelocitySet.constants.0, g.met.V.VelocitySet.laws.some_direction) in
    λ i above known. rw (c.loop-i.invariant.done i above (omega arith), c.parts-force.ensures.value)
    (omega (arith, moved_small v c.args.r c.args.g f i g.met.V.VelocitySet.laws c.q.ensures.valid c.parts-force.ensures.valid (InLimits-from_test v f c.requires) above known))

pub with_rest-requires-clause-zeros : goal.with_rest-requires-clause-zeros
with_rest-requires-clause-zeros g c =
    let v = g.V.VelocitySet.stencil in
    let all : c.loop-i.i ≡ v.directions = omega (arith, g.met.V.VelocitySet.constants.0, g.met.V.VelocitySet.laws.some_direction) in
    λ i past. c.loop-i.invariant.zeros i (omega arith)

pub returns-clause-post : goal.returns-clause-post
returns-clause-post g c =
    let v = g.V.VelocitySet.stencil in
    let f = populations c.args.f.now.f in
    let rho = c.moment-m.result.rho in
    let fits_r : FitsSigned w64 rho = search rules in
    let moving = populations c.loop-i.moving.f in
    let next : ℕ → ℤ = λ k. f k +ℤ relaxation v c.args.r f k +ℤ push v c.args.g k in
    let all : c.loop-i.i ≡ v.directions = omega (arith, g.met.V.VelocitySet.constants.0, g.met.V.VelocitySet.laws.some_direction) in
    let done : (k : ℕ) → 0 < k → k < v.directions → moving k ≡ next k = λ k above below. rw c.parts-force.ensures.value at (c.loop-i.invariant.done k above (omega arith)) in
    λ i known. (rw (clean rho (density v f) fits_r c.moment-m.ensures.density) at (c.with_rest.ensures.values i known)) ∙ with_rest-same v (density v f) moving next done i known

pub returns-clause-density : goal.returns-clause-density
returns-clause-density g c =
    let v = g.V.VelocitySet.stencil in
    let f = populations c.args.f.now.f in
    density-same v (populations c.with_rest.result.f) (collision v c.args.r c.args.g f) (density v f) (returns-clause-post g c) (density-collision v c.args.r c.args.g f g.met.V.VelocitySet.laws.some_direction)

pub returns-clause-small : goal.returns-clause-small
returns-clause-small g c =
    let v = g.V.VelocitySet.stencil in
    let f = populations c.args.f.now.f in
    λ i. elim (cases_lt i v.directions) [
      | inl known ↦ rw (returns-clause-post g c i known) (collision_small v c.args.r c.args.g f i g.met.V.VelocitySet.laws c.q.ensures.valid c.parts-force.ensures.valid (InLimits-from_test v f c.requires) known)
      | inr past ↦ rw (c.with_rest.ensures.zeros i past) (lit< tt)
    ]
