use Rattle.std.proofs.Common.{◌≡◌, ◌<◌, ◌^◌, ℤ, pos, ◌+ℤ◌, ◌-ℤ◌, ◌*ℤ◌, ◌≤ℤ◌, ◌≤◌, ◌<ℤ◌, unsigned_abs, FitsSigned, w64, to_z, of_z, arith, rules, refl}
use Rattle.std.proofs.lemmas.Int.{ints, to_z-of_z}
use Rattle.lbm_space.specs.Stencil.{opposite}
use Rattle.lbm_cell.specs.Moments.{populations, density}
use Rattle.lbm_cell.specs.Collision.{departure, relaxation, push, floor_div}
use Rattle.lbm_cell.proofs.Sizes.{clean, clean_sum, size_at_most, unsigned_abs-add}
use Rattle.lbm_cell.proofs.Limits.{InLimits-from_test, opposite_moves, departure_number, denominator_above, density_above, divisor_above, relaxed_small, push_small}
use Rattle.lbm_cell.proofs.collision.moved.Goals as goal

at_least_one : (z : ℤ) → pos 0 <ℤ z → pos 1 ≤ℤ z
at_least_one z above = omega (arith, ints)

pub offset_bounds-departures-opp : goal.offset_bounds-departures-opp
offset_bounds-departures-opp g c =
    let laws = g.met.V.VelocitySet.laws in
    omega (arith, c.opp.ensures, laws.opposite_exists c.args.i c.requires.known, laws.few_directions)

pub bounds-departures-opp : goal.bounds-departures-opp
bounds-departures-opp g c =
    let laws = g.met.V.VelocitySet.laws in
    omega (arith, c.opp.ensures, laws.opposite_exists c.args.i c.requires.known, laws.few_directions)

pub relaxation-change-requires-clause-a_small : goal.relaxation-change-requires-clause-a_small
relaxation-change-requires-clause-a_small g c =
    let v = g.V.VelocitySet.stencil in
    let f = populations c.args.f.now.f in
    let a = populations c.args.departures.now c.args.i in
    let fits : FitsSigned w64 a = search rules in
    size_at_most a (departure v f c.args.i) 2028908190892032 fits (c.requires.departures c.args.i c.requires.moving c.requires.known)
    (departure_number v f c.args.i g.met.V.VelocitySet.laws (InLimits-from_test v f c.requires.limits) c.requires.moving c.requires.known)

pub relaxation-change-requires-clause-b_small : goal.relaxation-change-requires-clause-b_small
relaxation-change-requires-clause-b_small g c =
    let v = g.V.VelocitySet.stencil in
    let laws = g.met.V.VelocitySet.laws in
    let f = populations c.args.f.now.f in
    let b = populations c.args.departures.now c.opp.result in
    let fits : FitsSigned w64 b = search rules in
    let moves : 0 < opposite v c.args.i = opposite_moves v c.args.i laws c.requires.moving c.requires.known in
    let known : opposite v c.args.i < v.directions = laws.opposite_exists c.args.i c.requires.known in
    let b_is : b ≡ departure v f (opposite v c.args.i) = rw c.opp.ensures (c.requires.departures (opposite v c.args.i) moves known) in
    size_at_most b (departure v f (opposite v c.args.i)) 2028908190892032 fits b_is
    (departure_number v f (opposite v c.args.i) laws (InLimits-from_test v f c.requires.limits) moves known)

pub relaxation-change-requires-clause-divides : goal.relaxation-change-requires-clause-divides
relaxation-change-requires-clause-divides g c =
    let v = g.V.VelocitySet.stencil in
    let f = populations c.args.f.now.f in
    rw (clean c.args.divisor _ c.ranges.divisor c.requires.divisor)
    (at_least_one _ (divisor_above v.denominator (density v f) c.args.rates.q (denominator_above v g.met.V.VelocitySet.laws) (density_above v f (InLimits-from_test v f c.requires.limits)) c.requires.allowed_rates.q_above))

-- what relaxation adds, by the numbers that its departures and divisor are
change_is : (p m r a b d x y e : ℤ) → FitsSigned w64 a → FitsSigned w64 b → FitsSigned w64 d → a ≡ x → b ≡ y → d ≡ e →
    r ≡ floor_div (p *ℤ (to_z w64 (of_z w64 a) +ℤ to_z w64 (of_z w64 b)) +ℤ m *ℤ (to_z w64 (of_z w64 a) -ℤ to_z w64 (of_z w64 b))) (to_z w64 (of_z w64 d)) →
    r ≡ floor_div (p *ℤ (x +ℤ y) +ℤ m *ℤ (x -ℤ y)) e
change_is p m r a b d x y e fits_a fits_b fits_d a_is b_is d_is h = rw (clean a x fits_a a_is, clean b y fits_b b_is, clean d e fits_d d_is) at h

pub sum-requires : goal.sum-requires
sum-requires g c =
    let v = g.V.VelocitySet.stencil in
    let laws = g.met.V.VelocitySet.laws in
    let f = populations c.args.f.now.f in
    let a = populations c.args.departures.now c.args.i in
    let b = populations c.args.departures.now c.opp.result in
    let fits_a : FitsSigned w64 a = search rules in
    let fits_b : FitsSigned w64 b = search rules in
    let fits_x : FitsSigned w64 (f c.args.i) = search rules in
    let fits_r : FitsSigned w64 c.relaxation-change.result = search rules in
    let b_is : b ≡ departure v f (opposite v c.args.i) = rw c.opp.ensures (c.requires.departures (opposite v c.args.i) (opposite_moves v c.args.i laws c.requires.moving c.requires.known) (laws.opposite_exists c.args.i c.requires.known)) in
    let change : c.relaxation-change.result ≡ relaxation v c.args.rates f c.args.i =
    change_is c.args.rates.p c.args.rates.m c.relaxation-change.result a b c.args.divisor (departure v f c.args.i) (departure v f (opposite v c.args.i)) (pos 4 *ℤ (v.denominator *ℤ density v f *ℤ c.args.rates.q)) fits_a fits_b c.ranges.divisor (c.requires.departures c.args.i c.requires.moving c.requires.known) b_is c.requires.divisor c.relaxation-change.ensures in
    rw (to_z-of_z w64 (f c.args.i) fits_x, clean c.relaxation-change.result (relaxation v c.args.rates f c.args.i) fits_r change)
    (omega (arith, relaxed_small v c.args.rates f c.args.i laws c.requires.allowed_rates (InLimits-from_test v f c.requires.limits) c.requires.moving c.requires.known))

two_small : (a b : ℤ) → unsigned_abs a ≤ 7077888 → unsigned_abs b ≤ 663552 → unsigned_abs (a +ℤ b) < 2 ^ 62
two_small a b small_a small_b = omega (arith, unsigned_abs-add a b)

pub sum-requires-2 : goal.sum-requires-2
sum-requires-2 g c =
    let v = g.V.VelocitySet.stencil in
    let laws = g.met.V.VelocitySet.laws in
    let f = populations c.args.f.now.f in
    let a = populations c.args.departures.now c.args.i in
    let b = populations c.args.departures.now c.opp.result in
    let fits_a : FitsSigned w64 a = search rules in
    let fits_b : FitsSigned w64 b = search rules in
    let fits_x : FitsSigned w64 (f c.args.i) = search rules in
    let fits_r : FitsSigned w64 c.relaxation-change.result = search rules in
    let fits_s : FitsSigned w64 c.sum.result = search rules in
    let fits_p : FitsSigned w64 c.push-push.result = search rules in
    let b_is : b ≡ departure v f (opposite v c.args.i) = rw c.opp.ensures (c.requires.departures (opposite v c.args.i) (opposite_moves v c.args.i laws c.requires.moving c.requires.known) (laws.opposite_exists c.args.i c.requires.known)) in
    let change : c.relaxation-change.result ≡ relaxation v c.args.rates f c.args.i =
    change_is c.args.rates.p c.args.rates.m c.relaxation-change.result a b c.args.divisor (departure v f c.args.i) (departure v f (opposite v c.args.i)) (pos 4 *ℤ (v.denominator *ℤ density v f *ℤ c.args.rates.q)) fits_a fits_b c.ranges.divisor (c.requires.departures c.args.i c.requires.moving c.requires.known) b_is c.requires.divisor c.relaxation-change.ensures in
    let relaxed : c.sum.result ≡ f c.args.i +ℤ relaxation v c.args.rates f c.args.i = clean_sum c.sum.result (f c.args.i) c.relaxation-change.result (f c.args.i) (relaxation v c.args.rates f c.args.i) fits_x fits_r refl change c.sum.ensures.value in
    rw (clean c.sum.result (f c.args.i +ℤ relaxation v c.args.rates f c.args.i) fits_s relaxed, clean c.push-push.result (push v c.args.force.now c.args.i) fits_p c.push-push.ensures)
    (two_small (f c.args.i +ℤ relaxation v c.args.rates f c.args.i) (push v c.args.force.now c.args.i) (relaxed_small v c.args.rates f c.args.i laws c.requires.allowed_rates (InLimits-from_test v f c.requires.limits) c.requires.moving c.requires.known) (push_small v c.args.force.now c.args.i laws c.requires.allowed_force c.requires.known))

pub returns : goal.returns
returns g c =
    let v = g.V.VelocitySet.stencil in
    let laws = g.met.V.VelocitySet.laws in
    let f = populations c.args.f.now.f in
    let a = populations c.args.departures.now c.args.i in
    let b = populations c.args.departures.now c.opp.result in
    let fits_a : FitsSigned w64 a = search rules in
    let fits_b : FitsSigned w64 b = search rules in
    let fits_x : FitsSigned w64 (f c.args.i) = search rules in
    let fits_r : FitsSigned w64 c.relaxation-change.result = search rules in
    let fits_s : FitsSigned w64 c.sum.result = search rules in
    let fits_p : FitsSigned w64 c.push-push.result = search rules in
    let b_is : b ≡ departure v f (opposite v c.args.i) = rw c.opp.ensures (c.requires.departures (opposite v c.args.i) (opposite_moves v c.args.i laws c.requires.moving c.requires.known) (laws.opposite_exists c.args.i c.requires.known)) in
    let change : c.relaxation-change.result ≡ relaxation v c.args.rates f c.args.i =
    change_is c.args.rates.p c.args.rates.m c.relaxation-change.result a b c.args.divisor (departure v f c.args.i) (departure v f (opposite v c.args.i)) (pos 4 *ℤ (v.denominator *ℤ density v f *ℤ c.args.rates.q)) fits_a fits_b c.ranges.divisor (c.requires.departures c.args.i c.requires.moving c.requires.known) b_is c.requires.divisor c.relaxation-change.ensures in
    let relaxed : c.sum.result ≡ f c.args.i +ℤ relaxation v c.args.rates f c.args.i = clean_sum c.sum.result (f c.args.i) c.relaxation-change.result (f c.args.i) (relaxation v c.args.rates f c.args.i) fits_x fits_r refl change c.sum.ensures.value in
    let fits : FitsSigned w64 c.sum-2.result = search rules in
    let pushed : c.sum-2.result ≡ f c.args.i +ℤ relaxation v c.args.rates f c.args.i +ℤ push v c.args.force.now c.args.i = clean_sum c.sum-2.result c.sum.result c.push-push.result (f c.args.i +ℤ relaxation v c.args.rates f c.args.i) (push v c.args.force.now c.args.i) fits_s fits_p relaxed c.push-push.ensures c.sum-2.ensures.value in
    clean c.sum-2.result (f c.args.i +ℤ relaxation v c.args.rates f c.args.i +ℤ push v c.args.force.now c.args.i) fits pushed
