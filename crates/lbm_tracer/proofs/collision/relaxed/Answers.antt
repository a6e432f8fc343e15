use Rattle.std.proofs.Common.{◌≡◌, ◌≤◌, ◌^◌, ◌+ℤ◌, ◌-ℤ◌, ◌*ℤ◌, ◌≤ℤ◌, pos, unsigned_abs, ℤ, ap, ◌∙◌, arith}
use Rattle.std.proofs.lemmas.Int.{ints}
use Rattle.lbm_cell.specs.Collision.{floor_div}
use Rattle.lbm_cell.proofs.Sizes.{unsigned_abs-add}
use Rattle.lbm_space.specs.Stencil.{weight, dot, velocity}
use Rattle.lbm_tracer.specs.Sets.{stencil_of, inverse_sound_squared}
use Rattle.lbm_tracer.specs.Collision.{momentum_of}
use Rattle.lbm_tracer.proofs.Sets.{named_facts}
use Rattle.lbm_tracer.proofs.Numbers.{fits, held}
use Rattle.lbm_tracer.proofs.collision.relaxed.Goals as goal

scale_small : (s : ℤ) → pos 2654208 ≤ℤ s → s ≤ℤ pos 14155776 → unsigned_abs s ≤ 14155776
scale_small s least most = omega (arith, ints)

two : (a r : ℤ) → unsigned_abs a ≤ 16777216 → unsigned_abs r ≤ 2 ^ 30 → unsigned_abs (a +ℤ r) ≤ 2 ^ 31
two a r small_a small_r = omega (arith, unsigned_abs-add a r)

pub below_equilibrium-below-requires-clause-weight_small : goal.below_equilibrium-below-requires-clause-weight_small
below_equilibrium-below-requires-clause-weight_small c =
    let small : unsigned_abs c.weight.result ≤ 2 = rw c.weight.ensures ((named_facts c.args.set).light c.args.k c.requires.known) in
    rw (held c.weight.result (omega (arith, small))) small

pub below_equilibrium-below-requires-clause-scale_small : goal.below_equilibrium-below-requires-clause-scale_small
below_equilibrium-below-requires-clause-scale_small c =
    let small = scale_small c.scale_of-scale.result c.scale_of-scale.ensures.least c.scale_of-scale.ensures.most in
    rw (held c.scale_of-scale.result (omega (arith, small))) small

pub overflow_add-result : goal.overflow_add-result
overflow_add-result c =
    let a = c.args.amount in let r = c.relaxation.result in
    rw (held a (omega (arith, c.requires.amount)), held r (omega (arith, c.relaxation.ensures.size))) (fits (a +ℤ r) (omega (arith, two a r c.requires.amount c.relaxation.ensures.size)))

pub returns-clause-value : goal.returns-clause-value
returns-clause-value c =
    let v = stencil_of c.args.set in let p = c.args.rates.p in let q = c.args.rates.q in
    let w = c.weight.result in let u = c.carried-carried.result in let s = c.scale_of-scale.result in let b = c.below_equilibrium-below.result in
    let t = c.args.total in let a = c.args.amount in let r = c.relaxation.result in
    let w_small : unsigned_abs w ≤ 2 = rw c.weight.ensures ((named_facts c.args.set).light c.args.k c.requires.known) in
    let s_small = scale_small s c.scale_of-scale.ensures.least c.scale_of-scale.ensures.most in
    let held_w = held w (omega (arith, w_small)) in let held_s = held s (omega (arith, s_small)) in
    let held_u = held u (omega (arith, c.carried-carried.ensures.size)) in let held_b = held b (omega (arith, c.below_equilibrium-below.ensures.size)) in
    let held_t = held t (omega (arith, c.requires.total)) in let held_a = held a (omega (arith, c.requires.amount)) in
    let held_r = held r (omega (arith, c.relaxation.ensures.size)) in
    let b_is : b ≡ w *ℤ (t *ℤ u) -ℤ s *ℤ a = rw (held_w, held_t, held_u, held_s, held_a) at c.below_equilibrium-below.ensures.value in
    let r_is : r ≡ floor_div (p *ℤ b) (s *ℤ q) = rw (held_b, held_s) at c.relaxation.ensures.value in
    rw (held_a, held_r, held (a +ℤ r) (omega (arith, two a r c.requires.amount c.relaxation.ensures.size)))
    (ap (λ z. a +ℤ z) (r_is ∙ ap (λ x. floor_div (p *ℤ x) (s *ℤ q)) b_is
    ∙ ap (λ x. floor_div (p *ℤ (x *ℤ (t *ℤ u) -ℤ s *ℤ a)) (s *ℤ q)) c.weight.ensures
    ∙ ap (λ x. floor_div (p *ℤ (weight v c.args.k *ℤ (t *ℤ x) -ℤ s *ℤ a)) (s *ℤ q)) c.carried-carried.ensures.value
    ∙ ap (λ x. floor_div (p *ℤ (weight v c.args.k *ℤ (t *ℤ (c.args.flow.now.rho +ℤ inverse_sound_squared v *ℤ dot (velocity v c.args.k) (momentum_of c.args.flow.now))) -ℤ x *ℤ a)) (x *ℤ q)) c.scale_of-scale.ensures.value))
