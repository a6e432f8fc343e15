use Rattle.std.proofs.Common.{◌≡◌, ◌≢◌, ◌<◌, ◌≤◌, ◌+ℤ◌, ℕ, unsigned_abs, ℤ, to_z, of_z, w64, length, ap, ◌∙◌, inl, inr, arith, rules, get_or-set_same, get_or-set_other, length-set}
use Rattle.std.proofs.lemmas.Bool.{cases_lt}
use Rattle.lbm_cell.specs.Moments.{populations, density}
use Rattle.lbm_cell.specs.Collision.{with_rest}
use Rattle.lbm_cell.proofs.Conservation.{with_rest-same}
use Rattle.lbm_tracer.specs.Sets.{stencil_of}
use Rattle.lbm_tracer.specs.Collision.{relaxation_of, momentum_of}
use Rattle.lbm_tracer.proofs.Sets.{named_facts}
use Rattle.lbm_tracer.proofs.Limits.{InTracerLimits-from_test, total_small, amount_small}
use Rattle.lbm_tracer.proofs.Numbers.{held}
use Rattle.lbm_tracer.proofs.collision.collide.Goals as goal

pub loop-k-init : goal.loop-k-init
loop-k-init c = record { done = λ k above below. absurd (omega arith); small = λ k above below. absurd (omega arith); kept = search rules }

pub relaxed-requires-clause-total : goal.relaxed-requires-clause-total
relaxed-requires-clause-total c =
    let v = stencil_of c.args.set in let g = populations c.args.amounts.now in
    let small : unsigned_abs c.sum_of-total.result ≤ 16777216 = rw c.sum_of-total.ensures.value (total_small v g (named_facts c.args.set) (InTracerLimits-from_test v g c.requires.limits)) in
    rw (held c.sum_of-total.result (omega (arith, small))) small

pub relaxed-requires-clause-amount : goal.relaxed-requires-clause-amount
relaxed-requires-clause-amount c =
    let v = stencil_of c.args.set in let g = populations c.args.amounts.now in
    let small = amount_small v g c.loop-k.k (InTracerLimits-from_test v g c.requires.limits) (omega (arith, c.q-k-end.ensures, c.loop-k-test.true)) in
    rw (held (g c.loop-k.k) (omega (arith, small))) small

pub loop-k-preserved : goal.loop-k-preserved
loop-k-preserved c =
    let v = stencil_of c.args.set in let g = populations c.args.amounts.now in let flow = c.args.flow.now in
    let k = c.loop-k.k in let old = c.loop-k.invariant in let facts = named_facts c.args.set in
    let within : k < length c.loop-k.moving = omega (arith, old.kept, facts.few, c.q-k-end.ensures, c.loop-k-test.true) in
    let r = c.relaxed.result in
    let same : to_z w64 (of_z w64 r) ≡ r = held r (omega (arith, c.relaxed.ensures.size)) in
    let limits = InTracerLimits-from_test v g c.requires.limits in
    let total : unsigned_abs c.sum_of-total.result ≤ 16777216 = rw c.sum_of-total.ensures.value (total_small v g facts limits) in
    let amount = amount_small v g k limits (omega (arith, c.q-k-end.ensures, c.loop-k-test.true)) in
    let read : r ≡ g k +ℤ relaxation_of v c.args.rates flow.rho (momentum_of flow) c.sum_of-total.result (g k) k =
    rw (held (g k) (omega (arith, amount)), held c.sum_of-total.result (omega (arith, total))) at c.relaxed.ensures.value in
    let value : r ≡ g k +ℤ relaxation_of v c.args.rates flow.rho (momentum_of flow) (density v g) (g k) k =
    read ∙ ap (λ t. g k +ℤ relaxation_of v c.args.rates flow.rho (momentum_of flow) t (g k) k) c.sum_of-total.ensures.value in
    record {
      done = λ i above below. elim (cases_lt i k) [
        | inl front ↦ (let ne : i ≢ k = omega arith in rw get_or-set_other (old.done i above front))
        | inr last ↦ (let one : i ≡ k = omega arith in rw (one, get_or-set_same, same) value)
      ];
      small = λ i above below. elim (cases_lt i k) [
        | inl front ↦ (let ne : i ≢ k = omega arith in rw get_or-set_other (old.small i above front))
        | inr last ↦ (let one : i ≡ k = omega arith in rw (one, get_or-set_same, same) c.relaxed.ensures.size)
      ];
      kept = length-set _ _ _ ∙ old.kept;
    }

pub with_rest-requires-clause-total : goal.with_rest-requires-clause-total
with_rest-requires-clause-total c =
    let v = stencil_of c.args.set in let g = populations c.args.amounts.now in
    let small : unsigned_abs c.sum_of-total.result ≤ 16777216 = rw c.sum_of-total.ensures.value (total_small v g (named_facts c.args.set) (InTracerLimits-from_test v g c.requires.limits)) in
    rw (held c.sum_of-total.result (omega (arith, small))) small

pub with_rest-requires-clause-moving : goal.with_rest-requires-clause-moving
with_rest-requires-clause-moving c = λ k above known. c.loop-k.invariant.small k above (omega (arith, c.q-k-end.ensures, c.loop-k-test.false))

pub returns-clause-value : goal.returns-clause-value
returns-clause-value c =
    let v = stencil_of c.args.set in let g = populations c.args.amounts.now in let flow = c.args.flow.now in
    let next : ℕ → ℤ = λ k. g k +ℤ relaxation_of v c.args.rates flow.rho (momentum_of flow) (density v g) (g k) k in
    let total : unsigned_abs c.sum_of-total.result ≤ 16777216 = rw c.sum_of-total.ensures.value (total_small v g (named_facts c.args.set) (InTracerLimits-from_test v g c.requires.limits)) in
    let same : to_z w64 (of_z w64 c.sum_of-total.result) ≡ density v g = held c.sum_of-total.result (omega (arith, total)) ∙ c.sum_of-total.ensures.value in
    λ k known. c.with_rest.ensures.value k known ∙ ap (λ t. with_rest v t (populations c.loop-k.moving) k) same
    ∙ with_rest-same v (density v g) (populations c.loop-k.moving) next (λ i above below. c.loop-k.invariant.done i above (omega (arith, c.q-k-end.ensures, c.loop-k-test.false))) k known
