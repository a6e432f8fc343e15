use Rattle.std.proofs.Common.{◌≡◌, ℕ, pos, true, refl, subst, arith}
use Rattle.std.specs.Prelude.{int_le}
use Rattle.lbm_space.specs.Sum.{all_below}
use Rattle.lbm_cell.specs.Moments.{populations}
use Rattle.lbm_tracer.specs.Sets.{stencil_of}
use Rattle.lbm_tracer.proofs.Numbers.{held}
use Rattle.lbm_tracer.proofs.collision.in_limits.Goals as goal

pub returns : goal.returns
returns c =
    let v = stencil_of c.args.set in let g = populations c.args.amounts.now in
    let all : c.loop-k.k ≡ v.directions = omega (arith, c.q-k-end.ensures, c.loop-k-test.false, c.loop-k.auto.k-end) in
    let none_negative : all_below v.directions (λ k. int_le (pos 0) (g k)) ≡ true = subst (λ (n : ℕ). all_below n (λ k. int_le (pos 0) (g k)) ≡ true) all c.loop-k.invariant in
    rw (held c.sum_of.result (omega (arith, c.sum_of.ensures.size)), c.sum_of.ensures.value, none_negative) refl
