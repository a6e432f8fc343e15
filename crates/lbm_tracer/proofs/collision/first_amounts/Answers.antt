use Rattle.std.proofs.Common.{◌≡◌, ◌≢◌, ◌<◌, ◌≤◌, ◌^◌, ◌*ℤ◌, pos, ℕ, unsigned_abs, ℤ, to_z, of_z, w64, length, sym, subst, ◌∙◌, inl, inr, arith, get_or-set_same, get_or-set_other, length-set}
use Rattle.std.proofs.lemmas.Bool.{cases_lt}
use Rattle.lbm_space.specs.Stencil.{Stencil, weight}
use Rattle.lbm_cell.specs.Collision.{floor_div}
use Rattle.lbm_cell.proofs.Sizes.{product_size}
use Rattle.lbm_cell.proofs.Limits.{floor_div_small}
use Rattle.lbm_tracer.specs.Sets.{stencil_of}
use Rattle.lbm_tracer.proofs.Sets.{IsTracerSet, named_facts}
use Rattle.lbm_tracer.proofs.Numbers.{held}
use Rattle.lbm_tracer.proofs.collision.first_amounts.Goals as goal

-- a share rounded down, and how large it is
share : (v : Stencil) (k amount : ℕ) (w t d z : ℤ) → IsTracerSet v → k < v.directions → amount ≤ 16777216 → w ≡ weight v k → t ≡ pos amount → d ≡ v.denominator
    → z ≡ floor_div (to_z w64 (of_z w64 (to_z w64 (of_z w64 w) *ℤ to_z w64 (of_z w64 t)))) (to_z w64 (of_z w64 d))
    → (z ≡ floor_div (weight v k *ℤ pos amount) v.denominator) × (unsigned_abs z ≤ 2 ^ 31)
share v k amount w t d z facts known few w_is t_is d_is is =
    let light = facts.light k known in
    let size = product_size (weight v k) (pos amount) 2 16777216 light few in
    let value : z ≡ floor_div (weight v k *ℤ pos amount) v.denominator = rw (w_is, t_is, d_is, held (weight v k) (omega (arith, light)), held (pos amount) (omega (arith, few)), held (weight v k *ℤ pos amount) (omega (arith, size)), held v.denominator (omega (arith, facts.denominator_most))) at is in
    let bound : unsigned_abs (floor_div (weight v k *ℤ pos amount) (pos (unsigned_abs v.denominator))) ≤ 2 ^ 31 =
    floor_div_small (weight v k *ℤ pos amount) (unsigned_abs v.denominator) (2 ^ 31) (omega (arith, facts.denominator_least)) (omega (arith, size, facts.denominator_least)) in
    (value, rw value (subst (λ n. unsigned_abs (floor_div (weight v k *ℤ pos amount) n) ≤ 2 ^ 31) (sym facts.denominator) bound))

pub loop-k-preserved : goal.loop-k-preserved
loop-k-preserved c =
    let v = stencil_of c.args.set in
    let k = c.loop-k.k in let old = c.loop-k.invariant in let facts = named_facts c.args.set in
    let within : k < length c.loop-k.moving = omega (arith, old.kept, facts.few, c.q-k-end.ensures, c.loop-k-test.true) in
    let r = c.div_euclid.result in
    let made = share v k c.args.amount c.weight.result c.from-total.result c.denominator.result r facts (omega (arith, c.q-k-end.ensures, c.loop-k-test.true)) c.requires c.weight.ensures c.from-total.ensures c.denominator.ensures c.div_euclid.ensures in
    let value = made.0 in let size = made.1 in
    let same : to_z w64 (of_z w64 r) ≡ r = held r (omega (arith, size)) in
    record {
      done = λ i above below. elim (cases_lt i k) [
        | inl front ↦ (let ne : i ≢ k = omega arith in rw get_or-set_other (old.done i above front))
        | inr last ↦ (let one : i ≡ k = omega arith in rw (one, get_or-set_same, same) value)
      ];
      small = λ i above below. elim (cases_lt i k) [
        | inl front ↦ (let ne : i ≢ k = omega arith in rw get_or-set_other (old.small i above front))
        | inr last ↦ (let one : i ≡ k = omega arith in rw (one, get_or-set_same, same) size)
      ];
      kept = length-set _ _ _ ∙ old.kept;
    }
