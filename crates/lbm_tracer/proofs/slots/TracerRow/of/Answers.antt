use Rattle.std.proofs.Common.{◌≢◌, ℕ, ◌<◌, length, sym, ap, subst, ◌∙◌, arith, get_or-set_same, get_or-set_other, length-set, below_more}
use Rattle.lbm_space.specs.Stencil.{Stencil}
use Rattle.lbm_tracer.specs.Tracing.{set_in}
use Rattle.lbm_tracer.specs.Rows.{IsAlong}
use Rattle.lbm_tracer.proofs.Sets.{set_facts}
use Rattle.lbm_tracer.proofs.slots.TracerRow.of.Goals as goal

pub loop-k-preserved : goal.loop-k-preserved
loop-k-preserved c =
    let k = c.loop-k.k in let old = c.loop-k.invariant in let t = c.args.space.now in let l = c.loop-k in let r = c.round-array.result in
    let known : k < (set_in t).directions = omega (arith, c.loop-k-test.true, c.q-k-end.ensures ∙ ap (λ (v : Stencil). v.directions) c.of-set.ensures) in
    let few = (set_facts t.dimension).few in
    let array_within : k < length l.arrays = omega (arith, old.arrays, known, few) in
    let first_within : k < length l.firsts = omega (arith, old.firsts, known, few) in
    let ahead_within : k < length l.aheads = omega (arith, old.aheads, known, few) in
    record {
      arrays = length-set _ _ _ ∙ old.arrays;
      firsts = length-set _ _ _ ∙ old.firsts;
      aheads = length-set _ _ _ ∙ old.aheads;
      along = below_more _ _
          (λ j below. let ne : j ≢ k = omega arith in
          subst (λ (w : ℕ × ℕ × ℕ). IsAlong t c.args.time c.args.number j w.0 w.1 w.2)
          (λ i. (sym (get_or-set_other l.arrays k j r.0 0 ne) i, sym (get_or-set_other l.firsts k j r.1 0 ne) i, sym (get_or-set_other l.aheads k j r.2 0 ne) i)) (old.along j below))
          (subst (λ (w : ℕ × ℕ × ℕ). IsAlong t c.args.time c.args.number k w.0 w.1 w.2)
          (λ i. (sym (get_or-set_same l.arrays k r.0 0 array_within) i, sym (get_or-set_same l.firsts k r.1 0 first_within) i, sym (get_or-set_same l.aheads k r.2 0 ahead_within) i)) c.round-array.ensures);
    }
