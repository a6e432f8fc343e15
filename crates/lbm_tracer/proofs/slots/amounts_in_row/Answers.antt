use Rattle.std.proofs.Common.{◌≢◌, ◌<◌, FitsSigned, w64, length, ap, ◌∙◌, pos, slice_index_or, arith, rules, get_or-set_same, get_or-set_other, length-set, below_more}
use Rattle.std.proofs.lemmas.Int.{to_z-of_z}
use Rattle.lbm_space.specs.Stencil.{Stencil}
use Rattle.lbm_tracer.specs.Sets.{stencil_of}
use Rattle.lbm_tracer.specs.Tracing.{set_in}
use Rattle.lbm_tracer.specs.Rows.{cell_at}
use Rattle.lbm_tracer.proofs.Sets.{set_facts}
use Rattle.lbm_tracer.proofs.Places.{slot_is}
use Rattle.lbm_tracer.proofs.slots.amounts_in_row.Goals as goal

pub loop-k-preserved : goal.loop-k-preserved
loop-k-preserved g c =
    let k = c.loop-k.k in let old = c.loop-k.invariant in let r = c.args.row.now in let t = r.space in
    let count = c.q-k-end.ensures ∙ ap (λ (v : Stencil). v.directions) (ap stencil_of c.requires.set ∙ c.requires.row.set) in
    let known : k < (set_in t).directions = omega (arith, c.loop-k-test.true, count) in
    let within : k < length c.loop-k.amounts = omega (arith, old.kept, known, (set_facts t.dimension).few) in
    let fits : FitsSigned w64 c.get.result = search rules in
    let slot = slot_is t c.requires.row.space c.args.region.now c.requires.laid c.slots.ensures.valid r.time (cell_at r c.args.x) k c.slot-array.result.0 c.slot-array.result.1 c.slot-array.ensures.array c.slot-array.ensures.place in
    let value = c.get.ensures ∙ ap (λ s. slice_index_or c.args.region.now.slots s (pos 0)) slot in
    record {
      done = below_more _ _ (λ j below. let ne : j ≢ k = omega arith in rw get_or-set_other (old.done j below)) (rw (get_or-set_same, to_z-of_z w64 c.get.result fits) value);
      kept = length-set _ _ _ ∙ old.kept;
    }
