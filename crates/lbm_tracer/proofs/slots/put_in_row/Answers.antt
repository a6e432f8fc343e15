use Rattle.std.proofs.Common.{◌<◌, FitsSigned, to_z, of_z, w64, ap, ◌∙◌, inl, inr, arith, rules}
use Rattle.std.proofs.lemmas.Bool.{cases_eq}
use Rattle.std.proofs.lemmas.Int.{to_z-of_z}
use Rattle.lbm_space.specs.Stencil.{Stencil}
use Rattle.lbm_cell.specs.Moments.{populations}
use Rattle.lbm_arrays.proofs.Padding.{same_again}
use Rattle.lbm_sweep.proofs.Lattices.{region_again}
use Rattle.lbm_tracer.specs.Sets.{stencil_of}
use Rattle.lbm_tracer.specs.Tracing.{set_in}
use Rattle.lbm_tracer.specs.Rows.{cell_at}
use Rattle.lbm_tracer.proofs.Rows.{cell_known}
use Rattle.lbm_tracer.proofs.Putting.{laid_again, put}
use Rattle.lbm_tracer.proofs.slots.put_in_row.Goals as goal

pub loop-k-preserved : goal.loop-k-preserved
loop-k-preserved g c =
    let row = c.args.row.now in let t = row.space in let r = c.args.region.now in let l = c.loop-k.region in let x = cell_at row c.args.x in
    let k = c.loop-k.k in let old = c.loop-k.invariant in
    let here = cell_known row c.requires.row c.args.x c.requires.x in
    let count = c.q-k-end.ensures ∙ ap (λ (v : Stencil). v.directions) (ap stencil_of c.requires.set ∙ c.requires.row.set) in
    let known : k < (set_in t).directions = omega (arith, c.loop-k-test.true, count) in
    let laid = laid_again t r l old.same c.requires.laid in
    let region = region_again r l old.same old.size c.slots.ensures.valid in
    let a = populations c.args.amounts.now k in
    let fits : FitsSigned w64 a = search rules in
    let made = put t c.requires.row.space l laid region row.time x k c.slot-array.result.0 c.slot-array.result.1 (to_z w64 (of_z w64 a)) c.put.new.self here known
    c.slot-array.ensures.array c.slot-array.ensures.place c.put.ensures in
    record {
      same = same_again r l c.put.new.self old.same made.same;
      size = made.size ∙ old.size;
      here = λ j below. elim (cases_eq j k) [
        | inl one ↦ rw one (made.here ∙ to_z-of_z w64 a fits)
        | inr ne ↦ made.others x j here (omega (arith, known, below)) (λ both. ne both.1) ∙ old.here j (omega arith)
      ];
      others = λ y j there known_j other. made.others y j there known_j (λ both. other both.0) ∙ old.others y j there known_j other;
    }
