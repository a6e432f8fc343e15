use Rattle.std.proofs.Common.{◌≡◌, slice_index, sym, ap, ◌∙◌, arith}
use Rattle.lbm_patch.specs.Masks.{both, without, mask}
use Rattle.lbm_arrays.specs.Forked.{mark, marks_of}
use Rattle.lbm_arrays.proofs.Marks.{get-marks}
use Rattle.lbm_arrays.proofs.halves.split_off.Goals as goal

pub returns-clause-low : goal.returns-clause-low
returns-clause-low c =
    let t = c.args.plan.now.space in let bounds = c.args.cut.now in let a = c.args.patch in let pieces = c.requires.pieces in let p = c.split.ensures.first in
    let low : c.mark_of-first.result ≡ slice_index (marks_of t bounds) c.args.from = c.mark_of-first.ensures ∙ ap (mark t) c.slab.ensures.first ∙ sym (get-marks t bounds c.args.from (omega (arith, pieces.0))) in
    let high : c.mark_of-middle.result ≡ slice_index (marks_of t bounds) c.args.mid = c.mark_of-middle.ensures ∙ ap (mark t) c.slab-2.ensures.first ∙ sym (get-marks t bounds c.args.mid (omega (arith, pieces.1))) in
    (p.0, p.1, p.2, p.3 ∙ (λ i. both a.mine (mask (c.as_slice.ensures.value i) (low i) (high i) a.len)))

pub returns-clause-high : goal.returns-clause-high
returns-clause-high c =
    let t = c.args.plan.now.space in let bounds = c.args.cut.now in let a = c.args.patch in let pieces = c.requires.pieces in let p = c.split.ensures.second in
    let low : c.mark_of-first.result ≡ slice_index (marks_of t bounds) c.args.from = c.mark_of-first.ensures ∙ ap (mark t) c.slab.ensures.first ∙ sym (get-marks t bounds c.args.from (omega (arith, pieces.0))) in
    let high : c.mark_of-middle.result ≡ slice_index (marks_of t bounds) c.args.mid = c.mark_of-middle.ensures ∙ ap (mark t) c.slab-2.ensures.first ∙ sym (get-marks t bounds c.args.mid (omega (arith, pieces.1))) in
    (p.0, p.1, p.2, p.3 ∙ (λ i. without a.mine (mask (c.as_slice.ensures.value i) (low i) (high i) a.len)))
