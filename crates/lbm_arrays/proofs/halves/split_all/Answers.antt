use Rattle.std.proofs.Common.{◌≡◌, slice_index, sym, ap, ◌∙◌}
use Rattle.lbm_space.specs.Cuttings.{slabs_of}
use Rattle.lbm_patch.specs.Masks.{both, without, mask}
use Rattle.lbm_arrays.specs.Forked.{mark, marks_of}
use Rattle.lbm_arrays.proofs.Marks.{first_mark, last_mark}
use Rattle.lbm_arrays.proofs.halves.split_all.Goals as goal

pub returns-clause-ends : goal.returns-clause-ends
returns-clause-ends c =
    let t = c.args.plan.now.space in let bounds = c.args.cut.now in let space = c.rows.ensures.valid in let cutting = c.slabs-slabs.ensures.cutting in
    (first_mark t space bounds cutting c.requires, last_mark t space bounds cutting c.requires)

pub returns-clause-low : goal.returns-clause-low
returns-clause-low c =
    let t = c.args.plan.now.space in let bounds = c.args.cut.now in let a = c.args.patch in let p = c.split.ensures.first in let space = c.rows.ensures.valid in let cutting = c.slabs-slabs.ensures.cutting in
    let low : 0 ≡ slice_index (marks_of t bounds) 0 = sym (first_mark t space bounds cutting c.requires) in
    let high : c.mark_of-all.result ≡ slice_index (marks_of t bounds) (slabs_of bounds) = c.mark_of-all.ensures ∙ ap (mark t) c.rows.ensures.count ∙ sym (last_mark t space bounds cutting c.requires) in
    (p.0, p.1, p.2, p.3 ∙ (λ i. both a.mine (mask (c.as_slice.ensures.value i) (low i) (high i) a.len)))

pub returns-clause-high : goal.returns-clause-high
returns-clause-high c =
    let t = c.args.plan.now.space in let bounds = c.args.cut.now in let a = c.args.patch in let p = c.split.ensures.second in let space = c.rows.ensures.valid in let cutting = c.slabs-slabs.ensures.cutting in
    let low : 0 ≡ slice_index (marks_of t bounds) 0 = sym (first_mark t space bounds cutting c.requires) in
    let high : c.mark_of-all.result ≡ slice_index (marks_of t bounds) (slabs_of bounds) = c.mark_of-all.ensures ∙ ap (mark t) c.rows.ensures.count ∙ sym (last_mark t space bounds cutting c.requires) in
    (p.0, p.1, p.2, p.3 ∙ (λ i. without a.mine (mask (c.as_slice.ensures.value i) (low i) (high i) a.len)))
