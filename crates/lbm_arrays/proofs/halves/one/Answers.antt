use Rattle.std.proofs.Common.{◌≡◌, ℕ, ◌+◌, slice_index, sym, ap, ◌∙◌, subst, arith}
use Rattle.lbm_patch.specs.Masks.{mask}
use Rattle.lbm_arrays.specs.Lent.{Lent, Place}
use Rattle.lbm_arrays.specs.Ranges.{ranges}
use Rattle.lbm_arrays.specs.Forked.{Rows, mark, marks_of}
use Rattle.lbm_arrays.proofs.Forked.{one_done}
use Rattle.lbm_arrays.proofs.Marks.{length-marks, get-marks}
use Rattle.lbm_arrays.proofs.halves.one.Goals as goal

pub invariant_of-loan : goal.invariant_of-loan
invariant_of-loan g c =
    let r = c.requires.asks in let p = c.args.piece in let t = c.args.shared.now.plan.now.space in let bounds = c.args.shared.now.cut.now in
    let long = length-marks t bounds in let within = r.within in
    let low : c.mark_of.result ≡ slice_index (marks_of t bounds) p = c.mark_of.ensures ∙ ap (mark t) c.slab-rows.ensures.first ∙ sym (get-marks t bounds p (omega arith)) in
    let high : c.mark_of-2.result ≡ slice_index (marks_of t bounds) (p + 1) = c.mark_of-2.ensures ∙ ap (mark t) c.slab-rows.ensures.end ∙ sym (get-marks t bounds (p + 1) (omega arith)) in
    let fs : c.as_slice.result.now ≡ c.args.shared.now.plan.now.firsts.items = c.as_slice.ensures.value in
    rw (fs, low, high) (r.mine, r.laid.rising p (p + 1) (omega arith) r.within, r.laid.apart (p + 1) r.within)

pub returns : goal.returns
returns g c =
    let r = c.requires.asks in let p = c.args.piece in let d = c.loan.inside in let t = c.args.shared.now.plan.now.space in let bounds = c.args.shared.now.cut.now in let fs = c.args.shared.now.plan.now.firsts.items in let ms = marks_of t bounds in
    let long = length-marks t bounds in let within = r.within in
    let low : c.mark_of.result ≡ slice_index ms p = c.mark_of.ensures ∙ ap (mark t) c.slab-rows.ensures.first ∙ sym (get-marks t bounds p (omega arith)) in
    let high : c.mark_of-2.result ≡ slice_index ms (p + 1) = c.mark_of-2.ensures ∙ ap (mark t) c.slab-rows.ensures.end ∙ sym (get-marks t bounds (p + 1) (omega arith)) in
    let at = ap (λ (w : Lent). w.place) c.loan.view_is ∙ c.run-answer.ensures.place in
    let firsts = ap (λ (q : Place). q.firsts) at ∙ c.as_slice.ensures.value in let lo = ap (λ (q : Place). q.lo) at in let hi = ap (λ (q : Place). q.hi) at in let count = ap (λ (q : Place). q.count) at in
    record {
      start = ap (λ (q : Place). q.start) at;
      count = count;
      mine = c.loan.invariant.0 ∙ (λ i. mask (firsts i) ((lo ∙ low) i) ((hi ∙ high) i) (count i)) ∙ sym r.mine;
      did = one_done _ _ fs ms p c.args.patch.items d.patch.items c.run-answer.result (
          let before : ranges c.as_slice.result.now c.mark_of.result c.mark_of-2.result c.args.patch.items ≡ ranges fs (slice_index ms p) (slice_index ms (p + 1)) c.args.patch.items = (λ i. ranges (c.as_slice.ensures.value i) (low i) (high i) c.args.patch.items) in
          let after = sym (ap (λ (w : Lent). w.ranges) c.loan.view_is) ∙ (λ i. ranges (firsts i) ((lo ∙ low) i) ((hi ∙ high) i) d.patch.items) in
          subst (λ (w : (ℕ × ℕ) × Rows × Rows). g.W.PieceWork.does c.args.shared.now.work.now p w.0 w.1 c.run-answer.result w.2) (λ i. ((c.slab-rows.ensures.first i, c.slab-rows.ensures.end i), before i, after i)) c.run-answer.ensures.does);
    }
