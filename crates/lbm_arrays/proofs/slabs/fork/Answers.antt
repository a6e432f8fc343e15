use Rattle.std.proofs.Common.{◌≡◌, ℕ, ◌+◌, ◌<◌, false, ℤ, pos, List, length, slice_index, slice_index_or, None, sym, ◌∙◌, subst, arith}
use Rattle.lbm_space.specs.Torus.{rows}
use Rattle.lbm_space.specs.Cuttings.{slabs_of}
use Rattle.lbm_patch.specs.Masks.{in_any}
use Rattle.lbm_arrays.specs.Forked.{IsLaid, mark, marks_of}
use Rattle.lbm_arrays.specs.Ranges.{ranges}
use Rattle.lbm_arrays.specs.LentRanges.{lent, slab_rows}
use Rattle.lbm_arrays.proofs.LentOut.{laid_out, piece_is, outside, are_lent}
use Rattle.lbm_arrays.proofs.slabs.fork.Goals as goal

pub returns-clause-ranges : goal.returns-clause-ranges
returns-clause-ranges g c = are_lent c.args.lending.now.space c.firsts_of.ensures.valid c.args.lending.now.margin c.args.lending.now.shifts.items c.requires.inside c.args.cut.now c.slabs-slabs.ensures.cutting c.requires.cutting

pub fork_slice-requires-clause-laid : goal.fork_slice-requires-clause-laid
fork_slice-requires-clause-laid g c κs within =
    let t = c.args.lending.now.space in let bounds = c.args.cut.now in let n = length c.args.slots.now in
    let count = c.slabs-slabs.ensures.count in let few = c.slabs-slabs.ensures.few in
    subst (λ (fs : List ℕ). IsLaid fs (marks_of t bounds) n) (sym c.firsts_of.ensures.begins)
    (laid_out t c.firsts_of.ensures.valid c.args.lending.now.margin c.args.lending.now.shifts.items c.requires.inside bounds (length c.args.lending.now.shifts.items) n c.slabs-slabs.ensures.cutting c.requires.cutting (omega arith) (λ i. length c.args.lending.now.shifts.items) c.firsts_of.ensures.few c.requires.sized)

pub fork_slice-requires-clause-ready : goal.fork_slice-requires-clause-ready
fork_slice-requires-clause-ready g c κs within = λ k low known.
    let t = c.args.lending.now.space in let bounds = c.args.cut.now in let ms = marks_of t bounds in let xs = c.args.slots.now in
    let is : ranges c.firsts_of.result.items (slice_index ms k) (slice_index ms (k + 1)) xs ≡ lent t c.args.lending.now.margin c.args.lending.now.shifts.items (slab_rows bounds k) xs =
    (λ i. ranges (c.firsts_of.ensures.begins i) (slice_index ms k) (slice_index ms (k + 1)) xs) ∙ piece_is t c.firsts_of.ensures.valid c.args.lending.now.margin c.args.lending.now.shifts.items c.requires.inside bounds c.slabs-slabs.ensures.cutting c.requires.cutting k xs known in
    subst (g.W.PieceWork.ready c.args.work.now k (slab_rows bounds k)) (sym is) (c.requires.ready k known)

pub returns-clause-did : goal.returns-clause-did
returns-clause-did g c =
    let t = c.args.lending.now.space in let bounds = c.args.cut.now in let ms = marks_of t bounds in let d = c.fork_slice.ensures.did in
    let is : (k : ℕ) (xs : List ℤ) → k < slabs_of bounds → ranges c.firsts_of.result.items (slice_index ms k) (slice_index ms (k + 1)) xs ≡ lent t c.args.lending.now.margin c.args.lending.now.shifts.items (slab_rows bounds k) xs =
    λ k xs known. (λ i. ranges (c.firsts_of.ensures.begins i) (slice_index ms k) (slice_index ms (k + 1)) xs) ∙ piece_is t c.firsts_of.ensures.valid c.args.lending.now.margin c.args.lending.now.shifts.items c.requires.inside bounds c.slabs-slabs.ensures.cutting c.requires.cutting k xs known in
    record {
      answers = d.answers;
      count = let all = d.count in omega arith;
      done = λ k known.
          let from : 0 + k ≡ k = omega arith in
          let here = subst (λ (m : ℕ). g.W.PieceWork.does c.args.work.now m (slab_rows bounds m) (ranges c.firsts_of.result.items (slice_index ms m) (slice_index ms (m + 1)) c.args.slots.now) (slice_index_or d.answers k None) (ranges c.firsts_of.result.items (slice_index ms m) (slice_index ms (m + 1)) c.fork_slice.new.slots)) from (d.done k (omega arith)) in
          subst (λ (w : List (List ℤ) × List (List ℤ)). g.W.PieceWork.does c.args.work.now k (slab_rows bounds k) w.0 (slice_index_or d.answers k None) w.1) (λ i. (is k c.args.slots.now known i, is k c.fork_slice.new.slots known i)) here;
      is_least = d.is_least;
    }

pub returns-clause-others : goal.returns-clause-others
returns-clause-others g c = λ s none.
    c.fork_slice.ensures.others s (pos 0) (subst (λ (fs : List ℕ). in_any fs 0 (mark c.args.lending.now.space (rows c.args.lending.now.space)) s ≡ false) (sym c.firsts_of.ensures.begins)
    (outside c.args.lending.now.space c.firsts_of.ensures.valid c.args.lending.now.margin c.args.lending.now.shifts.items c.requires.inside s none))
