use Rattle.std.proofs.Common.{◌≡◌, ◌≢◌, ℕ, ◌+◌, ◌-◌, ℤ, pos, w64, to_z, of_z, inl, inr, sym, ap, ◌∙◌, rules, arith}
use Rattle.std.specs.Prelude.{slice_index_or, slice_set}
use Rattle.std.proofs.lemmas.Bool.{cases_eq}
use Rattle.std.proofs.lemmas.List.{get_or-set_same, get_or-set_other, length-set}
use Rattle.lbm_arrays.specs.Arrays.{held}
use Rattle.lbm_grid.specs.Near.{seen}
use Rattle.lbm_grid.proofs.Seen.{seen_in}
use Rattle.lbm_grid.proofs.Runs.{read_one}
use Rattle.lbm_grid.proofs.reading.lanes_saved.Goals as goal

pub returns-then-at-n-clause-cells : goal.returns-then-at-n-clause-cells
returns-then-at-n-clause-cells g c k j is lane =
    let a = c.args in let low = c.if-reading-at.true in let high = c.if-at-n.true in
    let here : j ≡ 0 + j = omega arith in
    let there : a.reading.at + (a.at - a.reading.first) + j ≡ a.reading.at + (a.at + j - a.reading.first) = omega (arith, low) in
    ap (held c.copy_run.new.to) here ∙ c.copy_run.ensures.copied j lane ∙ ap (held a.saved.now) there
    ∙ sym (seen_in g.W.Way.RISES a.saved.now a.loan.now.ranges k a.reading (a.at + j) (omega (arith, low)) (omega (arith, high, lane)))

pub lane_near-requires : goal.lane_near-requires
lane_near-requires g c =
    let a = c.args in let there = c.requires.there in
    record { there = (there.0, read_one g.W.Way.RISES _ a.loan.now a.slot there.0 a.reading a.at a.n c.loop-j.j there.1 c.loop-j-test.true) }

pub loop-j-preserved : goal.loop-j-preserved
loop-j-preserved g c =
    let a = c.args in let j = c.loop-j.j in let lanes = c.loop-j.lanes in let inv = c.loop-j.invariant in let more = c.loop-j-test.true in let few = c.requires.few in let long = inv.long in
    let x : ℤ = to_z w64 (of_z w64 c.lane_near.result) in
    let whole : x ≡ c.lane_near.result = search rules in
    record {
      long = length-set lanes j x ∙ long;
      read = λ k i is below. elim (cases_eq i j) [
        | inl same ↦ (
            ap (λ (m : ℕ). slice_index_or (slice_set lanes j x) m (pos 0)) same ∙ get_or-set_same lanes j x (pos 0) (omega (arith, more, few, long)) ∙ whole
            ∙ c.lane_near.ensures k (read_one g.W.Way.RISES _ a.loan.now a.slot k a.reading a.at a.n j is more)
            ∙ ap (λ (m : ℕ). seen g.W.Way.RISES a.saved.now a.loan.now.ranges k a.reading (a.at + m)) (sym same))
        | inr other ↦ get_or-set_other lanes j i x (pos 0) other ∙ inv.read k i is (omega (arith, other, below))
      ];
      past = λ i above. let other : i ≢ j = λ same. omega (arith, same, above) in get_or-set_other lanes j i x (pos 0) other ∙ inv.past i (omega (arith, above));
    }
