use Rattle.std.proofs.Common.{◌≢◌, ℕ, ◌<◌, List, length, slice_index_or, sym, ap, subst, ◌∙◌, arith, get_or-set_same, get_or-set_other, length-set, below_more}
use Rattle.lbm_space.specs.Torus.{Torus}
use Rattle.lbm_model.specs.Layout.{IsRound}
use Rattle.lbm_sweep.proofs.cell_row.CellRow.of.Goals as goal

pub loop-i-preserved : goal.loop-i-preserved
loop-i-preserved g c =
    let i = c.loop-i.i in let old = c.loop-i.invariant in let case = c.args.case.now in
    let few = g.met.V.VelocitySet.laws.few_directions in
    let first_within : i < length c.loop-i.firsts = omega (arith, old.firsts, few, g.met.V.VelocitySet.constants.0, c.Q-i-end.ensures) in
    let ahead_within : i < length c.loop-i.aheads = omega (arith, old.aheads, few, g.met.V.VelocitySet.constants.0, c.Q-i-end.ensures) in
    record {
      firsts = length-set _ _ _ ∙ old.firsts;
      aheads = length-set _ _ _ ∙ old.aheads;
      places = below_more _ _
          (λ k below. let ne : k ≢ i = omega arith in
          subst (λ (w : ℕ × ℕ). IsRound case c.args.layout c.args.number k (w.0, w.1))
          (λ j. (sym (get_or-set_other c.loop-i.firsts i k c.row-first.result.0 0 ne) j, sym (get_or-set_other c.loop-i.aheads i k c.row-first.result.1 0 ne) j)) (old.places k below))
          (subst (λ (w : ℕ × ℕ). IsRound case c.args.layout c.args.number i (w.0, w.1))
          (λ j. (sym (get_or-set_same c.loop-i.firsts i c.row-first.result.0 0 first_within) j, sym (get_or-set_same c.loop-i.aheads i c.row-first.result.1 0 ahead_within) j)) c.row-first.ensures);
    }

pub returns-clause-row : goal.returns-clause-row
returns-clause-row g c = record {
  set = c.requires.set;
  valid = c.space.ensures.valid;
  base = c.requires.base;
  margin = c.requires.margin;
  known = c.requires.known;
  width = ap (λ (s : List ℕ). slice_index_or s 0 0) c.sides.ensures.value ∙ ap (λ (t : Torus). t.nx) c.space.ensures.value;
  places = λ i known. c.loop-i.invariant.places i (omega (arith, known, g.met.V.VelocitySet.constants.0, c.Q-i-end.ensures, c.loop-i-test.false));
}
