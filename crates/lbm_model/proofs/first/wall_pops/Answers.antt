use Rattle.std.proofs.Common.{◌≢◌, ◌<◌, ◌∙◌, length, FitsSigned, arith, rules, inl, inr, get_or-set_same, get_or-set_other, length-set, below_more}
use Rattle.std.specs.Int.{w64}
use Rattle.std.proofs.lemmas.Int.{to_z-of_z}
use Rattle.std.proofs.lemmas.Bool.{cases_eq}
use Rattle.lbm_model.proofs.first.wall_pops.Goals as goal

pub loop-i-preserved : goal.loop-i-preserved
loop-i-preserved g c =
    let i = c.loop-i.i in
    let few = g.met.V.VelocitySet.laws.few_directions in
    let within : i < length c.loop-i.pops.f = omega (arith, c.loop-i.invariant.kept, g.met.V.VelocitySet.constants.0) in
    let fits : FitsSigned w64 c.wall_first.result = search rules in
    record {
      done = below_more _ _ (λ k below. let ne : k ≢ i = omega arith in rw get_or-set_other (c.loop-i.invariant.done k below)) (rw (get_or-set_same, to_z-of_z w64 c.wall_first.result fits) c.wall_first.ensures.first);
      small = λ k. elim (cases_eq k i) [
        | inl same ↦ rw (same, get_or-set_same, to_z-of_z w64 c.wall_first.result fits) c.wall_first.ensures.small
        | inr ne ↦ rw get_or-set_other (c.loop-i.invariant.small k)
      ];
      kept = length-set _ _ _ ∙ c.loop-i.invariant.kept;
    }

pub returns-clause-first : goal.returns-clause-first
returns-clause-first g c = λ i known. c.loop-i.invariant.done i (omega (arith, g.met.V.VelocitySet.constants.0))
