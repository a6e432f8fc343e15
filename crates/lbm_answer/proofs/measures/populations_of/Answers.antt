use Rattle.std.proofs.Common.{◌≡◌, ◌≢◌, ◌+◌, ◌*◌, ◌<◌, pos, get_or, length, arith, rules, ◌∙◌, get_or-set_same, get_or-set_other, length-set, FitsSigned, below_more, inl, inr, to_z, of_z}
use Rattle.std.specs.Int.{w32, w64}
use Rattle.std.proofs.lemmas.Bool.{cases_eq}
use Rattle.std.proofs.lemmas.Int.{to_z-of_z}
use Rattle.lbm_answer.proofs.measures.populations_of.Goals as goal

pub loop-i-preserved : goal.loop-i-preserved
loop-i-preserved g c =
    let i = c.loop-i.i in
    let few = g.met.V.VelocitySet.laws.few_directions in
    let within : i < length c.loop-i.f.f = omega (arith, c.loop-i.invariant.kept, g.met.V.VelocitySet.constants.0) in
    let fits : FitsSigned w64 c.from.result = record { sfits = omega arith } in
    let fits_narrow : FitsSigned w32 (get_or c.args.pops.now (c.args.cell * c.Q.result + i) (pos 0)) = search rules in
    let value : to_z w64 (of_z w64 c.from.result) ≡ get_or c.args.pops.now (c.args.cell * c.Q.result + i) (pos 0) =
    to_z-of_z w64 _ fits ∙ c.from.ensures ∙ to_z-of_z w32 _ fits_narrow in
    record {
      done = below_more _ _ (λ k below. let ne : k ≢ i = omega arith in rw get_or-set_other (c.loop-i.invariant.done k below)) (rw get_or-set_same value);
      kept = length-set _ _ _ ∙ c.loop-i.invariant.kept;
      fits = λ k. elim (cases_eq k i) [
        | inl same ↦ rw (same, get_or-set_same, value) fits_narrow
        | inr other ↦ rw get_or-set_other (c.loop-i.invariant.fits k)
      ];
      zeros = λ k past. let ne : k ≢ i = omega arith in rw get_or-set_other (c.loop-i.invariant.zeros k (omega arith));
    }
