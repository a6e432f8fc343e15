use Rattle.std.proofs.Common.{◌≡◌, ◌≢◌, ◌<◌, length, FitsSigned, w64, arith, rules, inl, inr, ◌∙◌, get_or-set_same, get_or-set_other, length-set}
use Rattle.std.proofs.lemmas.Int.{to_z-of_z}
use Rattle.std.proofs.lemmas.Bool.{cases_lt}
use Rattle.lbm_cell.proofs.collision.departures.Goals as goal

pub loop-i-preserved : goal.loop-i-preserved
loop-i-preserved g c =
    let i = c.loop-i.i in
    let invariant = c.loop-i.invariant in
    let few = g.met.V.VelocitySet.laws.few_directions in
    let within : i < length c.loop-i.all = omega (arith, invariant.kept, g.met.V.VelocitySet.constants.0) in
    let fits : FitsSigned w64 c.departure.result = search rules in
    record {
      done = λ k above below. elim (cases_lt k i) [
        | inl front ↦ (let ne : k ≢ i = omega arith in rw get_or-set_other (invariant.done k above front))
        | inr last ↦ (let same : k ≡ i = omega arith in rw (same, get_or-set_same, to_z-of_z w64 c.departure.result fits) c.departure.ensures)
      ];
      kept = length-set _ _ _ ∙ invariant.kept;
    }
