use Rattle.std.proofs.Common.{◌≡◌, ◌≢◌, ◌+◌, ◌<◌, ℤ, ◌+ℤ◌, FitsSigned, length, rules, ap, arith, ◌∙◌, inl, inr, get_or-set_same, get_or-set_other, length-set}
use Rattle.std.specs.Int.{w64}
use Rattle.std.proofs.lemmas.Int.{to_z-of_z}
use Rattle.std.proofs.lemmas.Bool.{cases_lt}
use Rattle.lbm_lanes.specs.Lanes.{entry}
use Rattle.lbm_model.specs.Case.{gain}
use Rattle.lbm_rule.proofs.gains.gained.Goals as goal

pub loop-j-preserved : goal.loop-j-preserved
loop-j-preserved g c =
    let j = c.loop-j.j in
    let within : j < length c.loop-j.lanes = omega (arith, c.loop-j.invariant.eight) in
    let fits : FitsSigned w64 c.with_gain.result = search rules in
    let held : FitsSigned w64 (entry c.loop-j.lanes j) = search rules in
    record {
      done = λ k below. elim (cases_lt k j) [
        | inl front ↦ (let ne : k ≢ j = omega arith in rw get_or-set_other (c.loop-j.invariant.done k front))
        | inr last ↦ (let same : k ≡ j = omega arith in rw (same, get_or-set_same, to_z-of_z w64 c.with_gain.result fits) (c.with_gain.ensures ∙ ap (λ (z : ℤ). z +ℤ gain c.args.case.now (c.args.cell + j) c.args.dir) (to_z-of_z w64 (entry c.loop-j.lanes j) held ∙ c.loop-j.invariant.left j (omega arith))))
      ];
      left = λ k past. let ne : k ≢ j = omega arith in rw get_or-set_other (c.loop-j.invariant.left k (omega arith));
      eight = length-set _ _ _ ∙ c.loop-j.invariant.eight;
    }

pub returns : goal.returns
returns g c j known = c.loop-j.invariant.done j (omega (arith, known, c.loop-j.auto.j-end, c.loop-j-test.false))
