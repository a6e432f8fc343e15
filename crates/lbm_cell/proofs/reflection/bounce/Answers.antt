use Rattle.std.proofs.Common.{◌≡◌, ◌≢◌, ◌<◌, length, arith, rules, ap, ◌∙◌, get_or-set_same, get_or-set_other, length-set, FitsSigned, below_more}
use Rattle.std.specs.Int.{w64}
use Rattle.std.proofs.lemmas.Int.{to_z-of_z}
use Rattle.lbm_space.specs.Stencil.{opposite}
use Rattle.lbm_cell.specs.Moments.{populations}
use Rattle.lbm_cell.proofs.reflection.bounce.Goals as goal

pub loop-i-preserved : goal.loop-i-preserved
loop-i-preserved g c =
    let i = c.loop-i.i in
    let fits : FitsSigned w64 (populations c.args.f.now.f c.opp.result) = search rules in
    let few = g.met.V.VelocitySet.laws.few_directions in
    let within : i < length c.loop-i.post.f = omega (arith, c.loop-i.invariant.kept, g.met.V.VelocitySet.constants.0) in
    let value : populations c.args.f.now.f c.opp.result ≡ populations c.args.f.now.f (opposite g.V.VelocitySet.stencil i) = ap (populations c.args.f.now.f) c.opp.ensures in
    record {
      done = below_more _ _ (λ k below. let ne : k ≢ i = omega arith in rw get_or-set_other (c.loop-i.invariant.done k below)) (rw (get_or-set_same, to_z-of_z w64 _ fits) value);
      kept = length-set _ _ _ ∙ c.loop-i.invariant.kept;
      zeros = λ k past. let ne : k ≢ i = omega arith in rw get_or-set_other (c.loop-i.invariant.zeros k (omega arith));
    }
