use Rattle.std.proofs.Common.{◌≡◌, ◌≢◌, ◌<◌, ◌≤◌, ◌^◌, false, length, unsigned_abs, arith, rules, refl, sym, ◌∙◌, inl, inr, get_or-set_same, get_or-set_other, length-set}
use Rattle.std.proofs.lemmas.Bool.{cases_lt}
use Rattle.lbm_space.specs.Stencil.{opposite}
use Rattle.lbm_cell.specs.Moments.{populations}
use Rattle.lbm_cell.specs.Collision.{reflection}
use Rattle.lbm_model.specs.Case.{is_moving}
use Rattle.lbm_model.proofs.Gains.{gain_fits, gain_is}
use Rattle.lbm_model.proofs.SmallStates.{is_post-solid, is_post-resting}
use Rattle.lbm_model.proofs.cell.reflected.Goals as goal

pub returns-then-not-is_moving-clause-post : goal.returns-then-not-is_moving-clause-post
returns-then-not-is_moving-clause-post g c =
    let still : is_moving c.args.case.now c.args.cell ≡ false = sym c.is_moving.ensures.value ∙ c.if-not-is_moving.true in
    λ i known. is_post-resting c.args.case.now c.args.cell (populations c.args.f.now.f) i g.V.VelocitySet.stencil (populations c.bounce-sent.result.f i) c.requires.set c.requires.solid still (c.bounce-sent.ensures.post i known)

pub loop-i-init : goal.loop-i-init
loop-i-init g c = record {
  done = λ k below. absurd (omega arith);
  left = λ k past known. c.bounce-sent.ensures.post k known;
  zeros = c.bounce-sent.ensures.zeros;
  kept = search rules;
}

pub overflow_add-sent : goal.overflow_add-sent
overflow_add-sent g c =
    let v = g.V.VelocitySet.stencil in
    let f = populations c.args.f.now.f in
    let known : c.loop-i.i < v.directions = omega (arith, g.met.V.VelocitySet.constants.0) in
    let turned : populations c.loop-i.sent.f c.loop-i.i ≡ reflection v f c.loop-i.i = c.loop-i.invariant.left c.loop-i.i (omega arith) known in
    gain_fits (populations c.loop-i.sent.f c.loop-i.i) c.gain.result (rw turned (c.requires.small (opposite v c.loop-i.i) (g.met.V.VelocitySet.laws.opposite_exists c.loop-i.i known))) c.gain.ensures.size

pub loop-i-preserved : goal.loop-i-preserved
loop-i-preserved g c =
    let v = g.V.VelocitySet.stencil in
    let f = populations c.args.f.now.f in
    let i = c.loop-i.i in
    let invariant = c.loop-i.invariant in
    let known : i < v.directions = omega (arith, g.met.V.VelocitySet.constants.0) in
    let few = g.met.V.VelocitySet.laws.few_directions in
    let within : i < length c.loop-i.sent.f = omega (arith, invariant.kept) in
    let turned : populations c.loop-i.sent.f i ≡ reflection v f i = invariant.left i (omega arith) known in
    let small : unsigned_abs (populations c.loop-i.sent.f i) ≤ 2 ^ 28 = rw turned (c.requires.small (opposite v i) (g.met.V.VelocitySet.laws.opposite_exists i known)) in
    let sum = gain_is (populations c.loop-i.sent.f i) c.gain.result small c.gain.ensures.size in
    record {
      done = λ k below. elim (cases_lt k i) [
        | inl front ↦ (let ne : k ≢ i = omega arith in rw get_or-set_other (invariant.done k front))
        | inr last ↦ (let same : k ≡ i = omega arith in rw (same, get_or-set_same, sum) (rw (turned, c.gain.ensures.value) refl))
      ];
      left = λ k past known_k. let ne : k ≢ i = omega arith in rw get_or-set_other (invariant.left k (omega arith) known_k);
      zeros = λ k past. let ne : k ≢ i = omega arith in rw get_or-set_other (invariant.zeros k past);
      kept = length-set _ _ _ ∙ invariant.kept;
    }

pub returns-clause-post : goal.returns-clause-post
returns-clause-post g c = λ i known.
    is_post-solid c.args.case.now c.args.cell (populations c.args.f.now.f) i g.V.VelocitySet.stencil (populations c.loop-i.sent.f i) c.requires.set c.requires.solid (c.loop-i.invariant.done i (omega (arith, g.met.V.VelocitySet.constants.0)))
