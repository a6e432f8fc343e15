use Rattle.std.proofs.Common.{◌≡◌, ℕ, suc, ◌+◌, ℤ, pos, unsigned_abs, FitsSigned, w64, to_z, refl, sym, ap, ◌∙◌, arith, rules}
use Rattle.std.proofs.lemmas.Int.{to_z-of_z}
use Rattle.std.specs.Int.{int_max}
use Rattle.lbm_space.specs.Stencil.{Stencil, IsVelocitySet, velocity}
use Rattle.lbm_space.specs.Torus.{Torus, IsSpace}
use Rattle.lbm_space.specs.Padded.{offset, greatest_below, reach}
use Rattle.lbm_space.proofs.Offsets.{offset-rest, reach_is, reach_below, reach_taken, offset_most}
use Rattle.lbm_space.proofs.space.Space.reach.Goals as goal

pub offset-greatest-requires-clause-direction : goal.offset-greatest-requires-clause-direction
offset-greatest-requires-clause-direction g c = g.met.V.VelocitySet.laws.some_direction

pub loop-i-init : goal.loop-i-init
loop-i-init g c =
    let t = c.args.self.now in let v = g.V.VelocitySet.stencil in let valid = c.offset-greatest.ensures.valid in
    let rest = offset-rest t valid v g.met.V.VelocitySet.laws c.requires in
    let fits : FitsSigned w64 c.offset-greatest.result = search rules in
    to_z-of_z w64 c.offset-greatest.result fits ∙ c.offset-greatest.ensures.value ∙ rw rest refl

pub loop-i-preserved : goal.loop-i-preserved
loop-i-preserved g c =
    let f : ℕ → ℤ = λ j. offset c.args.self.now (velocity g.V.VelocitySet.stencil j) in
    let next : suc c.loop-i.i ≡ c.loop-i.i + 1 = omega arith in
    let fits : FitsSigned w64 c.offset.result = search rules in
    let fits' : FitsSigned w64 c.max-greatest.result = search rules in
    let is : c.max-greatest.result ≡ int_max (greatest_below c.loop-i.i f) (f c.loop-i.i) = c.max-greatest.ensures.value ∙ (λ t. int_max (c.loop-i.invariant t) ((to_z-of_z w64 c.offset.result fits ∙ c.offset.ensures.value) t)) in
    to_z-of_z w64 c.max-greatest.result fits' ∙ is ∙ ap (λ n. greatest_below n f) next

-- the greatest of all directions is the reach
all_is : (t : Torus) (space : IsSpace t) (v : Stencil) (laws : IsVelocitySet v) (same : v.dimension ≡ t.dimension) (n : ℕ) (z : ℤ) → n ≡ v.directions → z ≡ greatest_below n (λ j. offset t (velocity v j)) → z ≡ pos (reach t v)
all_is t space v laws same n z all found = found ∙ ap (λ m. greatest_below m (λ j. offset t (velocity v j))) all ∙ sym (reach_is t space v laws same)

pub returns-clause-value : goal.returns-clause-value
returns-clause-value g c =
    let v = g.V.VelocitySet.stencil in let laws = g.met.V.VelocitySet.laws in
    let count = c.Q-i-end.ensures in let constant = g.met.V.VelocitySet.constants.0 in let some = laws.some_direction in
    let past = c.loop-i-test.false in let before = c.loop-i.auto.i-end in
    ap unsigned_abs (all_is c.args.self.now c.offset-greatest.ensures.valid v laws c.requires c.loop-i.i (to_z w64 c.loop-i.greatest-bits) (omega (arith, before, some, constant)) c.loop-i.invariant)

pub overflow_cast-result : goal.overflow_cast-result
overflow_cast-result g c =
    let t = c.args.self.now in let v = g.V.VelocitySet.stencil in let laws = g.met.V.VelocitySet.laws in let valid = c.offset-greatest.ensures.valid in
    let count = c.Q-i-end.ensures in let constant = g.met.V.VelocitySet.constants.0 in let some = laws.some_direction in
    let past = c.loop-i-test.false in let before = c.loop-i.auto.i-end in let small = reach_below t valid v laws c.requires in
    rw (all_is t valid v laws c.requires c.loop-i.i (to_z w64 c.loop-i.greatest-bits) (omega (arith, before, some, constant)) c.loop-i.invariant) (tt, record { fits = omega (arith, small, valid.fits) })

pub returns-clause-greatest : goal.returns-clause-greatest
returns-clause-greatest g c = λ i known.
    let t = c.args.self.now in let v = g.V.VelocitySet.stencil in
    rw (returns-clause-value g c) (offset_most t c.offset-greatest.ensures.valid v g.met.V.VelocitySet.laws c.requires i known)

pub returns-clause-reached : goal.returns-clause-reached
returns-clause-reached g c =
    let t = c.args.self.now in let v = g.V.VelocitySet.stencil in
    rw (returns-clause-value g c) (reach_taken t c.offset-greatest.ensures.valid v g.met.V.VelocitySet.laws c.requires)

pub returns-clause-small : goal.returns-clause-small
returns-clause-small g c =
    let t = c.args.self.now in let v = g.V.VelocitySet.stencil in
    rw (returns-clause-value g c) (reach_below t c.offset-greatest.ensures.valid v g.met.V.VelocitySet.laws c.requires)
