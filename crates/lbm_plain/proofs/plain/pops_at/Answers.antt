use Rattle.std.proofs.Common.{◌≡◌, ◌≢◌, ℕ, ◌+◌, ◌*◌, ◌<◌, ◌∙◌, List, ℤ, pos, length, slice_index_or, to_z, of_z, FitsSigned, w32, w64, sym, ap, arith, rules, get_or-set_same, get_or-set_other, length-set, below_more}
use Rattle.std.proofs.lemmas.Int.{to_z-of_z}
use Rattle.std.proofs.lemmas.Nat.{mul-add-lt}
use Rattle.lbm_space.specs.Stencil.{Stencil}
use Rattle.lbm_space.specs.Torus.{cells}
use Rattle.lbm_model.specs.State.{population}
use Rattle.lbm_plain.proofs.plain.pops_at.Goals as goal

pub loop-i-init : goal.loop-i-init
loop-i-init g c = record { done = λ i below. absurd (omega arith); kept = search rules }

pub bounds-pops-first : goal.bounds-pops-first
bounds-pops-first g c =
    let s = c.args.state.now in
    let width : c.Q.result ≡ s.directions = c.Q.ensures ∙ g.met.V.VelocitySet.constants.0 ∙ ap (λ (v : Stencil). v.directions) (sym c.requires.set) ∙ sym c.requires.state.directions in
    let known : c.loop-i.i < s.directions = omega (arith, width, c.Q.ensures, c.Q-i-end.ensures) in
    let inside = mul-add-lt c.args.cell s.directions c.loop-i.i (cells c.args.case.now.torus) c.requires.cell known in
    rw (c.pops.ensures.value, c.requires.state.numbers, width) (omega (arith, inside))

pub loop-i-preserved : goal.loop-i-preserved
loop-i-preserved g c =
    let s = c.args.state.now in let x = c.args.cell in let i = c.loop-i.i in let old = c.loop-i.invariant in
    let few = g.met.V.VelocitySet.laws.few_directions in
    let width : s.directions ≡ c.Q.result = c.requires.state.directions ∙ ap (λ (v : Stencil). v.directions) c.requires.set ∙ sym g.met.V.VelocitySet.constants.0 ∙ sym c.Q.ensures in
    let within : i < length c.loop-i.f.f = omega (arith, old.kept, g.met.V.VelocitySet.constants.0, c.Q-i-end.ensures) in
    let small : FitsSigned w32 (slice_index_or c.pops.result.now (x * c.Q.result + i) (pos 0)) = search rules in
    let fits : FitsSigned w64 c.from.result = search rules in
    let value : to_z w64 (of_z w64 c.from.result) ≡ population s x i =
    to_z-of_z w64 c.from.result fits ∙ c.from.ensures ∙ to_z-of_z w32 (slice_index_or c.pops.result.now (x * c.Q.result + i) (pos 0)) small
    ∙ ap (λ (zs : List ℤ). slice_index_or zs (x * c.Q.result + i) (pos 0)) c.pops.ensures.value ∙ ap (λ (w : ℕ). slice_index_or s.numbers (x * w + i) (pos 0)) (sym width) in
    record {
      done = below_more _ _ (λ k below. let ne : k ≢ i = omega arith in rw get_or-set_other (old.done k below)) (rw get_or-set_same value);
      kept = length-set _ _ _ ∙ old.kept;
    }

pub returns : goal.returns
returns g c = λ i known. c.loop-i.invariant.done i (omega (arith, g.met.V.VelocitySet.constants.0, c.Q-i-end.ensures, c.loop-i-test.false))
