use Rattle.std.proofs.Common.{◌≡◌, ℕ, ◌*◌, ◌≤◌, List, ℤ, sym, ap, subst, ◌∙◌, arith}
use Rattle.std.proofs.lemmas.List.{take_all}
use Rattle.std.proofs.Math.Nat.{mul-le-mul_right}
use Rattle.lbm_space.specs.Stencil.{Stencil}
use Rattle.lbm_space.specs.Torus.{cells, rows}
use Rattle.lbm_model.specs.State.{IsState, flow_state}
use Rattle.lbm_model.proofs.Populations.{kept}
use Rattle.lbm_model.proofs.States.{IsStateOf-state_by}
use Rattle.lbm_rows.specs.Kept.{population_kept, state_kept}
use Rattle.lbm_rows.proofs.reading.read_state.Given as given
use Rattle.lbm_rows.proofs.reading.read_state.Goals as goal

-- all populations were read
whole : (g : given.Over) (c : goal.After-Q-2 g) → c.loop-number.pops.items ≡ (state_kept c.args.case.now c.args.t c.args.kept.now).numbers
whole g c =
    let case = c.args.case.now in let n = c.loop-number.number in let q = g.V.VelocitySet.stencil.directions in let s = state_kept case c.args.t c.args.kept.now in
    let of_set : case.stencil.directions ≡ q = ap (λ (v : Stencil). v.directions) c.requires.set in
    let sizes = (IsStateOf-state_by case (population_kept case c.args.t c.args.kept.now)).numbers ∙ ap (λ (w : ℕ). cells case.torus * w) of_set in
    let all : rows case.torus ≤ n = omega (arith, c.loop-number-test.false, c.rows-number-end.ensures.count ∙ ap rows c.space-2.ensures.value) in
    let inside = mul-le-mul_right q (mul-le-mul_right case.torus.nx all) in
    c.loop-number.invariant ∙ take_all (n * case.torus.nx * q) s.numbers (omega (arith, sizes, inside))

width : (g : given.Over) (c : goal.After-Q-2 g) → c.Q-2.result ≡ c.args.case.now.stencil.directions
width g c = c.Q-2.ensures ∙ g.met.V.VelocitySet.constants.0 ∙ ap (λ (v : Stencil). v.directions) (sym c.requires.set)

pub new-requires : goal.new-requires
new-requires g c =
    let case = c.args.case.now in let s = state_kept case c.args.t c.args.kept.now in
    subst (λ (w : ℕ × List ℤ). IsState (flow_state w.0 w.1)) (λ j. (sym (width g c) j, sym (whole g c) j)) (kept case s c.space.ensures.valid (IsStateOf-state_by case (population_kept case c.args.t c.args.kept.now)))

pub returns : goal.returns
returns g c =
    let case = c.args.case.now in let s = state_kept case c.args.t c.args.kept.now in
    let width : c.Q-2.result ≡ case.stencil.directions = c.Q-2.ensures ∙ g.met.V.VelocitySet.constants.0 ∙ ap (λ (v : Stencil). v.directions) (sym c.requires.set) in
    let q = g.V.VelocitySet.stencil.directions in
    let of_set : case.stencil.directions ≡ q = ap (λ (v : Stencil). v.directions) c.requires.set in
    let sizes = (IsStateOf-state_by case (population_kept case c.args.t c.args.kept.now)).numbers ∙ ap (λ (w : ℕ). cells case.torus * w) of_set in
    let all : rows case.torus ≤ c.loop-number.number = omega (arith, c.loop-number-test.false, c.rows-number-end.ensures.count ∙ ap rows c.space-2.ensures.value) in
    let inside = mul-le-mul_right q (mul-le-mul_right case.torus.nx all) in
    let whole : c.loop-number.pops.items ≡ s.numbers = c.loop-number.invariant ∙ take_all (c.loop-number.number * case.torus.nx * q) s.numbers (omega (arith, sizes, inside)) in
    c.new.ensures ∙ (λ j. flow_state (width j) (whole j))
