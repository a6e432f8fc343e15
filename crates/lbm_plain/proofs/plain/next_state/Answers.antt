use Rattle.std.proofs.Common.{◌≡◌, ◌∙◌, ◌*◌, ◌/◌, ◌%◌, ◌<◌, ◌≤◌, ◌++◌, ◌∷◌, [], take, length, pos, slice_index_or, to_z, of_z, FitsSigned, w32, w64, ap, sym, arith, rules}
use Rattle.std.proofs.lemmas.Int.{to_z-of_z}
use Rattle.std.proofs.lemmas.List.{take_more, take_all}
use Rattle.lbm_space.specs.Stencil.{Stencil}
use Rattle.lbm_space.specs.Torus.{cells}
use Rattle.lbm_model.specs.State.{flow_state, population}
use Rattle.lbm_model.specs.Flow.{next}
use Rattle.lbm_model.proofs.Mass.{IsStateOf-next}
use Rattle.lbm_model.proofs.Populations.{few-populations, cell-below, population-at, kept}
use Rattle.lbm_plain.proofs.plain.next_state.Goals as goal

pub overflow_mul-k-end : goal.overflow_mul-k-end
overflow_mul-k-end g c =
    let count : c.cells.result ≡ cells c.args.case.now.torus = c.cells.ensures.count ∙ ap cells c.space.ensures.value in
    let width : c.Q-q.result ≡ c.args.case.now.stencil.directions = c.Q-q.ensures ∙ g.met.V.VelocitySet.constants.0 ∙ ap (λ (v : Stencil). v.directions) (sym c.requires.set) in
    let few : c.cells.result * c.Q-q.result ≤ 113246208 = rw (count, width) (few-populations c.args.case.now c.space.ensures.valid) in record { fits = omega arith }

pub pulled-requires-clause-cell : goal.pulled-requires-clause-cell
pulled-requires-clause-cell g c =
    let count : c.cells.result ≡ cells c.args.case.now.torus = c.cells.ensures.count ∙ ap cells c.space.ensures.value in
    let width : c.Q-q.result ≡ c.args.case.now.stencil.directions = c.Q-q.ensures ∙ g.met.V.VelocitySet.constants.0 ∙ ap (λ (v : Stencil). v.directions) (sym c.requires.set) in
    let case = c.args.case.now in
    let below : c.loop-k.k < cells case.torus * case.stencil.directions = rw (← count, ← width) c.loop-k-test.true in
    rw width (cell-below case c.loop-k.k c.space.ensures.valid below)

pub loop-k-preserved : goal.loop-k-preserved
loop-k-preserved g c =
    let count : c.cells.result ≡ cells c.args.case.now.torus = c.cells.ensures.count ∙ ap cells c.space.ensures.value in
    let width : c.Q-q.result ≡ c.args.case.now.stencil.directions = c.Q-q.ensures ∙ g.met.V.VelocitySet.constants.0 ∙ ap (λ (v : Stencil). v.directions) (sym c.requires.set) in
    let case = c.args.case.now in let later = next case c.args.state.now in let k = c.loop-k.k in let state = IsStateOf-next case c.args.state.now in
    let below : k < length later.numbers = rw (state.numbers, state.directions) (rw (count, width) at c.loop-k-test.true) in
    let wide : FitsSigned w64 c.pulled.result = record { sfits = omega (arith, c.pulled.ensures.fits.sfits) } in
    let sent = to_z w32 (of_z w32 (to_z w64 (of_z w64 c.pulled.result))) in
    let value : sent ≡ slice_index_or later.numbers k (pos 0) =
    ap (λ z. to_z w32 (of_z w32 z)) (to_z-of_z w64 c.pulled.result wide) ∙ to_z-of_z w32 c.pulled.result c.pulled.ensures.fits ∙ c.pulled.ensures.value
    ∙ ap (λ q. population later (k / q) (k % q)) width ∙ population-at case later k state in
    let pushed : c.push.new.self.items ≡ c.loop-k.pops.items ++ sent ∷ [] = c.in_ok-push.ensures.items in
    pushed ∙ ap (λ xs. xs ++ sent ∷ []) c.loop-k.invariant ∙ ap (λ z. take k later.numbers ++ z ∷ []) value ∙ sym (take_more later.numbers k (pos 0) below)

pub new-requires : goal.new-requires
new-requires g c =
    let count : c.cells.result ≡ cells c.args.case.now.torus = c.cells.ensures.count ∙ ap cells c.space.ensures.value in
    let width : c.Q-q.result ≡ c.args.case.now.stencil.directions = c.Q-q.ensures ∙ g.met.V.VelocitySet.constants.0 ∙ ap (λ (v : Stencil). v.directions) (sym c.requires.set) in
    let later = next c.args.case.now c.args.state.now in let state = IsStateOf-next c.args.case.now c.args.state.now in
    let all : length later.numbers ≤ c.loop-k.k = rw (state.numbers, state.directions) (rw (count, width) at c.loop-k-test.false) in
    rw (width, c.loop-k.invariant ∙ take_all c.loop-k.k later.numbers all) (kept c.args.case.now later c.space.ensures.valid state)

pub returns : goal.returns
returns g c =
    let count : c.cells.result ≡ cells c.args.case.now.torus = c.cells.ensures.count ∙ ap cells c.space.ensures.value in
    let width : c.Q-q.result ≡ c.args.case.now.stencil.directions = c.Q-q.ensures ∙ g.met.V.VelocitySet.constants.0 ∙ ap (λ (v : Stencil). v.directions) (sym c.requires.set) in
    let later = next c.args.case.now c.args.state.now in let state = IsStateOf-next c.args.case.now c.args.state.now in
    let all : length later.numbers ≤ c.loop-k.k = rw (state.numbers, state.directions) (rw (count, width) at c.loop-k-test.false) in
    let whole = c.loop-k.invariant ∙ take_all c.loop-k.k later.numbers all in
    c.new.ensures ∙ (λ j. flow_state (width j) (whole j))
