use Rattle.std.proofs.Common.{◌≡◌, ◌∙◌, ◌*◌, ◌/◌, ◌%◌, ◌<◌, ◌≤◌, ◌++◌, ◌∷◌, [], take, length, pos, slice_index_or, to_z, of_z, FitsSigned, w32, w64, ap, sym, arith}
use Rattle.std.proofs.lemmas.Int.{to_z-of_z}
use Rattle.std.proofs.lemmas.List.{take_more, take_all}
use Rattle.lbm_space.specs.Torus.{cells}
use Rattle.lbm_model.specs.State.{population}
use Rattle.lbm_model.proofs.Populations.{few-populations, population-at, kept}
use Rattle.lbm_model.proofs.lattice.Lattice.state.Goals as goal

pub overflow_mul-k-end : goal.overflow_mul-k-end
overflow_mul-k-end g c =
    let case = (g.Self.Lattice.standing c.args.self.now).case in
    let count : c.cells-cells.result ≡ cells case.torus = c.cells-cells.ensures.count ∙ ap cells (c.space.ensures.value ∙ ap (λ w. w.torus) c.case.ensures.value) in
    let width : c.directions-q.result ≡ case.stencil.directions =
    c.directions-q.ensures ∙ ap (λ v. v.directions) (sym c.set.ensures.stencil ∙ ap (λ w. w.stencil) c.case-2.ensures.value) in
    let few : c.cells-cells.result * c.directions-q.result ≤ 113246208 = rw (count, width) (few-populations case c.case.ensures.valid) in
    record { fits = omega arith }

pub loop-k-preserved : goal.loop-k-preserved
loop-k-preserved g c =
    let now = g.Self.Lattice.standing c.args.self.now in
    let k = c.loop-k.k in
    let state = c.case.ensures.sizes c.requires in
    let count : c.cells-cells.result ≡ cells now.case.torus = c.cells-cells.ensures.count ∙ ap cells (c.space.ensures.value ∙ ap (λ w. w.torus) c.case.ensures.value) in
    let width : c.directions-q.result ≡ now.case.stencil.directions =
    c.directions-q.ensures ∙ ap (λ v. v.directions) (sym c.set.ensures.stencil ∙ ap (λ w. w.stencil) c.case-2.ensures.value) in
    let below : k < length now.state.numbers = rw (state.numbers, state.directions) (rw (count, width) at c.loop-k-test.true) in
    let wide : FitsSigned w64 c.get.result = record { sfits = omega (arith, c.get.ensures.fits.sfits) } in
    let sent = to_z w32 (of_z w32 (to_z w64 (of_z w64 c.get.result))) in
    let value : sent ≡ slice_index_or now.state.numbers k (pos 0) =
    ap (λ z. to_z w32 (of_z w32 z)) (to_z-of_z w64 _ wide) ∙ to_z-of_z w32 _ c.get.ensures.fits ∙ c.get.ensures.value ∙ ap (λ q. population now.state (k / q) (k % q)) width ∙ population-at now.case now.state k state in
    let pushed : c.push.new.self.items ≡ c.loop-k.pops.items ++ sent ∷ [] = c.in_ok-push.ensures.items in
    pushed ∙ ap (λ xs. xs ++ sent ∷ []) c.loop-k.invariant
    ∙ ap (λ z. take k now.state.numbers ++ z ∷ []) value ∙ sym (take_more now.state.numbers k (pos 0) below)

pub new-requires : goal.new-requires
new-requires g c =
    let now = g.Self.Lattice.standing c.args.self.now in
    let state = c.case.ensures.sizes c.requires in
    let count : c.cells-cells.result ≡ cells now.case.torus = c.cells-cells.ensures.count ∙ ap cells (c.space.ensures.value ∙ ap (λ w. w.torus) c.case.ensures.value) in
    let width : c.directions-q.result ≡ now.case.stencil.directions =
    c.directions-q.ensures ∙ ap (λ v. v.directions) (sym c.set.ensures.stencil ∙ ap (λ w. w.stencil) c.case-2.ensures.value) in
    let all : length now.state.numbers ≤ c.loop-k.k = rw (state.numbers, state.directions) (rw (count, width) at c.loop-k-test.false) in
    let whole : c.loop-k.pops.items ≡ now.state.numbers = c.loop-k.invariant ∙ take_all c.loop-k.k now.state.numbers all in
    rw (width, whole) (kept now.case now.state c.case.ensures.valid state)
