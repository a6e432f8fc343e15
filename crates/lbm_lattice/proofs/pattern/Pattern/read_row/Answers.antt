use Rattle.std.proofs.Common.{◌≡◌, ◌≢◌, ℕ, ◌+◌, ◌*◌, ◌<◌, ◌≤◌, List, length, slice_index_or, FitsSigned, w32, w64, ap, ◌∙◌, arith, below_more, get_or-set_same, get_or-set_other, length-set}
use Rattle.std.proofs.lemmas.Int.{to_z-of_z}
use Rattle.lbm_space.specs.Torus.{Torus, cells}
use Rattle.lbm_model.specs.Case.{FlowCase}
use Rattle.lbm_model.specs.State.{population}
use Rattle.lbm_model.proofs.RowPlaces.{in_row}
use Rattle.lbm_model.proofs.Sizes.{few_cells}
use Rattle.lbm_lattice.proofs.pattern.Pattern.read_row.Goals as goal

pub overflow_mul-row : goal.overflow_mul-row
overflow_mul-row g c =
    let now = g.Self.Lattice.standing c.args.self.now in
    let wide : slice_index_or c.sides.result 0 0 ≡ now.case.torus.nx = ap (λ (s : List ℕ). slice_index_or s 0 0) c.sides.ensures.value ∙ ap (λ (t : Torus). t.nx) (c.space.ensures.value ∙ ap (λ (w : FlowCase). w.torus) c.case.ensures.value) in
    let below : c.loop-x.x < now.case.torus.nx = omega (arith, wide, c.loop-x-test.true) in
    let here = in_row now.case c.case.ensures.valid c.args.row c.args.dir c.requires.row c.requires.direction c.loop-x.x below in
    let few = few_cells now.case.torus c.case.ensures.valid.space in
    rw wide (record { fits = omega (arith, here, few) })

pub overflow_add-row : goal.overflow_add-row
overflow_add-row g c =
    let now = g.Self.Lattice.standing c.args.self.now in
    let wide : slice_index_or c.sides.result 0 0 ≡ now.case.torus.nx = ap (λ (s : List ℕ). slice_index_or s 0 0) c.sides.ensures.value ∙ ap (λ (t : Torus). t.nx) (c.space.ensures.value ∙ ap (λ (w : FlowCase). w.torus) c.case.ensures.value) in
    let below : c.loop-x.x < now.case.torus.nx = omega (arith, wide, c.loop-x-test.true) in
    let here = in_row now.case c.case.ensures.valid c.args.row c.args.dir c.requires.row c.requires.direction c.loop-x.x below in
    let few = few_cells now.case.torus c.case.ensures.valid.space in
    rw wide (record { fits = omega (arith, here, few) })

pub get-requires-clause-cell : goal.get-requires-clause-cell
get-requires-clause-cell g c =
    let now = g.Self.Lattice.standing c.args.self.now in
    let wide : slice_index_or c.sides.result 0 0 ≡ now.case.torus.nx = ap (λ (s : List ℕ). slice_index_or s 0 0) c.sides.ensures.value ∙ ap (λ (t : Torus). t.nx) (c.space.ensures.value ∙ ap (λ (w : FlowCase). w.torus) c.case.ensures.value) in
    let below : c.loop-x.x < now.case.torus.nx = omega (arith, wide, c.loop-x-test.true) in
    rw wide (in_row now.case c.case.ensures.valid c.args.row c.args.dir c.requires.row c.requires.direction c.loop-x.x below)

pub loop-x-preserved : goal.loop-x-preserved
loop-x-preserved g c =
    let now = g.Self.Lattice.standing c.args.self.now in let x = c.loop-x.x in let old = c.loop-x.invariant in
    let wide : slice_index_or c.sides.result 0 0 ≡ now.case.torus.nx = ap (λ (s : List ℕ). slice_index_or s 0 0) c.sides.ensures.value ∙ ap (λ (t : Torus). t.nx) (c.space.ensures.value ∙ ap (λ (w : FlowCase). w.torus) c.case.ensures.value) in
    let within : x < length c.loop-x.pops = omega (arith, wide, old.room, c.loop-x-test.true) in
    let fits : FitsSigned w64 c.get.result = record { sfits = omega (arith, c.get.ensures.fits.sfits) } in
    let value = c.get.ensures.value ∙ ap (λ (n : ℕ). population now.state (c.args.row * n + x) c.args.dir) wide in
    record {
      room = length-set _ _ _ ∙ old.room;
      value = below_more _ _ (λ k below. let ne : k ≢ x = omega arith in rw get_or-set_other (old.value k below)) (rw (get_or-set_same, to_z-of_z w64 c.get.result fits) value);
      fits = below_more _ _ (λ k below. let ne : k ≢ x = omega arith in rw get_or-set_other (old.fits k below)) (rw (get_or-set_same, to_z-of_z w64 c.get.result fits) c.get.ensures.fits);
    }

pub returns : goal.returns
returns g c =
    let now = g.Self.Lattice.standing c.args.self.now in let old = c.loop-x.invariant in
    let wide : slice_index_or c.sides.result 0 0 ≡ now.case.torus.nx = ap (λ (s : List ℕ). slice_index_or s 0 0) c.sides.ensures.value ∙ ap (λ (t : Torus). t.nx) (c.space.ensures.value ∙ ap (λ (w : FlowCase). w.torus) c.case.ensures.value) in
    record {
      count = old.room;
      value = λ x below. old.value x (omega (arith, below, wide, c.loop-x-test.false));
      fits = λ x below. old.fits x (omega (arith, below, wide, c.loop-x-test.false));
    }
