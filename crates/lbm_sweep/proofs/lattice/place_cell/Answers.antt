use Rattle.std.proofs.Common.{◌≡◌, ◌+◌, ◌*◌, ◌<◌, ◌≤◌, ℤ, pos, List, FitsSigned, slice_index_or, to_z, of_z, w32, w64, refl, sym, ap, ◌∙◌, inl, inr, arith, rules}
use Rattle.std.proofs.lemmas.Bool.{cases_eq}
use Rattle.std.proofs.lemmas.Int.{to_z-of_z}
use Rattle.std.proofs.lemmas.Nat.{mul-add-lt, mul-le}
use Rattle.lbm_space.specs.Stencil.{Stencil}
use Rattle.lbm_space.specs.Torus.{cells}
use Rattle.lbm_model.specs.State.{population}
use Rattle.lbm_model.specs.Layout.{array_of}
use Rattle.lbm_model.proofs.Sizes.{few_cells}
use Rattle.lbm_arrays.proofs.Padding.{same_again}
use Rattle.lbm_sweep.proofs.Lattices.{laid_again, region_again}
use Rattle.lbm_sweep.specs.CellRows.{cell_at}
use Rattle.lbm_sweep.proofs.CellRows.{cell_known}
use Rattle.lbm_sweep.proofs.Placing.{put}
use Rattle.lbm_sweep.proofs.lattice.place_cell.Goals as goal

pub loop-i-init : goal.loop-i-init
loop-i-init g c = record { same = refl; size = refl; placed = λ i below. absurd (omega arith); others = λ x i here known other. refl }

pub bounds-pops-first : goal.bounds-pops-first
bounds-pops-first g c =
    let s = c.args.state.now in
    let width : c.Q.result ≡ s.directions = c.Q.ensures ∙ g.met.V.VelocitySet.constants.0 ∙ ap (λ (v : Stencil). v.directions) (sym c.requires.row.set) ∙ sym c.requires.state.directions in
    let known : c.loop-i.i < s.directions = omega (arith, width, c.Q.ensures, c.Q-i-end.ensures) in
    let inside = mul-add-lt c.cell.result s.directions c.loop-i.i (cells c.args.row.now.case.now.torus) c.cell.ensures.known known in
    rw (c.pops.ensures.value, c.requires.state.numbers, width) (omega (arith, inside))

pub overflow_mul-first : goal.overflow_mul-first
overflow_mul-first g c =
    let few = few_cells c.args.row.now.case.now.torus c.requires.row.valid.space in
    let all : c.cell.result * c.Q.result ≤ 4194304 * 27 =
    mul-le c.cell.result c.Q.result 4194304 27 (omega (arith, c.cell.ensures.known, few)) (omega (arith, c.Q.ensures, g.met.V.VelocitySet.constants.0, g.met.V.VelocitySet.laws.few_directions)) in
    record { fits = omega (arith, all) }

pub put-requires-clause-dir : goal.put-requires-clause-dir
put-requires-clause-dir g c =
    let laid = laid_again c.args.row.now.case.now c.args.row.now.layout c.args.region.now c.loop-i.region c.loop-i.invariant.same c.requires.laid in
    let count : c.loop-i.region.count ≡ g.V.VelocitySet.stencil.directions = laid.count ∙ ap (λ (v : Stencil). v.directions) c.requires.row.set in
    rw count c.slot-array.ensures.known

pub put-requires-clause-at : goal.put-requires-clause-at
put-requires-clause-at g c =
    let laid = laid_again c.args.row.now.case.now c.args.row.now.layout c.args.region.now c.loop-i.region c.loop-i.invariant.same c.requires.laid in
    rw (laid.margin, laid.space) c.slot-array.ensures.inside

pub loop-i-preserved : goal.loop-i-preserved
loop-i-preserved g c =
    let case = c.args.row.now.case.now in let layout = c.args.row.now.layout in let s = c.args.state.now in
    let r = c.args.region.now in let l = c.loop-i.region in let x = cell_at c.args.row.now c.args.x in let here = cell_known g.V.VelocitySet.stencil c.args.row.now c.requires.row c.args.x c.requires.x in let i = c.loop-i.i in let old = c.loop-i.invariant in
    let width : s.directions ≡ c.Q.result = c.requires.state.directions ∙ ap (λ (v : Stencil). v.directions) c.requires.row.set ∙ sym g.met.V.VelocitySet.constants.0 ∙ sym c.Q.ensures in
    let of_set : g.V.VelocitySet.stencil.directions ≡ case.stencil.directions = ap (λ (v : Stencil). v.directions) (sym c.requires.row.set) in
    let known : i < case.stencil.directions = omega (arith, of_set, g.met.V.VelocitySet.constants.0, c.Q-i-end.ensures) in
    let laid = laid_again case layout r l old.same c.requires.laid in
    let region = region_again r l old.same old.size c.slots.ensures.valid in
    let small : FitsSigned w32 (slice_index_or c.pops.result.now (c.cell.result * c.Q.result + i) (pos 0)) = search rules in
    let fits : FitsSigned w64 c.from.result = search rules in
    let value : to_z w64 (of_z w64 c.from.result) ≡ population s x i =
    to_z-of_z w64 c.from.result fits ∙ c.from.ensures ∙ to_z-of_z w32 (slice_index_or c.pops.result.now (c.cell.result * c.Q.result + i) (pos 0)) small
    ∙ ap (λ (zs : List ℤ). slice_index_or zs (c.cell.result * c.Q.result + i) (pos 0)) c.pops.ensures.value ∙ (λ j. slice_index_or s.numbers (c.cell.ensures.cell j * sym width j + i) (pos 0)) in
    let made = put case layout l c.requires.row.valid laid region x i c.slot-array.result.0 c.slot-array.result.1 (to_z w64 (of_z w64 c.from.result)) c.put.new.self here known
    (c.slot-array.ensures.array ∙ ap (λ (v : Stencil). array_of v layout i) (sym c.requires.row.set)) c.slot-array.ensures.place c.put.ensures in
    record {
      same = same_again r l c.put.new.self old.same made.same;
      size = made.size ∙ old.size;
      placed = λ j below. elim (cases_eq j i) [
        | inl one ↦ rw one (made.here ∙ value)
        | inr ne ↦ made.others x j here (omega (arith, known)) (λ both. ne both.1) ∙ old.placed j (omega arith)
      ];
      others = λ y j there known_j other. made.others y j there (omega (arith, of_set, known_j)) (λ both. other both.0) ∙ old.others y j there known_j other;
    }

pub returns-clause-placed : goal.returns-clause-placed
returns-clause-placed g c = λ i known. c.loop-i.invariant.placed i (omega (arith, g.met.V.VelocitySet.constants.0, c.Q-i-end.ensures, c.loop-i-test.false))

pub returns-clause-others : goal.returns-clause-others
returns-clause-others g c = c.loop-i.invariant.others

pub returns-clause-same : goal.returns-clause-same
returns-clause-same g c = c.loop-i.invariant.same
