use Rattle.std.proofs.Common.{◌≡◌, ℕ, ◌+◌, ◌*◌, ◌<◌, [], ap, sym, subst, ◌∙◌, arith}
use Rattle.std.specs.Prelude.{slice_index_or}
use Rattle.std.proofs.lemmas.List.{get_or_read}
use Rattle.std.proofs.lemmas.Nat.{mul-add-lt}
use Rattle.lbm_space.specs.Torus.{Torus, rows}
use Rattle.lbm_rows.specs.Tiles.{KeptLattice, standing_in, StandInRow}
use Rattle.lbm_rows.proofs.KeptStates.{row_stands}
use Rattle.lbm_rows.proofs.tiles.Tiles.row.Given as given
use Rattle.lbm_rows.proofs.tiles.Tiles.row.Goals as goal

pub row_number-number-requires-clause-array : goal.row_number-number-requires-clause-array
row_number-number-requires-clause-array g c =
    let known = subst (λ (m : KeptLattice). c.args.dir < m.case.stencil.directions) (sym c.self.view_is) c.requires.direction in
    omega (arith, known, c.self.invariant.0.valid.set.few_directions)

pub row_number-number-requires-clause-row : goal.row_number-number-requires-clause-row
row_number-number-requires-clause-row g c =
    subst (λ (u : Torus). c.args.row < rows u) (sym c.space.ensures.value) (subst (λ (m : KeptLattice). c.args.row < rows m.case.torus) (sym c.self.view_is) c.requires.row)

pub index-requires : goal.index-requires
index-requires g c =
    let p = c.self.inside in let dir = c.args.dir in let row = c.args.row in
    let known = subst (λ (m : KeptLattice). dir < m.case.stencil.directions) (sym c.self.view_is) c.requires.direction in
    let here = subst (λ (m : KeptLattice). row < rows m.case.torus) (sym c.self.view_is) c.requires.row in
    let e = mul-add-lt dir (rows p.case.torus) row p.case.stencil.directions known here in
    let is : c.row_number-number.result ≡ dir * rows p.case.torus + row = c.row_number-number.ensures ∙ ap (λ (u : Torus). dir * rows u + row) c.space.ensures.value in
    omega (arith, e, is, c.self.invariant.0.rows.count)

value_is : (g : given.Over) (c : goal.After-slots g) → c.slots.result.now ≡ slice_index_or c.args.self.now.kept (c.args.dir * rows c.args.self.now.case.torus + c.args.row) []
value_is g c =
    let p = c.self.inside in let dir = c.args.dir in let row = c.args.row in
    let known = subst (λ (m : KeptLattice). dir < m.case.stencil.directions) (sym c.self.view_is) c.requires.direction in
    let here = subst (λ (m : KeptLattice). row < rows m.case.torus) (sym c.self.view_is) c.requires.row in
    let e = mul-add-lt dir (rows p.case.torus) row p.case.stencil.directions known here in
    let is : c.row_number-number.result ≡ dir * rows p.case.torus + row = c.row_number-number.ensures ∙ ap (λ (u : Torus). dir * rows u + row) c.space.ensures.value in
    c.slots.ensures ∙ get_or_read p.kept.items c.row_number-number.result c.index.result.now (omega (arith, e, is, c.self.invariant.0.rows.count)) c.index.ensures []
    ∙ ap (λ (n : ℕ). slice_index_or p.kept.items n []) is
    ∙ ap (λ (m : KeptLattice). slice_index_or m.kept (dir * rows m.case.torus + row) []) c.self.view_is

pub returns-clause-value : goal.returns-clause-value
returns-clause-value g c = value_is g c

pub returns-clause-layout : goal.returns-clause-layout
returns-clause-layout g c =
    let l = c.args.self.now in subst (StandInRow l.case l.time (standing_in l).state c.args.dir c.args.row) (sym (value_is g c)) (row_stands l.case l.time l.kept c.args.dir c.args.row)
