use Rattle.std.proofs.Common.{List, ℤ, ◌≡◌, ◌+◌, ◌*◌, ◌<◌, ℕ, FitsSigned, pos, slice_index_or, w32, sym, ap, subst, ◌∙◌, arith, rules}
use Rattle.std.specs.Prelude.{None}
use Rattle.lbm_space.specs.Torus.{cells, rows}
use Rattle.lbm_walk.proofs.Places.{row_end}
use Rattle.lbm_lattice.specs.Rows.{IsRead}
use Rattle.lbm_model.proofs.States.{population-state_by}
use Rattle.lbm_rows.specs.Kept.{population_kept}
use Rattle.lbm_rows.specs.Tiles.{KeptLattice, standing_in}
use Rattle.lbm_rows.proofs.KeptStates.{kept_fits}
use Rattle.lbm_rows.proofs.tiles.TilesPattern.read_row.Goals as goal

pub returns : goal.returns
returns g c =
    let l = c.args.self.now in let p = c.self.inside in let row = c.args.row in let dir = c.args.dir in let pops = c.read_direction.new.pops in let made = c.read_direction.ensures in
    let free : l.spent ≡ None = search rules in
    let small = c.self.invariant.0.small (ap (λ (m : KeptLattice). m.spent) c.self.view_is ∙ free) in
    let known = subst (λ (m : KeptLattice). row < rows m.case.torus) (sym c.self.view_is) c.requires.row in
    let direction = subst (λ (m : KeptLattice). dir < m.case.stencil.directions) (sym c.self.view_is) c.requires.direction in
    let here : (x : ℕ) → x < p.case.torus.nx → row * p.case.torus.nx + x < cells p.case.torus = λ x below. let e = row_end p.case.torus c.self.invariant.0.valid.space row known in omega (arith, e, below) in
    let value : (x : ℕ) → x < p.case.torus.nx → slice_index_or pops x (pos 0) ≡ population_kept p.case p.time p.kept.items (row * p.case.torus.nx + x) dir =
    λ x below. made.value x below ∙ ap (λ (ks : List (List ℤ)). population_kept p.case p.time ks (row * p.case.torus.nx + x) dir) c.as_slice.ensures.value in
    subst (λ (m : KeptLattice). IsRead (standing_in m) row dir pops) c.self.view_is
    (record {
      count = made.room;
      value = λ x below. value x below ∙ sym (population-state_by p.case (population_kept p.case p.time p.kept.items) (row * p.case.torus.nx + x) dir (here x below) direction);
      fits = λ x below. subst (FitsSigned w32) (sym (value x below)) (kept_fits p.case p.time p.kept.items small (row * p.case.torus.nx + x) dir (here x below) direction);
    })
