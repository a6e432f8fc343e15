use Rattle.std.proofs.Common.{◌≡◌, ◌<◌, ℕ, List, true, sym, ap, ◌∙◌, eqb}
use Rattle.std.specs.Prelude.{slice_index, not}
use Rattle.lbm_cell.proofs.Sizes.{size_of_32}
use Rattle.lbm_lanes.specs.Cells.{is_on, after, IsWithin}
use Rattle.lbm_lanes.specs.Lanes.{entry, held}
use Rattle.lbm_lanes.proofs.Outcome.{within_from, cell_of, held_past, held_there}
use Rattle.lbm_lanes.specs.Progress.{AreCells, IsBegun}
use Rattle.lbm_lanes.proofs.kernel.collide_sums.Goals.{Start, After-of-fluid}
use Rattle.lbm_lanes.proofs.kernel.collide_sums.Goals as goal

within : (g : _) (c : Start g) (l : ℕ) → l < 8 → (let s = c.args.sums.now in IsWithin (is_on (not (eqb g.row.MIXED 0)) (slice_index c.args.flags.colliding l)) (entry s.rho l) (entry s.x l) (entry s.y l) (entry s.z l))
within g c l lane =
    let v = g.V.VelocitySet.stencil in let R = g.R.Rows in let rows = c.args.rows.now in let h = held (R.count rows) (R.there rows) l in let s = c.args.sums.now in
    within_from v h (is_on (not (eqb g.row.MIXED 0)) (slice_index c.args.flags.colliding l)) (entry s.rho l) (entry s.x l) (entry s.y l) (entry s.z l) (entry s.signs l) g.met.V.VelocitySet.laws (c.requires.sums l lane) (c.requires.within l lane)

pub of-fluid-requires : goal.of-fluid-requires
of-fluid-requires g c = record { sums = within g c }

-- the numbers of the cells
cells : (g : _) (c : After-of-fluid g) → (let rows = c.args.rows.now in let f = c.of-fluid.result in AreCells g.V.VelocitySet.stencil (not (eqb g.row.MIXED 0)) f.flags.colliding f.cells.rho f.cells.reciprocal f.cells.base f.x f.y f.z (held (g.R.Rows.count rows) (g.R.Rows.there rows)))
cells g c =
    let v = g.V.VelocitySet.stencil in let R = g.R.Rows in let rows = c.args.rows.now in let H = held (R.count rows) (R.there rows) in let s = c.args.sums.now in let e = c.of-fluid.ensures in
    let f = c.of-fluid.result in
    record {
      ready = λ l lane. record {
        sound = e.sound l lane;
        cell = λ on.
            let chosen : is_on (not (eqb g.row.MIXED 0)) (slice_index c.args.flags.colliding l) ≡ true = ap (λ (xs : List ℕ). is_on (not (eqb g.row.MIXED 0)) (slice_index xs l)) (sym e.colliding) ∙ on in
            cell_of v (H l) (entry s.rho l) (entry s.x l) (entry s.y l) (entry s.z l) (entry s.signs l) (slice_index f.cells.rho l) (slice_index f.x l) (slice_index f.y l) (slice_index f.z l) g.met.V.VelocitySet.laws (c.requires.sums l lane) (c.requires.within l lane chosen)
            (e.rho l lane chosen) (e.x_is l lane chosen) (e.y_is l lane chosen) (e.z_is l lane chosen);
      };
      small = λ k l known lane. size_of_32 (H l k) (c.requires.fits k l known lane);
    }

begun : (g : _) (c : After-of-fluid g) → (let rows = c.args.rows.now in IsBegun g.V.VelocitySet.stencil (g.R.Rows.count rows) (held (g.R.Rows.count rows) (g.R.Rows.there rows)) (g.R.Rows.there rows))
begun g c = let R = g.R.Rows in let rows = c.args.rows.now in record {
  taken = λ k j known cell. held_there (R.count rows) (R.there rows) k j cell;
  past = λ k l known beyond. held_past (R.count rows) (R.there rows) k l beyond;
}

pub settle_rows-requires-clause-begun : goal.settle_rows-requires-clause-begun
settle_rows-requires-clause-begun g c =
    let here = (goal.at.settle_rows-requires-clause-begun g c).After-of-fluid in
    (held (g.R.Rows.count c.args.rows.now) (g.R.Rows.there c.args.rows.now), cells g here, begun g here)

pub returns-clause-sent : goal.returns-clause-sent
returns-clause-sent g c = λ k j known cell.
    let v = g.V.VelocitySet.stencil in let R = g.R.Rows in let rows = c.args.rows.now in let H = held (R.count rows) (R.there rows) in let e = c.of-fluid.ensures in
    let r = c.args.run.now.rates in let force = c.args.run.now.force in
    let here = (goal.at.returns-clause-sent g c).After-of-fluid in
    c.settle_rows.ensures.sent H (cells g here) (begun g here) k j known cell
    ∙ ap (λ (xs : List ℕ). after v r force (not (eqb g.row.MIXED 0)) xs c.of-fluid.result.flags.turning H j k) e.colliding
    ∙ ap (λ (xs : List ℕ). after v r force (not (eqb g.row.MIXED 0)) c.args.flags.colliding xs H j k) e.turning
