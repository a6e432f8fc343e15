-- The densities and momenta of a flow along a row of cells.
use Rattle.std.specs.Prelude.{◌≡◌, ℕ, ◌+◌, ◌*◌, ◌<◌, pos, length, slice_index_or}
use Rattle.lbm_cell.specs.declared.populations.Moment.{Moment}
use Rattle.lbm_model.specs.State.{population}
use Rattle.lbm_model.specs.Standing.{Standing}
use Rattle.lbm_tracer.specs.Collision.{IsMomentOf}
use Rattle.lbm_tracer.specs.declared.flow_row.FlowRow.{FlowRow}

-- room for n cells
pub record HasRoom {A : Type 0} (n : ℕ) (r : FlowRow A) : Type 0 where
  pub pops : length r.pops.items ≡ n
  pub rho : length r.rho.items ≡ n
  pub x : length r.x.items ≡ n
  pub y : length r.y.items ≡ n
  pub z : length r.z.items ≡ n

-- density and momentum of the cell at x
abbrev pub moment_at : {A : Type 0} → FlowRow A → ℕ → Moment
moment_at r x = record {
  rho = slice_index_or r.rho.items x (pos 0);
  jx = slice_index_or r.x.items x (pos 0);
  jy = slice_index_or r.y.items x (pos 0);
  jz = slice_index_or r.z.items x (pos 0);
}

-- they are those of each cell of the row
abbrev pub HasMoments : {A : Type 0} → Standing → ℕ → FlowRow A → Type 0
HasMoments now row r = (x : ℕ) → x < now.case.torus.nx → IsMomentOf now.case.stencil (population now.state (row * now.case.torus.nx + x)) (moment_at r x)
