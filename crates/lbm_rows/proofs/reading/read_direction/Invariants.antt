use Rattle.std.proofs.Common.{◌≡◌, ℕ, ◌+◌, ◌*◌, ◌<◌, length, pos, slice_index_or}
use Rattle.lbm_rows.specs.Kept.{population_kept}
use Rattle.lbm_rows.proofs.reading.read_direction.Given as goal

abbrev pub invariant-loop-x : goal.invariant-loop-x
invariant-loop-x g l = record {
  room : length l.pops ≡ l.case.torus.nx;
  value : (y : ℕ) → y < l.x → slice_index_or l.pops y (pos 0) ≡ population_kept l.case l.t l.kept (l.row * l.case.torus.nx + y) l.dir;
}
