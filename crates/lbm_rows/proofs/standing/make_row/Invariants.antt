use Rattle.std.proofs.Common.{◌≡◌, ℕ, ◌+◌, ◌*◌, ◌<◌, ◌≤◌, pos, length, vec_capacity, slice_index_or}
use Rattle.lbm_rows.specs.Kept.{placed}
use Rattle.lbm_rows.proofs.standing.make_row.Given as goal

abbrev pub invariant-loop-x : goal.invariant-loop-x
invariant-loop-x g l = record {
  long : length l.slots.items ≡ l.x + 1;
  space : l.width + 2 ≤ vec_capacity l.slots;
  slots : (x : ℕ) → x < l.x → slice_index_or l.slots.items (1 + x) (pos 0) ≡ placed l.case l.t l.state l.k (l.row * l.case.torus.nx + x);
}
