use Rattle.std.proofs.Common.{◌≡◌, ℕ, ◌+◌, ◌*◌, ◌/◌, ◌%◌, ◌<◌, ◌≤◌, [], pos, length, vec_capacity, slice_index_or}
use Rattle.lbm_rows.specs.Kept.{placed}
use Rattle.lbm_rows.proofs.standing.make_rows.Given as goal

abbrev pub invariant-loop-j : goal.invariant-loop-j
invariant-loop-j g l = record {
  count : length l.kept.items ≡ l.j;
  space : l.all ≤ vec_capacity l.kept;
  lengths : (j : ℕ) → j < l.j → length (slice_index_or l.kept.items j []) ≡ l.case.torus.nx + 2;
  slots : (j x : ℕ) → j < l.j → x < l.case.torus.nx → slice_index_or (slice_index_or l.kept.items j []) (1 + x) (pos 0) ≡ placed l.case l.t l.state (j / l.rows) (j % l.rows * l.case.torus.nx + x);
}
