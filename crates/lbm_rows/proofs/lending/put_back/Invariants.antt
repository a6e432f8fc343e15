use Rattle.std.proofs.Common.{◌≡◌, ℕ, ◌<◌, ◌≤◌, [], length, slice_index_or}
use Rattle.lbm_rows.specs.Lending.{entry_number}
use Rattle.lbm_rows.proofs.lending.put_back.Given as goal

abbrev pub invariant-loop-j : goal.invariant-loop-j
invariant-loop-j g l = record {
  count : length l.kept ≡ length l.fn.kept;
  long : length l.lent ≡ length l.fn.lent;
  back : (i : ℕ) → i < l.j → slice_index_or l.kept (entry_number l.case l.t l.rows i) [] ≡ slice_index_or l.fn.lent i [];
  others : (m : ℕ) → ((i : ℕ) → i < l.j → m ≡ entry_number l.case l.t l.rows i → ⊥) → slice_index_or l.kept m [] ≡ slice_index_or l.fn.kept m [];
  rest : (i : ℕ) → l.j ≤ i → slice_index_or l.lent i [] ≡ slice_index_or l.fn.lent i [];
}
