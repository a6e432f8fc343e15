use Rattle.std.proofs.Common.{◌≡◌, length, take, drop}
use Rattle.toml.specs.Data.{as_integer}
use Rattle.toml.specs.View.{items_view}
use Rattle.lbm_case.specs.Settings.{each_in}
use Rattle.lbm_case.proofs.SettingsLemmas.{before}
use Rattle.lbm_case.proofs.settings.integers.Given as goal

abbrev pub invariant-loop-i : goal.invariant-loop-i
invariant-loop-i g l = record {
  room : length l.numbers ≡ g.row.N;
  same_length : length l.items ≡ g.row.N;
  so_far : before (take l.i l.numbers) (each_in as_integer (items_view (drop l.i l.items))) ≡ each_in as_integer (items_view l.items);
}
