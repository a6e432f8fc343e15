use Rattle.std.proofs.Common.{◌≡◌, ◌≤◌, length, vec_capacity}
use Rattle.std.specs.List.{All}
use Rattle.lbm_rows.proofs.dealing.make_rooms.Given as goal

abbrev pub invariant-loop : goal.invariant-loop
invariant-loop l = record {
  count : length l.rooms.items ≡ l.counter;
  space : l.tiles ≤ vec_capacity l.rooms;
  rooms : All (λ r. r.room ≡ l.room) l.rooms.items;
}
