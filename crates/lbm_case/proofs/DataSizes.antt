-- How long the texts of a document's data are together, where each text counts as one byte longer.
use Rattle.std.proofs.Common.{ℕ, ◌+◌, length}
use Rattle.toml.specs.Data.{Data, string, array, table, Items, no_items, item, Members, no_members, member}

abbrev mutual
  pub size : Data → ℕ
  size (string text) = 1 + length text
  size (array ds) = items_size ds
  size (table ms) = members_size ms
  size _ = 0

  pub items_size : Items → ℕ
  items_size no_items = 0
  items_size (item d ds) = size d + items_size ds

  pub members_size : Members → ℕ
  members_size no_members = 0
  members_size (member name d ms) = size d + members_size ms
