-- A patch of every place of a row.
use Rattle.std.specs.Prelude.{◌≡◌, List}
use Rattle.core.specs.Mem.Slots.{slots_ptr, slots_len, slots_items, slots_filled}
use Rattle.core.specs.Mem.Slots.Ownership.{Filled}
use Rattle.core.specs.declared.slots.Slots.{Slots}
use Rattle.lbm_patch.specs.declared.Patch.{Patch}

module _ {X : Type 0} where
  -- a holds the places of the row that hold a value
  abbrev pub IsOf : Patch X → Slots X → Type 0
  IsOf a row = (a.ptr ≡ slots_ptr row) × (a.len ≡ slots_len row) × (a.items ≡ slots_items row) × (a.mine ≡ slots_filled row)

  -- a holds every place, and these are the values
  abbrev pub IsWhole : Patch X → List X → Type 0
  IsWhole a xs = Filled a.mine 0 a.len × (a.items ≡ xs)

  -- b holds every place of the row of a
  abbrev pub IsRefilled : Patch X → Patch X → Type 0
  IsRefilled a b = (b.ptr ≡ a.ptr) × (b.len ≡ a.len) × Filled b.mine 0 b.len
