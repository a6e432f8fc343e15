-- What the table of a case file holds: the kind of the value at each key, and what stands for an absent key.
use Rattle.std.specs.Prelude.{ℕ, List, [], ◌∷◌, not, length, ◌==◌, if◌then◌else◌, ℤ, pos, Option, Some, None, option_and_then, option_map, is_none, find, filter, Result, Ok, ok_or}
use Rattle.std.specs.Option.{option_map_or}
use Rattle.std.specs.Ordering.{nat_cmp, is_lt}
use Rattle.std.specs.Cmp.Lexicographic.{slice_cmp}
use Rattle.toml.specs.Data.{Data, Items, no_items, item, Members, no_members, member, get_member, as_str, as_integer, as_array}
use Rattle.lbm_space.specs.Stencil.{part}
use Rattle.lbm_model.specs.declared.sets.SetKind.{SetKind}
use Rattle.lbm_model.specs.Sets.{set_named}
use Rattle.lbm_case.specs.declared.key.Key.{Key}
use Rattle.lbm_case.specs.declared.key.Key.TheVariants.{Set, Omega, Map, Layers, Density, Digit, Momentum, Force, OmegaMinus, Wall}
use Rattle.lbm_case.specs.declared.fault.CaseFault.{CaseFault}
use Rattle.lbm_case.specs.declared.fault.CaseFault.TheVariants.{WrongKind}
use Rattle.lbm_case.specs.Keys.{name_of, required_keys, is_known}
use Rattle.lbm_model.specs.Refusals.{◌>>=◌}

-- the names in a table
abbrev pub names_in : Members → List (List ℕ)
names_in no_members = []
names_in (member name value rest) = name ∷ names_in rest

-- the lesser of two names, byte by byte, and the least of some
abbrev pub lesser : List ℕ → List ℕ → List ℕ
lesser a b = if is_lt (slice_cmp nat_cmp a b) then a else b

abbrev pub least : List (List ℕ) → Option (List ℕ)
least [] = None
least (name ∷ names) = Some (option_map_or (lesser name) (least names) name)

-- the least name that is no key
abbrev pub unknown_key : Members → Option (List ℕ)
unknown_key table = least (filter (λ name. not (is_known name)) (names_in table))

-- the value at a key
abbrev pub value_at : Key → Members → Option Data
value_at key table = get_member (name_of key) table

-- the first key that has to be there and is not
abbrev pub missing_key : Members → Option Key
missing_key table = find (λ key. is_none (value_at key table)) required_keys

-- what an array holds, where each item has the form
abbrev pub each_in : {A : Type 0} → (Data → Option A) → Items → Option (List A)
each_in form no_items = Some []
each_in form (item value rest) = option_and_then (λ x. option_map (λ xs. x ∷ xs) (each_in form rest)) (form value)

-- the kinds: a text, with the velocity set that it names; an array of texts; an array of exactly n integers
abbrev pub set_in : Data → Option (Option SetKind)
set_in value = option_map set_named (as_str value)

abbrev pub texts_in : Data → Option (List (List ℕ))
texts_in value = option_and_then (each_in as_str) (as_array value)

abbrev pub integers_in : ℕ → Data → Option (List ℤ)
integers_in n value = option_and_then (λ xs. if length xs == n then Some xs else None) (option_and_then (each_in as_integer) (as_array value))

-- what stands at a key in the form of its kind: at one that has to be there, and at one that has a default
abbrev pub required : {A : Type 0} → (Data → Option A) → Key → Members → Result A CaseFault
required form key table = ok_or (option_and_then form (value_at key table)) (WrongKind key)

abbrev pub optional : {A : Type 0} → (Data → Option A) → A → Key → Members → Result A CaseFault
optional form default key table = elim (value_at key table) [
  | None ↦ Ok default
  | Some value ↦ ok_or (form value) (WrongKind key)
]

-- what a table holds at its keys: the rate is p and q, and the rows are texts
pub record Settings : Type 0 where
  pub set : Option SetKind
  pub rate : List ℤ
  pub rows : List (List ℕ)
  pub layers : ℤ
  pub density : ℤ
  pub digit : ℤ
  pub momentum : List ℤ
  pub force : List ℤ
  pub rate_minus : ℤ
  pub wall : List ℤ

abbrev pub zero_vector : List ℤ
zero_vector = pos 0 ∷ pos 0 ∷ pos 0 ∷ []

-- The keys in order, each with its kind and its default. The first value of another kind is refused. The second rate is
-- the first one where it is not given.
unfoldable pub settings_of : Members → Result Settings CaseFault
settings_of table = do
  set ← required set_in Set table
  rate ← required (integers_in 2) Omega table
  rows ← required texts_in Map table
  layers ← optional as_integer (pos 1) Layers table
  density ← optional as_integer (pos 884736) Density table
  digit ← optional as_integer (pos 0) Digit table
  momentum ← optional (integers_in 3) zero_vector Momentum table
  force ← optional (integers_in 3) zero_vector Force table
  rate_minus ← optional as_integer (part rate 0) OmegaMinus table
  wall ← optional (integers_in 3) zero_vector Wall table
  Ok (record { set = set; rate = rate; rows = rows; layers = layers; density = density; digit = digit; momentum = momentum; force = force; rate_minus = rate_minus; wall = wall })
