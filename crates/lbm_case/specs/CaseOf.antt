-- The case of a file, or its first refusal.
use Rattle.std.specs.Prelude.{ℕ, ◌≢◌, ◌+◌, ◌*◌, ◌≤◌, List, map, nat_lt, if◌then◌else◌, unsigned_abs, Option, Some, None, Result, Ok, ok_or}
use Rattle.std.specs.Str.{chars, is_utf8}
use Rattle.toml.specs.Data.{Members}
use Rattle.toml.specs.Parse.{parse_document}
use Rattle.lbm_space.specs.Stencil.{part}
use Rattle.lbm_space.specs.Torus.{Torus}
use Rattle.lbm_cell.specs.Limits.{least_density, greatest_density}
use Rattle.lbm_cell.specs.Collision.{rates}
use Rattle.lbm_model.specs.Case.{FlowCase}
use Rattle.lbm_model.specs.Sets.{stencil_of, case_of as flow_case}
use Rattle.lbm_model.specs.declared.sets.SetKind.{SetKind}
use Rattle.lbm_case.specs.declared.fault.CaseFault.{CaseFault}
use Rattle.lbm_case.specs.declared.fault.CaseFault.TheVariants.{NotToml, UnknownKey, MissingKey, BadNumber, BadSet, EmptyMap, Ragged, BadChar, TooLarge}
use Rattle.lbm_model.specs.Refusals.{◌>>=◌, demand}
use Rattle.lbm_case.specs.Limits.{greatest_digit}
use Rattle.lbm_case.specs.Refusals.{refuse}
use Rattle.lbm_case.specs.Settings.{Settings, unknown_key, missing_key, settings_of}
use Rattle.lbm_case.specs.Numbers.{bad_number}
use Rattle.lbm_case.specs.Drawing.{width, ragged, strange_place, box_of, is_space, cells_of, moving_in, density_of}

-- the table that the bytes spell
abbrev pub table_of : List ℕ → Option Members
table_of bytes = if is_utf8 bytes then parse_document bytes else None

-- the characters of the rows
abbrev pub drawing_of : Settings → List (List ℕ)
drawing_of s = map chars s.rows

-- the box that the rows fill, and that box if it is allowed
abbrev pub box_drawn : SetKind → Settings → Torus
box_drawn set s = box_of (stencil_of set).dimension (unsigned_abs s.layers) (drawing_of s)

abbrev pub space_drawn : SetKind → Settings → Option Torus
space_drawn set s = if is_space (box_drawn set s) then Some (box_drawn set s) else None

-- the case in that box
abbrev pub case_drawn : SetKind → Torus → Settings → FlowCase
case_drawn set box s =
    let cells = cells_of (drawing_of s) in
    flow_case set box (map (density_of (unsigned_abs s.density) (unsigned_abs s.digit)) cells) (moving_in cells)
    (rates (part s.rate 0) s.rate_minus (part s.rate 1)) s.force s.momentum s.wall

-- what the first density of a cell is: 0 in a wall, and otherwise at most nine steps above the greatest plain one
abbrev pub IsFirstDensity : ℕ → Type 0
IsFirstDensity n = n ≢ 0 → (least_density ≤ n) × (n ≤ greatest_density + 9 * greatest_digit)

-- What the keys of a document say, or the first of four refusals, one a line: of the keys, and of the kinds and the ranges of
-- their values.
unfoldable pub settings_in : Members → Result Settings CaseFault
settings_in table = do
  known ← refuse UnknownKey (unknown_key table)
  complete ← refuse MissingKey (missing_key table)
  s ← settings_of table
  ranged ← refuse BadNumber (bad_number s)
  Ok s

-- The case that they draw, or the first of five refusals, one a line: of the velocity set and of the drawing.
unfoldable pub case_in : Settings → Result FlowCase CaseFault
case_in s = do
  set ← ok_or s.set BadSet
  drawn ← demand (nat_lt 0 (width (drawing_of s))) EmptyMap
  even ← refuse Ragged (ragged (unsigned_abs s.layers) (drawing_of s))
  clear ← refuse (λ at. BadChar at.0 at.1) (strange_place (drawing_of s))
  box ← ok_or (space_drawn set s) TooLarge
  Ok (case_drawn set box s)

-- the case that the bytes of a file spell, or the first of ten refusals: they are no document, or those above
unfoldable pub case_of : List ℕ → Result FlowCase CaseFault
case_of bytes = do
  table ← ok_or (table_of bytes) NotToml
  s ← settings_in table
  case_in s
