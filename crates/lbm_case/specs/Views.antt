-- What the values of the code stand for, and what its parts give and ask. Only the contracts of private functions cite this: no
-- public contract rests on it.
use Rattle.std.specs.Prelude.{◌≡◌, ℕ, ◌^◌, ◌<◌, List, [], map, length, Result, Ok, Err}
use Rattle.std.specs.Str.{chars}
use Rattle.toml.specs.Data.{Data, string}
use Rattle.toml.specs.View.{view}
use Rattle.toml.specs.declared.value.Value.{Value}
use Rattle.lbm_case.specs.declared.settings.Settings.{Settings as CodeSettings}
use Rattle.lbm_case.specs.declared.fault.CaseFault.{CaseFault}
use Rattle.lbm_case.specs.declared.fault.CaseEnd.{CaseEnd}
use Rattle.lbm_case.specs.Refusals.{Refuses}
use Rattle.lbm_case.specs.Settings.{Settings}
use Rattle.lbm_case.specs.Drawing.{row}

-- the text that a value is
abbrev pub text_of : Data → List ℕ
text_of (string text) = text
text_of other = []

-- the texts of some values
abbrev pub texts_view : List Value → List (List ℕ)
texts_view values = map (λ value. text_of (view value)) values

abbrev pub settings_view : CodeSettings → Settings
settings_view s = record {
  set = s.set;
  rate = s.rate;
  rows = texts_view s.rows.now;
  layers = s.layers;
  density = s.density;
  digit = s.digit;
  momentum = s.momentum;
  force = s.force;
  rate_minus = s.rate_minus;
  wall = s.wall;
}

-- the rows that some values draw
abbrev pub drawing_view : List Value → List (List ℕ)
drawing_view values = map chars (texts_view values)

-- rows whose numbers, and the numbers of whose columns, have at most 32 bits
pub record IsSmall (rows : List (List ℕ)) : Type 0 where
  pub few : length rows < 2 ^ 32
  pub short : (r : ℕ) → length (row rows r) < 2 ^ 32

-- what a function gave, seen through view, is what the reading gives, unless memory ran out
abbrev pub Gives : {X Y : Type 0} → (X → Y) → Result X CaseEnd → Result Y CaseFault → Type 0
Gives view (Ok x) reading = reading ≡ Ok (view x)
Gives view (Err end) reading = Refuses end reading
