-- The keys of a case file.
use Rattle.std.specs.Prelude.{ℕ, Bool, List, [], ◌∷◌, codes}
use Rattle.std.specs.List.{list_any}
use Rattle.std.specs.Str.{bytes_eq}
use Rattle.lbm_case.specs.declared.key.Key.{Key}
use Rattle.lbm_case.specs.declared.key.Key.TheVariants.{Set, Omega, Map, Layers, Density, Digit, Momentum, Force, OmegaMinus, Wall}

-- how a key is written
abbrev pub name_of : Key → List ℕ
name_of Set = codes "set"
name_of Omega = codes "omega"
name_of Map = codes "map"
name_of Layers = codes "layers"
name_of Density = codes "density"
name_of Digit = codes "digit"
name_of Momentum = codes "momentum"
name_of Force = codes "force"
name_of OmegaMinus = codes "omega_minus"
name_of Wall = codes "wall"

-- the keys in order, and those that have to be there
unfoldable pub all_keys : List Key
all_keys = Set ∷ Omega ∷ Map ∷ Layers ∷ Density ∷ Digit ∷ Momentum ∷ Force ∷ OmegaMinus ∷ Wall ∷ []

unfoldable pub required_keys : List Key
required_keys = Set ∷ Omega ∷ Map ∷ []

-- whether a key is written so
abbrev pub is_known : List ℕ → Bool
is_known name = list_any (λ key. bytes_eq name (name_of key)) all_keys
