use Rattle.std.specs.Prelude.{ℕ, List, [], ◌∷◌, ℤ, Option, find, codes}
use Rattle.std.specs.Str.{bytes_eq}
use Rattle.lbm_space.specs.Stencil.{Stencil}
use Rattle.lbm_space.specs.Tables.{d2q9, d3q19}
use Rattle.lbm_space.specs.Torus.{Torus}
use Rattle.lbm_cell.specs.Collision.{RelaxationRates}
use Rattle.lbm_sets.specs.Tables.{d3q15, d3q27}
use Rattle.lbm_model.specs.Case.{FlowCase}
use Rattle.lbm_model.specs.declared.sets.SetKind.{SetKind}
use Rattle.lbm_model.specs.declared.sets.SetKind.TheVariants.{D2Q9, D3Q19, D3Q15, D3Q27}

-- the velocity set that a name stands for
abbrev pub stencil_of : SetKind → Stencil
stencil_of D2Q9 = d2q9
stencil_of D3Q19 = d3q19
stencil_of D3Q15 = d3q15
stencil_of D3Q27 = d3q27

-- the name, as a case file has it
abbrev pub name_of : SetKind → List ℕ
name_of D2Q9 = codes "D2Q9"
name_of D3Q19 = codes "D3Q19"
name_of D3Q15 = codes "D3Q15"
name_of D3Q27 = codes "D3Q27"

-- the velocity set of a name, if there is one
abbrev pub set_named : List ℕ → Option SetKind
set_named name = find (λ set. bytes_eq name (name_of set)) (D2Q9 ∷ D3Q19 ∷ D3Q15 ∷ D3Q27 ∷ [])

-- the case of these parts
abbrev pub case_of : SetKind → Torus → List ℕ → List ℕ → RelaxationRates → List ℤ → List ℤ → List ℤ → FlowCase
case_of set torus densities moving rates force momentum wall = record {
  stencil = stencil_of set;
  torus = torus;
  densities = densities;
  moving = moving;
  wall = wall;
  rates = rates;
  force = force;
  momentum = momentum;
}
