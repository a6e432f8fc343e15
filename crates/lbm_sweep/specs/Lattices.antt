-- Lattices whose populations stand in the slots of a region.
use Rattle.std.specs.Prelude.{◌≡◌, ℕ, ◌<◌, ◌≤◌, List, ℤ, unsigned_abs, Option, None}
use Rattle.lbm_space.specs.Stencil.{Stencil}
use Rattle.lbm_space.specs.Torus.{cells, rows}
use Rattle.lbm_space.specs.Cuttings.{rows_of}
use Rattle.lbm_model.specs.Case.{FlowCase, IsCase}
use Rattle.lbm_model.specs.declared.layout.Layout.{Layout}
use Rattle.lbm_model.specs.Layout.{state_in}
use Rattle.lbm_model.specs.Small.{size_limit, IsSmall}
use Rattle.lbm_model.specs.Standing.{Standing}
use Rattle.lbm_arrays.specs.Arrays.{Arrays}

-- the region has an array for each direction, and the margin of the layout
pub record IsLaidOut (case : FlowCase) (layout : Layout) (region : Arrays) : Type 0 where
  pub space : region.space ≡ case.torus
  pub count : region.count ≡ case.stencil.directions
  pub margin : region.margin ≡ layout.margin
  pub base : layout.base ≤ layout.margin

-- a case at a time, the cell that spent the lattice, if it is spent, and its slots
pub record Lattice : Type 0 where
  pub case : FlowCase
  pub time : ℕ
  pub spent : Option ℕ
  pub slots : List ℤ

-- what it stands for, where its layout at each time is known
abbrev pub standing_by : (ℕ → Layout) → Lattice → Standing
standing_by layout l = record { case = l.case; time = l.time; spent = l.spent; state = state_in l.case (layout l.time) l.slots }

-- each of these populations is within the limit of its cell
abbrev pub AreWithin : FlowCase → (ℕ → ℕ → ℤ) → Type 0
AreWithin case f = (x i : ℕ) → x < cells case.torus → i < case.stencil.directions → unsigned_abs (f x i) ≤ size_limit case x

-- what a pattern keeps to: its region is laid out for the case, and while it is not spent no population is too large
pub record IsKept (v : Stencil) (layout : Layout) (case : FlowCase) (spent : Option ℕ) (region : Arrays) (bounds : List ℕ) : Type 0 where
  pub set : case.stencil ≡ v
  pub valid : IsCase case
  pub laid : IsLaidOut case layout region
  pub cutting : rows_of bounds ≡ rows case.torus
  pub small : spent ≡ None → IsSmall case (state_in case layout region.slots)
