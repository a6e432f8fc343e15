-- The exchange of what cells have sent, which stands in their own slots of the opposite directions.
use Rattle.std.specs.Prelude.{◌≡◌, ℕ, ◌<◌, ◌≤◌, nat_lt, List, ℤ, length, slice_index, if◌then◌else◌}
use Rattle.lbm_space.specs.Limits.{most_directions}
use Rattle.lbm_space.specs.Stencil.{Stencil, velocity, opposite}
use Rattle.lbm_space.specs.Torus.{Torus, IsSpace, cells}
use Rattle.lbm_space.specs.Padded.{padded_index, place_ahead}
use Rattle.lbm_model.specs.Case.{FlowCase}
use Rattle.lbm_arrays.specs.Arrays.{held}
use Rattle.lbm_arrays.specs.Pads.{place_slot, stand}
use Rattle.lbm_cell.specs.Rows.{entry}
use Rattle.lbm_walk.specs.Places.{local}
use Rattle.lbm_sweep.specs.Slabs.{Ranges, IsSlab}

-- each of q arrays has a partner, whose partner it is
pub record IsPaired (q : ℕ) (partners : List ℕ) : Type 0 where
  pub known : (k : ℕ) → k < q → slice_index partners k < q
  pub twice : (k : ℕ) → k < q → slice_index partners (slice_index partners k) ≡ k

-- the ranges of a slab of these rows may exchange
pub record IsReady (t : Torus) (partners : List ℕ) (rows : ℕ × ℕ) (ranges : Ranges) : Type 0 where
  pub space : IsSpace t
  pub few : length partners ≤ most_directions
  pub paired : IsPaired (length partners) partners
  pub slab : IsSlab t (length partners) rows ranges

-- At the place of each of the cells from `from` up to, not including, `to`, each of q ranges has what that of its partner had. All other places are as before.
pub record IsExchangedIn (t : Torus) (q : ℕ) (partners : List ℕ) (rows : ℕ × ℕ) (from to : ℕ) (old new : Ranges) : Type 0 where
  pub exchanged : (x k : ℕ) → from ≤ x → x < to → k < q → entry new k (local t rows x) ≡ entry old (slice_index partners k) (local t rows x)
  pub others : (k p : ℕ) → ((x : ℕ) → from ≤ x → x < to → local t rows x ≡ p → ⊥) → entry new k p ≡ entry old k p

-- the place where a cell exchanges in array k: ahead of it for the lesser direction of each pair of opposites, and else its own
abbrev pub met_place : Torus → Stencil → ℕ → ℕ → ℕ
met_place t v k x = if nat_lt k (opposite v k) then place_ahead t (velocity v k) x else padded_index t x

-- the place whose value a place has once the pads of the lesser directions are loaded
abbrev pub loaded_place : Torus → Stencil → ℕ → ℕ → ℕ
loaded_place t v k p = if nat_lt k (opposite v k) then stand t p else p

-- the slot of a place in array k
abbrev pub slot_in : FlowCase → ℕ → ℕ → ℕ
slot_in case k p = place_slot case.torus 2 k 1 p

-- the slot where a cell exchanges in array k
abbrev pub met_slot : FlowCase → ℕ → ℕ → ℕ
met_slot case k x = slot_in case k (met_place case.torus case.stencil k x)

-- the slot in which a cell puts what it sends in direction i: its own, in the array of the opposite direction
abbrev pub sent_slot : FlowCase → ℕ → ℕ → ℕ
sent_slot case x i = slot_in case (opposite case.stencil i) (padded_index case.torus x)

-- For each cell and each pair of directions the two slots have exchanged what they held. All other slots are as before.
pub record AreExchanged (case : FlowCase) (old new : List ℤ) : Type 0 where
  pub exchanged : (x k : ℕ) → x < cells case.torus → k < case.stencil.directions → held new (met_slot case k x) ≡ held old (met_slot case (opposite case.stencil k) x)
  pub others : (s : ℕ) → ((x k : ℕ) → x < cells case.torus → k < case.stencil.directions → met_slot case k x ≡ s → ⊥) → held new s ≡ held old s
