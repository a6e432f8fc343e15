-- Where cells exchange.
use Rattle.std.proofs.Common.{◌≡◌, ℕ, ◌<◌, ltb, true, false, refl, inl, inr, arith}
use Rattle.std.proofs.lemmas.Bool.{cases_Bool}
use Rattle.std.proofs.lemmas.Int.{ints}
use Rattle.lbm_space.specs.Stencil.{Stencil, IsVelocitySet, velocity, opposite}
use Rattle.lbm_space.specs.Torus.{Torus, IsSpace, cells, padded}
use Rattle.lbm_space.specs.Padded.{padded_index, place_ahead}
use Rattle.lbm_space.proofs.Places.{padded_index_below}
use Rattle.lbm_space.proofs.Offsets.{place_ahead_is, place_ahead_below}
use Rattle.lbm_arrays.specs.Pads.{place_slot, stand}
use Rattle.lbm_arrays.specs.declared.steps.Step.TheVariants.{Exchange}
use Rattle.lbm_arrays.specs.Steps.{touched}
use Rattle.lbm_swap.specs.Exchange.{met_place, loaded_place}

-- the lesser direction of a pair of opposites, and the others
pub met_ahead : (t : Torus) (v : Stencil) (k x : ℕ) → ltb k (opposite v k) ≡ true → met_place t v k x ≡ place_ahead t (velocity v k) x
met_ahead t v k x on = rw on refl

pub met_own : (t : Torus) (v : Stencil) (k x : ℕ) → ltb k (opposite v k) ≡ false → met_place t v k x ≡ padded_index t x
met_own t v k x off = rw off refl

pub loaded_stand : (t : Torus) (v : Stencil) (k p : ℕ) → ltb k (opposite v k) ≡ true → loaded_place t v k p ≡ stand t p
loaded_stand t v k p on = rw on refl

pub loaded_own : (t : Torus) (v : Stencil) (k p : ℕ) → ltb k (opposite v k) ≡ false → loaded_place t v k p ≡ p
loaded_own t v k p off = rw off refl

module _ (t : Torus) (space : IsSpace t) (v : Stencil) (laws : IsVelocitySet v) (fits : v.dimension ≡ t.dimension) (k x : ℕ) (known : k < v.directions) (here : x < cells t) where
  pub met_place_below : met_place t v k x < padded t
  met_place_below = elim (cases_Bool (ltb k (opposite v k))) [
    | inl on ↦ rw (met_ahead t v k x on) (place_ahead_below t space v laws fits k x known here)
    | inr off ↦ rw (met_own t v k x off) (padded_index_below t space x here)
  ]

  -- it is what the step lets the cell touch
  pub touched-met : touched t 2 1 v Exchange k x ≡ place_slot t 2 k 1 (met_place t v k x)
  touched-met = elim (cases_Bool (ltb k (opposite v k))) [
    | inl on ↦ rw on (let at = place_ahead_is t space v laws fits k x known here in omega (arith, ints, at))
    | inr off ↦ rw off (omega (arith, ints))
  ]
