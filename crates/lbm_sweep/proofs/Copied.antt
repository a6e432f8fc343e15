-- Copying within the arrays of a region, one array after another.
use Rattle.std.proofs.Common.{◌≡◌, ◌≢◌, ℕ, ◌+◌, ◌<◌, ◌≤◌, List, ℤ, ap, subst, ◌∙◌, inl, inr, arith}
use Rattle.std.proofs.lemmas.Bool.{cases_lt}
use Rattle.lbm_space.specs.Stencil.{Stencil, IsVelocitySet, velocity}
use Rattle.lbm_space.specs.Torus.{Torus, IsSpace, cells, padded}
use Rattle.lbm_space.specs.Padded.{offset, place_ahead}
use Rattle.lbm_arrays.specs.Arrays.{Arrays, held}
use Rattle.lbm_arrays.specs.Pads.{place_slot, stand, IsLoaded, IsStored}
use Rattle.lbm_arrays.proofs.Padding.{loaded_at, loaded_elsewhere, stored_at, stored_elsewhere}

-- a region of which the slots alone have changed
module _ (r l : Arrays) (same : l ≡ record r { slots = l.slots }) where
  pub same_space : l.space ≡ r.space
  same_space = ap (λ (a : Arrays). a.space) same

  pub same_count : l.count ≡ r.count
  same_count = ap (λ (a : Arrays). a.count) same

  pub same_margin : l.margin ≡ r.margin
  same_margin = ap (λ (a : Arrays). a.margin) same

-- in the first n arrays the x-th of `count` places has what another held, and the arrays from n on are as they were
pub record AreCopied (t : Torus) (margin base n count : ℕ) (to from : ℕ → ℕ → ℕ) (old new : List ℤ) : Type 0 where
  pub done : (k x : ℕ) → k < n → x < count → held new (place_slot t margin k base (to k x)) ≡ held old (place_slot t margin k base (from k x))
  pub left : (k p : ℕ) → n ≤ k → p < padded t → held new (place_slot t margin k base p) ≡ held old (place_slot t margin k base p)

-- a copy within array n alone
pub record IsCopiedIn (t : Torus) (margin base n count : ℕ) (to from : ℕ → ℕ) (old new : List ℤ) : Type 0 where
  pub here : (x : ℕ) → x < count → held new (place_slot t margin n base (to x)) ≡ held old (place_slot t margin n base (from x))
  pub elsewhere : (k p : ℕ) → k ≢ n → p < padded t → held new (place_slot t margin k base p) ≡ held old (place_slot t margin k base p)

pub copied_next : (t : Torus) (margin base n count : ℕ) (to from : ℕ → ℕ → ℕ) (old mid new : List ℤ) → AreCopied t margin base n count to from old mid → IsCopiedIn t margin base n count (to n) (from n) mid new
    → ((k x : ℕ) → k < n → x < count → to k x < padded t) → ((x : ℕ) → x < count → from n x < padded t) → AreCopied t margin base (n + 1) count to from old new
copied_next t margin base n count to from old mid new before step to_known from_known = record {
  done = λ k x below known. elim (cases_lt k n) [
    | inl front ↦ step.elsewhere k (to k x) (omega arith) (to_known k x front known) ∙ before.done k x front known
    | inr last ↦ (
        let end : n ≡ k = omega arith in
        subst (λ (j : ℕ). held new (place_slot t margin j base (to j x)) ≡ held old (place_slot t margin j base (from j x))) end (step.here x known ∙ before.left n (from n x) (omega arith) (from_known x known)))
  ];
  left = λ k p past known. step.elsewhere k p (omega arith) known ∙ before.left k p (omega arith) known;
}

-- the pads of array k are loaded
pub loaded_in : (r l new : Arrays) (base k : ℕ) → IsSpace r.space → base ≤ r.margin → l ≡ record r { slots = l.slots } → IsLoaded l.space l.margin k base l.slots new.slots
    → IsCopiedIn r.space r.margin base k (padded r.space) (λ p. p) (λ p. stand r.space p) l.slots new.slots
loaded_in r l new base k space room same loaded =
    let loaded' : IsLoaded r.space r.margin k base l.slots new.slots = subst (λ (a : Arrays). IsLoaded a.space a.margin k base l.slots new.slots) same loaded in
    record {
      here = λ p known. loaded_at r.space space r.margin k base l.slots new.slots loaded' p known;
      elsewhere = λ j p other known. loaded_elsewhere r.space space r.margin k base l.slots new.slots loaded' room j (base + p) other (omega arith);
    }

-- the pads of array k are stored
pub stored_in : (r l new : Arrays) (base k : ℕ) (v : Stencil) → IsVelocitySet v → v.dimension ≡ r.space.dimension → k < v.directions → IsSpace r.space → base ≤ r.margin → l ≡ record r { slots = l.slots }
    → IsStored l.space l.margin k base (offset l.space (velocity v k)) l.slots new.slots
    → IsCopiedIn r.space r.margin base k (cells r.space) (λ cell. stand r.space (place_ahead r.space (velocity v k) cell)) (λ cell. place_ahead r.space (velocity v k) cell) l.slots new.slots
stored_in r l new base k v laws fits dir space room same stored =
    let stored' : IsStored r.space r.margin k base (offset r.space (velocity v k)) l.slots new.slots = subst (λ (a : Arrays). IsStored a.space a.margin k base (offset a.space (velocity v k)) l.slots new.slots) same stored in
    record {
      here = λ cell known. stored_at r.space space r.margin k base v laws fits k dir l.slots new.slots stored' cell known;
      elsewhere = λ j p other known. stored_elsewhere r.space space r.margin k base v laws fits k dir l.slots new.slots stored' room j (base + p) other (omega arith);
    }
