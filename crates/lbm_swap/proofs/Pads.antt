-- The pads of the arrays of the lesser directions are loaded and stored, one array after another.
use Rattle.std.proofs.Common.{Bool, ◌≡◌, ℕ, ◌+◌, ◌<◌, ◌≤◌, ltb, true, false, refl, sym, ap, ◌∙◌, inl, inr, arith}
use Rattle.std.proofs.lemmas.Bool.{cases_Bool}
use Rattle.lbm_space.specs.Stencil.{Stencil, IsVelocitySet, velocity, opposite}
use Rattle.lbm_space.specs.Torus.{IsSpace, cells, padded}
use Rattle.lbm_space.specs.Padded.{padded_index, offset}
use Rattle.lbm_space.proofs.Interior.{interior_index}
use Rattle.lbm_arrays.specs.Arrays.{Arrays, held}
use Rattle.lbm_arrays.specs.Pads.{place_slot, stand, IsLoaded, IsStored}
use Rattle.lbm_arrays.proofs.Padding.{same_again, stand_below, stand-interior}
use Rattle.lbm_sweep.proofs.Copied.{AreCopied, IsCopiedIn, same_count, same_margin, copied_next, loaded_in, stored_in}
use Rattle.lbm_swap.specs.Exchange.{met_place, loaded_place}
use Rattle.lbm_swap.proofs.Places.{met_place_below}

-- of the first n arrays some have been copied within, and nothing else has changed
pub record HasCopied (base n count : ℕ) (to from : ℕ → ℕ → ℕ) (r l : Arrays) : Type 0 where
  pub same : l ≡ record r { slots = l.slots }
  pub copied : AreCopied r.space r.margin base n count to from r.slots l.slots

-- those of the lesser directions are loaded
abbrev pub HasLoaded : Stencil → ℕ → ℕ → Arrays → Arrays → Type 0
HasLoaded v base n r l = HasCopied base n (padded r.space) (λ k p. p) (λ k p. loaded_place r.space v k p) r l

-- those of the lesser directions are stored, at the cells' places
abbrev pub HasStored : Stencil → ℕ → ℕ → Arrays → Arrays → Type 0
HasStored v base n r l = HasCopied base n (cells r.space) (λ k x. stand r.space (met_place r.space v k x)) (λ k x. met_place r.space v k x) r l

module _ (base count : ℕ) (to from : ℕ → ℕ → ℕ) (r : Arrays) where
  pub none_copied : HasCopied base 0 count to from r r
  none_copied = record { same = refl; copied = record { done = λ k x below known. absurd (omega arith); left = λ k p past known. refl } }

  next_copied : (n : ℕ) (l new : Arrays) → HasCopied base n count to from r l → new ≡ record l { slots = new.slots } → IsCopiedIn r.space r.margin base n count (to n) (from n) l.slots new.slots
      → ((k x : ℕ) → k < n → x < count → to k x < padded r.space) → ((x : ℕ) → x < count → from n x < padded r.space) → HasCopied base (n + 1) count to from r new
  next_copied n l new before same here to_known from_known =
      record { same = same_again r l new before.same same; copied = copied_next r.space r.margin base n count to from r.slots l.slots new.slots before.copied here to_known from_known }

-- what is asked of the next array
pub next_known : (r l : Arrays) (q n : ℕ) → l ≡ record r { slots = l.slots } → r.count ≡ q → n < q → n < l.count
next_known r l q n same all known = omega (arith, same_count r l same, all, known)

pub base_known : (r l : Arrays) (base : ℕ) → l ≡ record r { slots = l.slots } → base ≤ r.margin → base ≤ l.margin
base_known r l base same room = omega (arith, same_margin r l same, room)

module _ (r l : Arrays) (space : IsSpace r.space) (v : Stencil) (base n : ℕ) (room : base ≤ r.margin) where
  loaded_below : (p : ℕ) → p < padded r.space → loaded_place r.space v n p < padded r.space
  loaded_below p known = elim (cases_Bool (ltb n (opposite v n))) [ inl on ↦ rw on (stand_below r.space space p known) | inr off ↦ rw off known ]

  module _ (before : HasLoaded v base n r l) where
    pub load_more : (new : Arrays) (lesser : Bool) → lesser ≡ ltb n (opposite v n) → lesser ≡ true → IsLoaded l.space l.margin n base l.slots new.slots → new ≡ record l { slots = new.slots } → HasLoaded v base (n + 1) r new
    load_more new lesser is holds loaded same =
        let on : ltb n (opposite v n) ≡ true = sym is ∙ holds in
        let one = loaded_in r l new base n space room before.same loaded in
        let here : IsCopiedIn r.space r.margin base n (padded r.space) (λ p. p) (λ p. loaded_place r.space v n p) l.slots new.slots =
        record { here = λ p known. rw on (one.here p known); elsewhere = one.elsewhere } in
        next_copied base (padded r.space) (λ k p. p) (λ k p. loaded_place r.space v k p) r n l new before same here (λ k p below known. known) loaded_below

    pub load_passed : (lesser : Bool) → lesser ≡ ltb n (opposite v n) → lesser ≡ false → HasLoaded v base (n + 1) r l
    load_passed lesser is fails =
        let off : ltb n (opposite v n) ≡ false = sym is ∙ fails in
        let here : IsCopiedIn r.space r.margin base n (padded r.space) (λ p. p) (λ p. loaded_place r.space v n p) l.slots l.slots =
        record { here = λ p known. rw off refl; elsewhere = λ k p other known. refl } in
        next_copied base (padded r.space) (λ k p. p) (λ k p. loaded_place r.space v k p) r n l l before refl here (λ k p below known. known) loaded_below

  module _ (laws : IsVelocitySet v) (fits : v.dimension ≡ r.space.dimension) (dir : n < v.directions) (before : HasStored v base n r l) where
    met_known : (k x : ℕ) → k < n → x < cells r.space → stand r.space (met_place r.space v k x) < padded r.space
    met_known k x below here = stand_below r.space space (met_place r.space v k x) (met_place_below r.space space v laws fits k x (omega arith) here)

    pub store_more : (new : Arrays) (lesser : Bool) → lesser ≡ ltb n (opposite v n) → lesser ≡ true → IsStored l.space l.margin n base (offset l.space (velocity v n)) l.slots new.slots → new ≡ record l { slots = new.slots } → HasStored v base (n + 1) r new
    store_more new lesser is holds stored same =
        let on : ltb n (opposite v n) ≡ true = sym is ∙ holds in
        let one = stored_in r l new base n v laws fits dir space room before.same stored in
        let here : IsCopiedIn r.space r.margin base n (cells r.space) (λ x. stand r.space (met_place r.space v n x)) (λ x. met_place r.space v n x) l.slots new.slots =
        record { here = λ x known. rw on (one.here x known); elsewhere = one.elsewhere } in
        next_copied base (cells r.space) (λ k x. stand r.space (met_place r.space v k x)) (λ k x. met_place r.space v k x) r n l new before same here met_known (λ x here'. met_place_below r.space space v laws fits n x dir here')

    pub store_passed : (lesser : Bool) → lesser ≡ ltb n (opposite v n) → lesser ≡ false → HasStored v base (n + 1) r l
    store_passed lesser is fails =
        let off : ltb n (opposite v n) ≡ false = sym is ∙ fails in
        let here : IsCopiedIn r.space r.margin base n (cells r.space) (λ x. stand r.space (met_place r.space v n x)) (λ x. met_place r.space v n x) l.slots l.slots =
        record { here = λ x known. rw off (ap (λ p. held l.slots (place_slot r.space r.margin n base p)) (stand-interior r.space space (padded_index r.space x) (interior_index r.space space x known))); elsewhere = λ k p other known. refl } in
        next_copied base (cells r.space) (λ k x. stand r.space (met_place r.space v k x)) (λ k x. met_place r.space v k x) r n l l before refl here met_known (λ x here'. met_place_below r.space space v laws fits n x dir here')
