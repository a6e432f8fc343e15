-- From what each slab's ranges exchange to the slots of the whole region: an exchange is a collision at which each cell sends what it has.
use Rattle.std.proofs.Common.{◌≡◌, ℕ, ℤ, ◌*◌, ◌<◌, Bool, true, List, length, slice_index, Option, Some, None, refl, sym, ap, ◌∙◌, subst, arith}
use Rattle.lbm_space.specs.Stencil.{Stencil, opposite}
use Rattle.lbm_space.specs.Torus.{Torus, cells, rows as row_count}
use Rattle.lbm_space.specs.Cuttings.{slabs_of, first_row, end_row, rows_of, IsCutting}
use Rattle.lbm_model.specs.Case.{FlowCase, IsCase}
use Rattle.lbm_arrays.specs.Arrays.{array_size, held}
use Rattle.lbm_arrays.specs.LentRanges.{IsLent, lent, slab_rows, AreInside, AreLent, IsForked}
use Rattle.lbm_arrays.specs.declared.steps.Step.TheVariants.{Exchange}
use Rattle.lbm_arrays.specs.Steps.{step_shifts}
use Rattle.lbm_walk.specs.First.{IsFirst}
use Rattle.lbm_sweep.specs.Sweep.{IsCollided}
use Rattle.lbm_cell.specs.Rows.{entry}
use Rattle.lbm_sweep.specs.Blocks.{IsTable}
use Rattle.lbm_walk.specs.Places.{local}
use Rattle.lbm_sweep.specs.Slabs.{Ranges, IsSlab, InColumns}
use Rattle.lbm_sweep.specs.Regions.{range_slot, HasSlot, InEachSlab}
use Rattle.lbm_sweep.proofs.Regions.{slot_entry, slab_is, region_collided}
use Rattle.lbm_sweep.proofs.OwnPlaces.{slot_touched}
use Rattle.lbm_swap.specs.Exchange.{IsPaired, IsReady, IsExchangedIn, AreExchanged, met_slot}
use Rattle.lbm_swap.proofs.Places.{touched-met}

-- every cell is sound, and sends what it has taken from its own places
abbrev sound : ℕ → (ℕ → ℤ) → Bool
sound x f = true

abbrev sends : ℕ → (ℕ → ℤ) → ℕ → ℤ
sends x f i = f i

abbrev own : Torus → ℕ × ℕ → Ranges → ℕ → ℕ → ℤ
own t rows ranges x i = entry ranges i (local t rows x)

never : (from to : ℕ) (answer : Option ℕ) → IsFirst (λ x. true) from to answer → answer ≡ None
never from to None first = refl
never from to (Some k) first = absurd (let wrong = (first.failed k refl).2 in cc)

columns : (t : Torus) (q : ℕ) (partners : List ℕ) → IsPaired q partners → (rows : ℕ × ℕ) (from to : ℕ) (old new : Ranges) → IsExchangedIn t q partners rows from to old new → InColumns sound sends q (own t) partners t rows from to old new None
columns t q partners paired rows from to old new done = λ taken same. record {
  first = record { failed = λ k e. absurd cc; passed = λ k low high. refl };
  swept = λ e. record {
    written = λ x i low high known. done.exchanged x (slice_index partners i) low high (paired.known i known) ∙ ap (λ (k : ℕ). entry old k (local t rows x)) (paired.twice i known) ∙ same x i low high known;
    others = λ s off. done.others s.0 s.1 off;
  };
}

module _ (case : FlowCase) (allowed : IsCase case) (partners : List ℕ) (table : IsTable case.stencil.directions partners) (opposites : (i : ℕ) → i < case.stencil.directions → slice_index partners i ≡ opposite case.stencil i) where
  abbrev t : Torus
  t = case.torus

  abbrev v : Stencil
  v = case.stencil

  abbrev q : ℕ
  q = case.stencil.directions

  abbrev shifts : List ℤ
  shifts = step_shifts case.torus case.stencil Exchange 1

  pub paired : IsPaired q partners
  paired = record {
    known = table.known;
    twice = λ k known. ap (slice_index partners) (opposites k known) ∙ opposites (opposite v k) (allowed.set.opposite_exists k known) ∙ allowed.set.opposite_twice k known;
  }

  pub slab_ready : (inside : AreInside t 2 shifts) (count : length shifts ≡ q) (bounds : List ℕ) → IsCutting bounds → rows_of bounds ≡ row_count t → (xs : List ℤ) → length xs ≡ q * array_size t 2
      → (j : ℕ) → j < slabs_of bounds → IsReady t partners (slab_rows bounds j) (lent t 2 shifts (slab_rows bounds j) xs)
  slab_ready inside count bounds cutting fits xs whole j known =
      let many = table.count in record {
        space = allowed.space;
        few = let few = allowed.set.few_directions in omega (arith, many, few);
        paired = subst (λ (n : ℕ). IsPaired n partners) (sym many) paired;
        slab = subst (λ (n : ℕ). IsSlab t n (slab_rows bounds j) (lent t 2 shifts (slab_rows bounds j) xs)) (sym many) (slab_is t allowed.space 2 shifts inside q count bounds cutting fits xs whole j known);
      }

  -- the slot of a cell in a lent range is where it exchanges
  pub slot_met : (k x : ℕ) → k < q → x < cells t → range_slot t 2 shifts k x ≡ met_slot case k x
  slot_met k x known here =
      slot_touched t allowed.space v allowed.set (sym allowed.dimension) Exchange 1 2 (omega arith, omega arith) k x known here ∙ touched-met t allowed.space v allowed.set (sym allowed.dimension) k x known here

  pub region_exchanged : (inside : AreInside t 2 shifts) (count : length shifts ≡ q) (bounds : List ℕ) → IsCutting bounds → rows_of bounds ≡ row_count t → (xs ys : List ℤ) (answer : Option ℕ)
      → length xs ≡ q * array_size t 2 → length ys ≡ q * array_size t 2 → AreLent t 2 shifts bounds
      → IsForked (λ piece rows old result new. (result ≡ None) × IsExchangedIn t q partners rows (rows.0 * t.nx) (rows.1 * t.nx) old new) t 2 shifts bounds xs ys answer
      → ((s : ℕ) → ((k : ℕ) → k < length shifts → IsLent t 2 shifts k 0 (row_count t) s → ⊥) → held ys s ≡ held xs s)
      → AreExchanged case xs ys
  region_exchanged inside count bounds cutting fits xs ys answer whole_xs whole_ys lents did others = record {
    exchanged = λ x k here known.
        let o : ℕ = opposite v k in let known_o : o < q = allowed.set.opposite_exists k known in
        let back : slice_index partners o ≡ k = opposites o known_o ∙ allowed.set.opposite_twice k known in
        ap (held ys) (sym (slot_met k x known here)) ∙ ap (λ (d : ℕ). held ys (range_slot t 2 shifts d x)) (sym back) ∙ (all.swept none).written x o (omega arith) here known_o ∙ ap (held xs) (slot_met o x known_o here);
    others = λ s off. (all.swept none).others s (λ x low high owner. off x owner.0 high owner.1 (sym (slot_met owner.0 x owner.1 high) ∙ owner.2));
  }
    where
      before : ℕ → ℕ → ℤ
      before x i = held xs (range_slot t 2 shifts i x)

      read : InEachSlab t 2 shifts bounds xs (λ rows ranges cell. (i : ℕ) → i < q → own t rows ranges cell i ≡ before cell i)
      read j cell known here i less =
          let slab = slab_is t allowed.space 2 shifts inside q count bounds cutting fits xs whole_xs j known in let some = slab.some in
          slot_entry t allowed.space 2 shifts inside q count (first_row bounds j) (end_row bounds j) (omega (arith, some)) slab.inside xs whole_xs i cell less here

      forked : IsForked (λ piece rows old result new. InColumns sound sends q (own t) partners t rows (rows.0 * t.nx) (rows.1 * t.nx) old new result) t 2 shifts bounds xs ys answer
      forked = record {
        answers = did.answers;
        count = did.count;
        done = λ j known.
            let one = did.done j known in let rows : ℕ × ℕ = (first_row bounds j, end_row bounds j) in
            subst (λ (r : Option ℕ). InColumns sound sends q (own t) partners t rows (rows.0 * t.nx) (rows.1 * t.nx) (lent t 2 shifts rows xs) (lent t 2 shifts rows ys) r) (sym one.0)
            (columns t q partners paired rows (rows.0 * t.nx) (rows.1 * t.nx) (lent t 2 shifts rows xs) (lent t 2 shifts rows ys) one.1);
        is_least = did.is_least;
      }

      all : IsCollided sound sends q before (λ cell i. range_slot t 2 shifts (slice_index partners i) cell) (HasSlot t 2 shifts q) 0 (cells t) (held xs) (held ys) answer
      all = region_collided t allowed.space 2 shifts inside q count bounds cutting fits sound sends (own t) partners before xs ys answer table whole_xs whole_ys lents read forked others

      none : answer ≡ None
      none = never 0 (cells t) answer all.first
