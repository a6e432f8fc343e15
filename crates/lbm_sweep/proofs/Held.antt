-- Rows of cells that stand in the ranges of a loan.
use Rattle.std.proofs.Common.{◌≡◌, ◌≢◌, ℕ, ◌+◌, ◌-◌, ◌<◌, ◌≤◌, ℤ, pos, List, length, take, slice_index, sym, subst, ◌∙◌, arith}
use Rattle.std.specs.Prelude.{slice_index_or}
use Rattle.lbm_space.specs.Stencil.{Stencil, IsVelocitySet, opposite}
use Rattle.lbm_space.specs.Torus.{Torus, IsSpace}
use Rattle.lbm_space.specs.Padded.{row_start}
use Rattle.lbm_arrays.specs.Lent.{Lent, IsRun}
use Rattle.lbm_arrays.specs.Ranges.{with_run}
use Rattle.lbm_cell.specs.Rows.{entry}
use Rattle.lbm_sweep.specs.Blocks.{IsSized, IsTable}
use Rattle.lbm_sweep.specs.Held.{width, BeginAt, IsExchange, IsSameBut, IsWithin}
use Rattle.lbm_sweep.specs.Slabs.{IsSlab}
use Rattle.lbm_sweep.proofs.Places.{slab_wide}
use Rattle.lbm_sweep.proofs.Written.{run_sized, run_here, run_other, run_off}

module _ (q at n : ℕ) (lent : Lent) (is : IsWithin q lent.ranges at n) where
  -- the cells' places of a range
  pub run_in : (arrays slots : List ℕ) → IsTable q arrays → BeginAt q lent.place arrays slots → (i : ℕ) → i < q → IsRun lent (slice_index slots i) (slice_index arrays i) at n
  run_in arrays slots table begins i known =
      let here = table.known i known in let count = is.sized.count in let long = is.sized.lengths (slice_index arrays i) here in let fits = is.fits in
      record { known = omega arith; begins = begins i known; fits = omega arith }

  -- a loan after a row was put into array k
  pub record IsPut (k : ℕ) (lanes : List ℤ) (new : Lent) : Type 0 where
    pub here : (j : ℕ) → j < n → entry new.ranges k (at + j) ≡ slice_index_or lanes j (pos 0)
    pub other : (d p : ℕ) → d ≢ k → entry new.ranges d p ≡ entry lent.ranges d p
    pub but : IsSameBut at (at + n) lent new
    pub within : IsWithin q new.ranges at n

  pub put_in : (k : ℕ) (lanes : List ℤ) (new : Lent) → k < q → n ≤ length lanes → new.rows ≡ lent.rows → new.place ≡ lent.place → new.ranges ≡ with_run lent.ranges k at (take n lanes) → IsPut k lanes new
  put_in k lanes new known long rows place now_is =
      let fits = is.fits in let room : at + n ≤ width lent.ranges = omega arith in
      let sized : IsSized q (width lent.ranges) new.ranges = rw now_is (run_sized lent.ranges k at n q (width lent.ranges) lanes is.sized known room long) in
      let wide : width new.ranges ≡ width lent.ranges = sized.lengths 0 (omega (arith, known)) in
      record {
        here = λ j lane. rw now_is (run_here lent.ranges k at n q (width lent.ranges) lanes is.sized known room long j lane);
        other = λ d p ne. rw now_is (run_other lent.ranges k at n q (width lent.ranges) lanes is.sized known room long d p ne);
        but = record {
          rows = rows;
          place = place;
          wide = wide;
          sized = λ q' len s.
              let many = s.count in let count = is.sized.count in let same : q' ≡ q = omega arith in
              record { count = sized.count ∙ sym same; lengths = λ i below. let there : i < q = omega arith in sized.lengths i there ∙ sym (is.sized.lengths i there) ∙ s.lengths i below };
          others = λ d p off. rw now_is (run_off lent.ranges k at n q (width lent.ranges) lanes is.sized known room long d p off);
        };
        within = record {
          some = is.some;
          few = is.few;
          directions = is.directions;
          sized = rw wide sized;
          inner = is.inner;
          fits = rw wide is.fits;
        };
      }

  -- so it is after a store of a direction to the slots of its array
  pub stored_in : (arrays slots : List ℕ) (table : IsTable q arrays) → BeginAt q lent.place arrays slots → (dir : ℕ) → (known : dir < q) → (lanes : List ℤ) (new : Lent) → n ≤ length lanes → new.rows ≡ lent.rows → new.place ≡ lent.place
      → ((k : ℕ) → IsRun lent (slice_index slots dir) k at n → new.ranges ≡ with_run lent.ranges k at (take n lanes)) → IsPut (slice_index arrays dir) lanes new
  stored_in arrays slots table begins dir known lanes new long rows place ranges =
      let k : ℕ = slice_index arrays dir in put_in k lanes new (table.known dir known) long rows place (ranges k (run_in arrays slots table begins dir known))

-- cells' places are places as before where nothing has changed but there
pub within_but : (q at n : ℕ) (old new : Lent) → IsSameBut at (at + n) old new → IsWithin q old.ranges at n → IsWithin q new.ranges at n
within_but q at n old new but is = record {
  some = is.some;
  few = is.few;
  directions = is.directions;
  sized = rw but.wide (but.sized q (width old.ranges) is.sized);
  inner = is.inner;
  fits = rw but.wide is.fits;
}

-- what holds of a loan that a holder had holds of the loan that comes back
pub but_as : (from to : ℕ) (old new last : Lent) → last ≡ new → IsSameBut from to old new → IsSameBut from to old last
but_as from to old new last same but = subst (IsSameBut from to old) (sym same) but

pub lent_as : (old new last : Lent) → last ≡ new → new ≡ old → last ≡ old
lent_as old new last same is = same ∙ is

-- at first a holder stands at the first cell of its slab
pub within_slab : (t : Torus) (q : ℕ) (rows : ℕ × ℕ) (ranges : List (List ℤ)) → IsSpace t → 0 < q → q ≤ 27 → IsSlab t q rows ranges → IsWithin q ranges 1 1
within_slab t q rows ranges space some few slab =
    let wide : width ranges ≡ row_start t rows.1 - row_start t rows.0 = slab.sized.lengths 0 some in let long = slab_wide t space rows.0 rows.1 slab.some slab.inside in
    record { some = omega arith; few = omega arith; directions = few; sized = rw wide slab.sized; inner = omega arith; fits = omega (arith, wide, long) }

-- no two entries of a table are one
pub apart : (q : ℕ) (table : List ℕ) → IsTable q table → (i j : ℕ) → i < q → j < q → i ≢ j → slice_index table i ≢ slice_index table j
apart q table is i j known known' ne = λ same. ne (is.distinct i j known known' same)

-- cells that take each direction from its own array and put it into that of the opposite one
pub exchange_turned : (v : Stencil) → IsVelocitySet v → (reads writes : List ℕ) → IsTable v.directions reads → IsTable v.directions writes
    → ((i : ℕ) → i < v.directions → slice_index reads i ≡ i) → ((i : ℕ) → i < v.directions → slice_index writes i ≡ opposite v i) → IsExchange v reads writes
exchange_turned v laws reads writes taken put same turned = record {
  taken = taken;
  put = put;
  back = λ i known. turned i known ∙ sym (same (opposite v i) (laws.opposite_exists i known));
}

-- and cells that do the reverse
pub exchange_back : (v : Stencil) → IsVelocitySet v → (reads writes : List ℕ) → IsTable v.directions reads → IsTable v.directions writes
    → ((i : ℕ) → i < v.directions → slice_index reads i ≡ opposite v i) → ((i : ℕ) → i < v.directions → slice_index writes i ≡ i) → IsExchange v reads writes
exchange_back v laws reads writes taken put turned same = record {
  taken = taken;
  put = put;
  back = λ i known. same i known ∙ sym (turned (opposite v i) (laws.opposite_exists i known) ∙ laws.opposite_twice i known);
}
