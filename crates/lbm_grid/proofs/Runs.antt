-- What cells take is one run of the range where none of them is in the strip.
use Rattle.std.proofs.Common.{◌≡◌, ◌⊎◌, ℕ, ◌+◌, ◌-◌, ◌<◌, ◌≤◌, Bool, true, false, ◌&&◌, nat_le, nat_lt, List, [], ℤ, length, refl, sym, ap, subst, ◌∙◌, inl, inr, arith}
use Rattle.std.specs.Prelude.{slice_index_or}
use Rattle.std.proofs.lemmas.Bool.{and_parts, leb-true, ltb-true, or_cases}
use Rattle.lbm_arrays.specs.Lent.{Lent, first_slot, IsRun}
use Rattle.lbm_cell.specs.Rows.{entry}
use Rattle.lbm_sweep.specs.Held.{width, IsWithin}
use Rattle.lbm_grid.specs.declared.reading.Reading.{Reading}
use Rattle.lbm_grid.specs.Near.{read_place, reading_at, seen, AreBetween, AreThere, is_outside, IsRead, IsThere}
use Rattle.lbm_grid.proofs.Seen.{seen_off}

-- places that follow are read from places that follow
read_on : (rises : Bool) (far at j : ℕ) → (rises ≡ false → far ≤ at) → read_place rises far (at + j) ≡ read_place rises far at + j
read_on true far at j low = omega arith
read_on false far at j low = let le = low refl in omega (arith, le)

-- none of these cells is in the strip
abbrev pub AreOff : Reading → (at n : ℕ) → Type 0
AreOff r at n = (j : ℕ) → j < n → (at + j < r.first) ⊎ (r.past ≤ at + j)

pub all_off : (r : Reading) (at n : ℕ) → (at + n ≤ r.first) ⊎ (r.past ≤ at) → AreOff r at n
all_off r at n off j lane = elim off [ inl low ↦ inl (omega (arith, low, lane)) | inr high ↦ inr (omega (arith, high)) ]

-- nor are those in any that are outside of all strips
pub outside_off : (q least most : ℕ) (readings : List Reading) (k at n : ℕ) → AreBetween q least most readings → k < q → is_outside least most at n ≡ true → AreOff (reading_at readings k) at n
outside_off q least most readings k at n strips known outside j lane = elim (or_cases (nat_le most at) (nat_lt at least && nat_le n (least - at)) outside) [
  | inl past ↦ inr (let high = strips.high k known in let most_at = leb-true most at past in omega (arith, high, most_at))
  | inr before ↦
      inl (let low = strips.low k known in let both = and_parts (nat_lt at least) (nat_le n (least - at)) before in let left = leb-true n (least - at) both.1 in let begun = ltb-true at least both.0 in omega (arith, low, left, begun, lane))
]

module _ (rises : Bool) (saved : List ℤ) (lent : Lent) (first k : ℕ) (r : Reading) (at n : ℕ) (is : IsRead rises (length saved) lent first k r at n) (some : 1 ≤ n) (off_at : AreOff r at n) where
  pub read_low : rises ≡ false → r.far ≤ at
  read_low falls = let low = (is.there 0 (omega (arith, some))).low (off_at 0 (omega (arith, some))) falls in omega (arith, low)

  pub read_run : IsRun lent first k (read_place rises r.far at) n
  read_run =
      let last = (is.there (n - 1) (omega (arith, some))).lent (off_at (n - 1) (omega (arith, some))) in
      let on = read_on rises r.far at (n - 1) read_low in
      record { known = is.known; begins = is.begins; fits = omega (arith, last, on, some) }

  pub read_few : read_place rises r.far at < 4194304
  read_few = let run = read_run.fits in let few = is.few in omega (arith, run, few, some)

  pub seen_run : (j : ℕ) → j < n → seen rises saved lent.ranges k r (at + j) ≡ entry lent.ranges k (read_place rises r.far at + j)
  seen_run j lane = seen_off rises saved lent.ranges k r (at + j) (off_at j lane) ∙ ap (entry lent.ranges k) (read_on rises r.far at j read_low)

-- and for one cell of some
pub read_one : (rises : Bool) (saved : ℕ) (lent : Lent) (first k : ℕ) (r : Reading) (at n j : ℕ) → IsRead rises saved lent first k r at n → j < n → IsRead rises saved lent first k r (at + j) 1
read_one rises saved lent first k r at n j is lane = record {
  known = is.known;
  begins = is.begins;
  few = is.few;
  inside = let inside = is.inside in omega (arith, inside, lane);
  there = λ i one. let same : at + j ≡ at + j + i = omega (arith, one) in subst (IsThere rises saved (length (slice_index_or lent.ranges k [])) r) same (is.there j lane);
}

-- the cells at a holder's places are read so
pub read_within : (rises : Bool) (q saved : ℕ) (lent : Lent) (readings : List Reading) (first k at n : ℕ) → IsWithin q lent.ranges at n → AreThere rises q saved (width lent.ranges) readings → k < q → first ≡ first_slot lent.place k → IsRead rises saved lent first k (reading_at readings k) at n
read_within rises q saved lent readings first k at n within are known begins =
    let count = within.sized.count in let long = within.sized.lengths k known in let few = are.few in let fits = within.fits in let inner = within.inner in
    record {
      known = omega (arith, count, known);
      begins = begins;
      few = omega (arith, long, few);
      inside = omega (arith, fits, few);
      there = λ j lane. subst (λ (len : ℕ). IsThere rises saved len (reading_at readings k) (at + j)) (sym long) (are.there k (at + j) known (omega (arith, inner)) (omega (arith, fits, lane)));
    }
