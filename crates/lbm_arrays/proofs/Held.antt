-- The slots of a run of a loan's range, as its struct holds them.
use Rattle.std.proofs.Common.{◌≡◌, ℕ, ◌+◌, ◌<◌, ◌≤◌, Bool, true, false, List, [], length, get_or, take, ℤ, pos, sym, ap, subst, ◌∙◌, arith}
use denote.RawPtr.{Ptr}
use Rattle.lbm_patch.specs.Masks.{mask}
use Rattle.lbm_arrays.specs.Lent.{Lent, IsRun}
use Rattle.lbm_arrays.specs.Ranges.{ranges, over, with_run, IsApart}
use Rattle.lbm_arrays.proofs.Ranges.{run_held, run_over, run_read}

module _ (start : Ptr) (fs : List ℕ) (lo hi n : ℕ) (rows : ℕ × ℕ) (xs : List ℤ) (lent : Lent) (is : record { rows = rows; place = record { start = start; count = n; firsts = fs; lo = lo; hi = hi }; ranges = ranges fs lo hi xs } ≡ lent)
    (apart : IsApart fs hi n) (whole : length xs ≡ n) (begin count k at : ℕ) (run : IsRun lent begin k at count) where
  abbrev slot : ℕ
  slot = begin + at

  held_ranges : ranges fs lo hi xs ≡ lent.ranges
  held_ranges = ap (λ (l : Lent). l.ranges) is

  held_slot : get_or fs k 0 + lo + at ≡ slot
  held_slot =
      let firsts : get_or fs k 0 ≡ get_or lent.place.firsts k 0 = ap (λ (l : Lent). get_or l.place.firsts k 0) is in
      let low : lo ≡ lent.place.lo = ap (λ (l : Lent). l.place.lo) is in let here = run.begins in omega (arith, firsts, low, here)

  pub held_run : (ms : List Bool) → ms ≡ mask fs lo hi n → (j : ℕ) → j < count → (slot + j < n) × (get_or ms (slot + j) false ≡ true)
  held_run ms e j below = subst (λ (s : ℕ). (s + j < n) × (get_or ms (s + j) false ≡ true)) held_slot (run_held fs lo hi n xs lent.ranges k at count apart whole held_ranges run.known run.fits ms e j below)

  pub held_read : (j : ℕ) → j < count → get_or xs (slot + j) (pos 0) ≡ get_or (get_or lent.ranges k []) (at + j) (pos 0)
  held_read j below = ap (λ (s : ℕ). get_or xs (s + j) (pos 0)) (sym held_slot) ∙ run_read fs lo hi n xs lent.ranges k at count apart whole held_ranges run.known run.fits (pos 0) j below

  pub held_over : (vs : List ℤ) → 0 < count → count ≤ length vs → ranges fs lo hi (over xs slot (take count vs)) ≡ with_run lent.ranges k at (take count vs)
  held_over vs some long = ap (λ (s : ℕ). ranges fs lo hi (over xs s (take count vs))) (sym held_slot) ∙ run_over fs lo hi n xs lent.ranges k at count apart whole held_ranges run.known run.fits vs (pos 0) some long
