-- A pair of directions of all lanes, on the way over the pairs.
use Rattle.std.proofs.Common.{◌≡◌, ◌≢◌, ℕ, ◌+◌, ◌*◌, ◌<◌, ◌≤◌, List, ℤ, pos, ◌+ℤ◌, ◌-ℤ◌, unsigned_abs, refl, ap, sym, arith, ◌∙◌, inl, inr, FitsSigned}
use Rattle.std.specs.Int.{w64}
use Rattle.lbm_lanes.proofs.Outcome.{sum_start}
use Rattle.std.proofs.lemmas.Int.{ints, fits_signed_from_abs}
use Rattle.std.proofs.lemmas.Bool.{cases_lt}
use Rattle.lbm_space.specs.Stencil.{Stencil, IsVelocitySet}
use Rattle.lbm_walk.specs.Turns.{turn, sum_before}
use Rattle.lbm_walk.proofs.Turns.{underway_none, underway_at, sum_none}
use Rattle.lbm_lanes.specs.Lanes.{entry}
use Rattle.lbm_lanes.specs.Progress.{IsProgress}

-- a turn at which nothing is put
pub progress_none : (v : Stencil) (n m : ℕ) (after h there sent : ℕ → ℕ → ℤ) (total : List ℤ) → IsVelocitySet v → ((i : ℕ) → i < v.directions → turn v i ≢ m) → IsProgress v n m after h there sent total → IsProgress v n (m + 1) after h there sent total
progress_none v n m after h there sent total laws none is = record {
  underway = underway_none v n after h laws m there sent none is.underway;
  past = is.past;
  total_is = λ l known. is.total_is l known ∙ sym (sum_none v (after l) laws m none);
  small = λ l known. omega (arith, is.small l known);
}

-- the same, where numbers are told in other words
pub progress_at : (v : Stencil) (n m m' : ℕ) (after h there sent : ℕ → ℕ → ℤ) (total : List ℤ) → m ≡ m' → IsProgress v n m after h there sent total → IsProgress v n m' after h there sent total
progress_at v n m m' after h there sent total same is = record {
  underway = underway_at v n n m m' after h there sent refl same is.underway;
  past = is.past;
  total_is = λ l known. is.total_is l known ∙ ap (λ (k : ℕ). sum_before v k (after l)) same;
  small = λ l known. omega (arith, is.small l known, same);
}

-- what a lane takes is what its cell had
pub taken_is : (n l : ℕ) (x there first : ℤ) → (l < n → x ≡ there) → (n ≤ l → x ≡ pos 0) → (l < n → there ≡ first) → (n ≤ l → first ≡ pos 0) → first ≡ x
taken_is n l x there first cell past left none = elim (cases_lt l n) [
  | inl within ↦ (sym (left within) ∙ sym (cell within))
  | inr beyond ↦ (none beyond ∙ sym (past beyond))
]

-- the total with a pair
pub total_next : (total both x y result t i o next : ℤ) → total ≡ t → both ≡ x +ℤ y → result ≡ total +ℤ both → x ≡ i → y ≡ o → next ≡ t +ℤ (i +ℤ o) → result ≡ next
total_next total both x y result t i o next is_t is_both is_result is_x is_y is_next = omega (arith, ints, is_t, is_both, is_result, is_x, is_y, is_next)

pub total_small : (m : ℕ) (total both x y result : ℤ) → both ≡ x +ℤ y → result ≡ total +ℤ both → unsigned_abs x ≤ 4294967296 → unsigned_abs y ≤ 4294967296 → unsigned_abs total ≤ m * 8589934592 → unsigned_abs result ≤ (m + 1) * 8589934592
total_small m total both x y result is_both is_result small_x small_y small = omega (arith, ints, is_both, is_result, small_x, small_y, small)

pub small_sum : (x y both : ℤ) → both ≡ x +ℤ y → unsigned_abs x ≤ 4294967296 → unsigned_abs y ≤ 4294967296 → unsigned_abs both ≤ 8589934592
small_sum x y both is small_x small_y = omega (arith, ints, is, small_x, small_y)

pub left_fits : (r : ℕ) (rho total left : ℤ) → rho ≡ pos r → left ≡ rho -ℤ total → r ≤ 1769472 → unsigned_abs total ≤ 27 * 8589934592 → FitsSigned w64 left
left_fits r rho total left is_rho is_left dense small = fits_signed_from_abs w64 left (omega (arith, ints, is_rho, is_left, dense, small))

-- the way begins
pub progress_start : (v : Stencil) (n : ℕ) (after h there sent : ℕ → ℕ → ℤ) (total : List ℤ) → ((k j : ℕ) → k < v.directions → j < n → there k j ≡ h j k) → ((k l : ℕ) → k < v.directions → n ≤ l → h l k ≡ pos 0) → ((l : ℕ) → l < 8 → entry total l ≡ pos 0) → IsProgress v n 0 after h there sent total
progress_start v n after h there sent total taken past none = record {
  underway = record {
    done = λ i j known cell early. absurd (omega (arith, early));
    left = λ i j known cell late. taken i j known cell;
  };
  past = past;
  total_is = λ l known. none l known ∙ sym (sum_start v (after l));
  small = λ l known. omega (arith, ints, none l known);
}
