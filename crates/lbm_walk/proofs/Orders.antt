-- What a walk has done, and what is left of it.
use Rattle.std.proofs.Common.{◌≡◌, ◌⊎◌, ℕ, ◌+◌, ◌<◌, ◌≤◌, Bool, true, false, inl, inr, refl, arith}
use Rattle.lbm_walk.specs.Orders.{done_from, done_to, next_from}
use Rattle.lbm_walk.specs.Walked.{IsPending}

pub done_none : (rises : Bool) (count : ℕ) → done_from rises count 0 ≡ done_to rises count 0
done_none true count = refl
done_none false count = omega arith

pub done_all : (rises : Bool) (count : ℕ) → (done_from rises count count ≡ 0) × (done_to rises count count ≡ count)
done_all true count = (refl, refl)
done_all false count = (omega arith, refl)

pub next_inside : (rises : Bool) (count done n : ℕ) → done + n ≤ count → next_from rises count done n + n ≤ count
next_inside true count done n fits = omega (arith, fits)
next_inside false count done n fits = omega (arith, fits)

pub done_inside : (rises : Bool) (count done : ℕ) → done ≤ count → done_to rises count done ≤ count
done_inside true count done fits = fits
done_inside false count done fits = omega arith

-- the next n are pending
pub pending_next : (rises : Bool) (at count done n next place j : ℕ) → done + n ≤ count → next ≡ next_from rises count done n → place ≡ at + next → j < n → IsPending rises (at + done_from rises count done) done (place + j)
pending_next true at count done n next place j fits is there lane = omega (arith, is, there)
pending_next false at count done n next place j fits is there lane = omega (arith, is, there, fits, lane)

-- what is pending behind them was pending before
pub pending_on : (rises : Bool) (at count done n p : ℕ) → done + n ≤ count → IsPending rises (at + done_from rises count (done + n)) (done + n) p
    → (IsPending rises (at + done_from rises count done) done p) × (IsPending rises (at + next_from rises count done n) n p)
pending_on true at count done n p fits is = (omega (arith, is), omega (arith, is))
pending_on false at count done n p fits is = (omega (arith, is, fits), omega (arith, is, fits))

-- what is pending behind all of them is pending
pub pending_out : (rises : Bool) (at count done p : ℕ) → done ≤ count → IsPending rises at count p → IsPending rises (at + done_from rises count done) done p
pending_out true at count done p fits is = omega (arith, is, fits)
pending_out false at count done p fits is = omega (arith, is)

pub pending_all : (rises : Bool) (at count p : ℕ) → IsPending rises at count p → IsPending rises (at + done_from rises count count) count p
pending_all rises at count p is = pending_out rises at count count p (omega arith) is

-- in a walk that falls, what stands before the next n is pending, and behind them too
pub pending_before : (rises : Bool) (at count done n next p : ℕ) → rises ≡ false → done + n ≤ count → next ≡ next_from rises count done n → p < at + next
    → (IsPending rises (at + done_from rises count done) done p) × (IsPending rises (at + next) n p)
pending_before true at count done n next p e fits is less = absurd cc
pending_before false at count done n next p e fits is less = (omega (arith, is, less, fits), less)

-- what lies beside all of them lies beside the next n
pub outside_next : (at count n next place p : ℕ) → next + n ≤ count → place ≡ at + next → (p < at) ⊎ (at + count ≤ p) → (p < place) ⊎ (place + n ≤ p)
outside_next at count n next place p fits there out = elim out [ inl low ↦ inl (omega (arith, low, there)) | inr high ↦ inr (omega (arith, high, there, fits)) ]

-- what is done lies beside the next n
pub done_beside : (rises : Bool) (count done n x : ℕ) → done + n ≤ count → done_from rises count done ≤ x → x < done_to rises count done
    → (x < next_from rises count done n) ⊎ (next_from rises count done n + n ≤ x)
done_beside true count done n x fits from to = inl to
done_beside false count done n x fits from to = inr (omega (arith, from, fits))
