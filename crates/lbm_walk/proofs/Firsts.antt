-- The first number that fails a test, part by part.
use Rattle.std.proofs.Common.{◌≡◌, ℕ, ◌+◌, ◌-◌, ◌<◌, ◌≤◌, Bool, true, false, inl, inr, Option, Some, None, refl, sym, ◌∙◌, arith, subst}
use Rattle.std.proofs.lemmas.Bool.{cases_lt}
use Rattle.lbm_walk.specs.First.{IsFirst}

pub first_none : (test : ℕ → Bool) (a : ℕ) → IsFirst test a a None
first_none test a = record { failed = λ k e. cc; passed = λ k le lt. absurd (omega arith) }

-- the first part passes, so the answer is that of the second
pub first_later : (test : ℕ → Bool) (a b c : ℕ) (r : Option ℕ) → a ≤ b → IsFirst test a b None → IsFirst test b c r → IsFirst test a c r
first_later test a b c r le f g = record {
  failed = λ k e. let h = g.failed k e in (omega (arith, h.0), h.1, h.2);
  passed = λ k low high. elim (cases_lt k b) [ inl l ↦ f.passed k low l | inr h ↦ g.passed k h high ];
}

-- the first part fails, so its answer is that of both
pub first_earlier : (test : ℕ → Bool) (a b c x : ℕ) → b ≤ c → IsFirst test a b (Some x) → IsFirst test a c (Some x)
first_earlier test a b c x le f = record {
  failed = λ k e. let h = f.failed k e in (h.0, omega (arith, h.1), h.2);
  passed = f.passed;
}

-- another test that agrees
pub first_as : (test other : ℕ → Bool) (a b : ℕ) (r : Option ℕ) → ((k : ℕ) → a ≤ k → k < b → test k ≡ other k) → IsFirst test a b r → IsFirst other a b r
first_as test other a b None same f = record { failed = λ k e. cc; passed = λ k low high. sym (same k low high) ∙ f.passed k low high }
first_as test other a b (Some x) same f = record {
  failed = λ k e. let h = f.failed k e in (h.0, h.1, sym (same k h.0 h.1) ∙ h.2);
  passed = λ k low high. let h = f.failed x refl in sym (same k low (omega (arith, h.1))) ∙ f.passed k low high;
}

-- lanes, counted from the first cell of a block
pub first_lane_none : (test : ℕ → Bool) (cell n : ℕ) → IsFirst (λ j. test (cell + j)) 0 n None → IsFirst test cell (cell + n) None
first_lane_none test cell n f = record {
  failed = λ k e. cc;
  passed = λ k low high. let e : cell + (k - cell) ≡ k = omega arith in subst (λ (m : ℕ). test m ≡ true) e (f.passed (k - cell) (omega arith) (omega arith));
}

pub first_lane_some : (test : ℕ → Bool) (cell n j : ℕ) → IsFirst (λ i. test (cell + i)) 0 n (Some j) → IsFirst test cell (cell + n) (Some (cell + j))
first_lane_some test cell n j f = let h = f.failed j refl in record {
  failed = λ k e. let same : cell + j ≡ k = cc in subst (λ (m : ℕ). (cell ≤ m) × (m < cell + n) × (test m ≡ false)) same (omega arith, omega (arith, h.1), h.2);
  passed = λ k low high. let e : cell + (k - cell) ≡ k = omega arith in subst (λ (m : ℕ). test m ≡ true) e (f.passed (k - cell) (omega arith) (omega arith));
}
