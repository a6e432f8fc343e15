-- The least number that passes a test is the first that fails its opposite.
use Rattle.std.proofs.Common.{◌≡◌, ℕ, zero, suc, ◌+◌, ◌<◌, ◌≤◌, Bool, true, false, Option, Some, None, refl, sym, ap, ◌∙◌, arith, inl, inr, subst}
use Rattle.std.specs.Prelude.{not, if◌then◌else◌}
use Rattle.std.proofs.lemmas.Bool.{cases_lt}
use Rattle.lbm_walk.specs.First.{IsFirst}
use Rattle.lbm_walk.proofs.Firsts.{first_none, first_later, first_earlier}
use Rattle.lbm_lanes.specs.Lanes.{found_or, least_passing}

one : (n : ℕ) (t : ℕ → Bool) → IsFirst (λ j. not (t j)) n (n + 1) (if t n then Some n else None)
one n t = by_cases (t n) refl
  where
    by_cases : (b : Bool) → t n ≡ b → IsFirst (λ j. not (t j)) n (n + 1) (if b then Some n else None)
    by_cases true is = record {
      failed = λ k e. let here : n ≡ k = cc in (omega (arith, here), omega (arith, here), rw (← here, is) refl);
      passed = λ k low below. absurd (omega (arith, low, below));
    }
    by_cases false is = record {
      failed = λ k e. cc;
      passed = λ k low below. let here : k ≡ n = omega (arith, low, below) in rw (here, is) refl;
    }

more : (n : ℕ) (t : ℕ → Bool) (o : Option ℕ) → IsFirst (λ j. not (t j)) 0 n o → IsFirst (λ j. not (t j)) 0 (n + 1) (found_or o (t n) n)
more n t (Some k) is = first_earlier (λ j. not (t j)) 0 n (n + 1) k (omega arith) is
more n t None is = first_later (λ j. not (t j)) 0 n (n + 1) (if t n then Some n else None) (omega arith) is (one n t)

pub first_least : (n : ℕ) (t : ℕ → Bool) → IsFirst (λ j. not (t j)) 0 n (least_passing n t)
first_least zero t = first_none (λ j. not (t j)) 0
first_least (suc n) t = let next : n + 1 ≡ suc n = omega arith in subst (λ (m : ℕ). IsFirst (λ j. not (t j)) 0 m (found_or (least_passing n t) (t n) n)) next (more n t (least_passing n t) (first_least n t))

-- numbers that all pass may be left out
pub first_within : (test other : ℕ → Bool) (n m : ℕ) (r : Option ℕ) → n ≤ m → ((k : ℕ) → k < n → test k ≡ other k) → ((k : ℕ) → n ≤ k → k < m → test k ≡ true) → IsFirst test 0 m r → IsFirst other 0 n r
first_within test other n m None few same pass is = record {
  failed = λ k e. cc;
  passed = λ k low below. sym (same k below) ∙ is.passed k low (omega (arith, below, few));
}
first_within test other n m (Some x) few same pass is =
    let fails = is.failed x refl in
    let within : x < n = elim (cases_lt x n) [
      | inl front ↦ front
      | inr back ↦ absurd (let passes : test x ≡ true = pass x back fails.1 in let fail : test x ≡ false = fails.2 in cc)
    ] in
    record {
      failed = λ k e. let here : x ≡ k = cc in (omega arith, omega (arith, here, within), sym (same k (omega (arith, here, within))) ∙ ap test (sym here) ∙ fails.2);
      passed = λ k low below. sym (same k (omega (arith, below, within))) ∙ is.passed k low below;
    }
