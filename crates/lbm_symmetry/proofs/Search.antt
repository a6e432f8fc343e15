-- The least number below n that passes a test.
use Rattle.std.proofs.Common.{◌≡◌, ℕ, zero, suc, ◌+◌, ◌<◌, ◌≤◌, Bool, true, false, refl, inl, inr, ◌∙◌, ap, arith}
use Rattle.std.specs.Prelude.{Option, Some, None, find, unwrap_or}
use Rattle.std.specs.List.{range_with_len}
use Rattle.std.proofs.lemmas.Bool.{cases_Bool, cases_eq}
use Rattle.lbm_symmetry.specs.Motions.{first_below}

-- a search over n numbers from a on finds one that passes, if there is one
found_from : (test : ℕ → Bool) (a n x : ℕ) → a ≤ x → x < a + n → test x ≡ true →
    (k : ℕ) × (find test (range_with_len a n) ≡ Some k) × (test k ≡ true) × (k < a + n)
found_from test a zero x low high passed = absurd (omega arith)
found_from test a (suc n) x low high passed = elim (cases_Bool (test a)) [
  | inl here ↦ (a, rw here refl, here, omega arith)
  | inr failed ↦ elim (cases_eq a x) [
    | inl same ↦ absurd (let e : test a ≡ test x = ap test same in cc)
    | inr other ↦ (
        let rest = found_from test (a + 1) n x (omega arith) (omega arith) passed in
        (rest.0, rw failed rest.1, rest.2, omega (arith, rest.3)))
  ]
]

pub first_below-found : (n : ℕ) (test : ℕ → Bool) (x : ℕ) → x < n → test x ≡ true → (first_below n test < n) × (test (first_below n test) ≡ true)
first_below-found n test x below passed =
    let found = found_from test 0 n x (omega arith) (omega arith) passed in
    let is : first_below n test ≡ found.0 = ap (λ (o : Option ℕ). unwrap_or o 0) found.1 in
    (omega (arith, is, found.3), ap test is ∙ found.2)
