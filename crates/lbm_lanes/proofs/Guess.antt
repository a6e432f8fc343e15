-- A quotient that is guessed with a reciprocal is right or one below.
use Rattle.std.proofs.Common.{◌≡◌, ℕ, ◌+◌, ◌-◌, ◌*◌, ◌/◌, ◌<◌, ◌≤◌, ap, arith, inl, inr, ◌∙◌}
use Rattle.std.proofs.lemmas.Bool.{cases_lt}
use Rattle.std.proofs.lemmas.Nat.{div-mul-add}
use Rattle.std.proofs.Math.Nat.{mul-le-mul_left, mul-le-mul_right, lt-div-mul-add, div-mul-le_self}

-- the quotient is the number whose multiple is the last at most n
pub quotient_is : (n d g : ℕ) → g * d ≤ n → n < (g + 1) * d → n / d ≡ g
quotient_is n d g low high =
    let rest : n ≡ g * d + (n - g * d) = omega (arith, low) in
    ap (λ (k : ℕ). k / d) rest ∙ div-mul-add g d (n - g * d) (omega (arith, low, high))

-- what is known of a divisor d, of its reciprocal m to the scale p t, and of a dividend n, whose last digits p cuts off
pub record IsGuess (n d m p t : ℕ) : Type 0 where
  pub divides : 0 < d
  pub cuts : 0 < p
  pub scales : 0 < t
  pub reciprocal : m ≡ (p * t) / d
  pub near : n / p * d + p * t ≤ d * t

abbrev pub guess : (n m p t : ℕ) → ℕ
guess n m p t = n / p * m / t

module _ (n d m p t : ℕ) (is : IsGuess n d m p t) where
  above : m * d ≤ p * t
  above = rw is.reciprocal (div-mul-le_self (p * t) d)

  below : p * t < m * d + d
  below = rw is.reciprocal (lt-div-mul-add is.divides)

  cut_low : n / p * p ≤ n
  cut_low = div-mul-le_self n p

  cut_high : n < n / p * p + p
  cut_high = lt-div-mul-add is.cuts

  scaled_low : guess n m p t * t ≤ n / p * m
  scaled_low = div-mul-le_self (n / p * m) t

  scaled_high : n / p * m < guess n m p t * t + t
  scaled_high = lt-div-mul-add is.scales

  pub guess_low : guess n m p t * d ≤ n
  guess_low = elim (cases_lt n (guess n m p t * d)) [
    | inr fine ↦ fine
    | inl over ↦ (
        let one : guess n m p t * t * d ≤ n / p * m * d = mul-le-mul_right d scaled_low in
        let two : n / p * (m * d) ≤ n / p * (p * t) = mul-le-mul_left (n / p) above in
        let three : n / p * p * t ≤ n * t = mul-le-mul_right t cut_low in
        let four : (n + 1) * t ≤ guess n m p t * d * t = mul-le-mul_right t (omega (arith, over)) in
        absurd (omega (arith, is.scales, one, two, three, four)))
  ]

  pub guess_high : n < (guess n m p t + 2) * d
  guess_high = elim (cases_lt n ((guess n m p t + 2) * d)) [
    | inl fine ↦ fine
    | inr under ↦ (
        let one : (n / p * m + 1) * d ≤ (guess n m p t * t + t) * d = mul-le-mul_right d (omega (arith, scaled_high)) in
        let two : n / p * (p * t) ≤ n / p * (m * d + d) = mul-le-mul_left (n / p) (omega (arith, below)) in
        let three : (n + 1) * t ≤ (n / p * p + p) * t = mul-le-mul_right t (omega (arith, cut_high)) in
        let four : (guess n m p t + 2) * d * t ≤ n * t = mul-le-mul_right t under in
        absurd (omega (arith, is.scales, is.near, is.divides, one, two, three, four)))
  ]

-- what is left
pub left_below : (n d g p rest : ℕ) → p ≡ g * d → rest ≡ n - p → g * d ≤ n → n < (g + 2) * d → rest < 2 * d
left_below n d g p rest is_p is_rest low high = omega (arith, is_p, is_rest, low, high)

-- a guess that is set right: the sum of what is left and 2^61 - d has a bit of 2^61 where the guess is one below
pub corrected_is : (n d g p rest whole least raised bit : ℕ) → p ≡ g * d → rest ≡ n - p → whole ≡ 2305843009213693952 → least ≡ whole - d → raised ≡ rest + least → bit ≡ raised / 2305843009213693952 → d < 4294967296 → g * d ≤ n → n < (g + 2) * d → g + bit ≡ n / d
corrected_is n d g p rest whole least raised bit is_p is_rest is_whole is_least is_raised is_bit fits low high = elim (cases_lt rest d) [
  | inl smaller ↦ (
      let none : raised / 2305843009213693952 ≡ 0 = quotient_is raised 2305843009213693952 0 (omega arith) (omega (arith, is_whole, is_least, is_raised, fits, smaller)) in
      let right : n / d ≡ g = quotient_is n d g low (omega (arith, is_p, is_rest, smaller)) in
      omega (arith, is_bit, none, right))
  | inr past ↦ (
      let left = left_below n d g p rest is_p is_rest low high in
      let one : raised / 2305843009213693952 ≡ 1 = quotient_is raised 2305843009213693952 1 (omega (arith, is_whole, is_least, is_raised, fits, past)) (omega (arith, is_whole, is_least, is_raised, fits, left)) in
      let right : n / d ≡ g + 1 = quotient_is n d (g + 1) (omega (arith, is_p, is_rest, past, low)) (omega (arith, high)) in
      omega (arith, is_bit, one, right))
]

-- a guess by its steps
pub guess_is : (n m p t cut product g : ℕ) → cut ≡ n / p → product ≡ cut * m → g ≡ product / t → g ≡ guess n m p t
guess_is n m p t cut product g is_cut is_product is_g = is_g ∙ ap (λ (k : ℕ). k / t) (is_product ∙ ap (λ (k : ℕ). k * m) is_cut)

pub steps_low : (n d m p t cut product g : ℕ) → IsGuess n d m p t → cut ≡ n / p → product ≡ cut * m → g ≡ product / t → g * d ≤ n
steps_low n d m p t cut product g is is_cut is_product is_g = rw (guess_is n m p t cut product g is_cut is_product is_g) (guess_low n d m p t is)

pub steps_high : (n d m p t cut product g : ℕ) → IsGuess n d m p t → cut ≡ n / p → product ≡ cut * m → g ≡ product / t → n < (g + 2) * d
steps_high n d m p t cut product g is is_cut is_product is_g = rw (guess_is n m p t cut product g is_cut is_product is_g) (guess_high n d m p t is)
