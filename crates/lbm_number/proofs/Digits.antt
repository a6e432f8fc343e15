-- The number that digits write, one digit after another.
use Rattle.std.proofs.Common.{◌≡◌, ℕ, ◌+◌, ◌*◌, ◌<◌, ◌≤◌, List, [], ◌∷◌, ◌++◌, length, take, get_or, true, refl, arith, rules}
use Rattle.std.specs.Char.{digit_value, is_ascii_digit}
use Rattle.std.specs.List.{list_all}
use Rattle.std.specs.Str.Parse.{digits_value, digits_value_after}
use Rattle.std.proofs.lemmas.List.{take_more}
use Rattle.std.proofs.lemmas.List.Sums.{AllPass-from_list_all}
use Rattle.std.proofs.lemmas.Bool.Decides.{nat_tests}
use Rattle.std.proofs.lemmas.Str.Parse.{IsNumeralModel, numerals_by_value, digits_value_short, digits_value-take-le}

digits_value_after-append : (n : ℕ) (xs ys : List ℕ) → digits_value_after 10 n (xs ++ ys) ≡ digits_value_after 10 (digits_value_after 10 n xs) ys
digits_value_after-append n [] ys = refl
digits_value_after-append n (x ∷ xs) ys = digits_value_after-append (n * 10 + digit_value x) xs ys

-- one more digit
pub digits_value_more : (ds : List ℕ) (i d : ℕ) → i < length ds → digits_value 10 (take (i + 1) ds) ≡ digits_value 10 (take i ds) * 10 + digit_value (get_or ds i d)
digits_value_more ds i d within = rw (take_more ds i d within) (digits_value_after-append 0 (take i ds) (get_or ds i d ∷ []))

decimal : IsNumeralModel (λ ds. list_all is_ascii_digit ds ≡ true) (digits_value 10)
decimal = numerals_by_value _ (search rules)

-- the first of at most nine digits write a number below a thousand million
pub digits_value_small : (ds : List ℕ) (i : ℕ) → length ds ≤ 9 → list_all is_ascii_digit ds ≡ true → digits_value 10 (take i ds) < 1000000000
digits_value_small ds i few digits = omega (arith, digits_value_short decimal ds 9 digits few, digits_value-take-le 10 ds i (omega arith))

digit_is : (c : ℕ) → is_ascii_digit c ≡ true → digit_value c + 48 ≡ c
digit_is c digit = grind (arith, nat_tests)

-- a digit and its value
pub digit_at : (ds : List ℕ) (i d : ℕ) → list_all is_ascii_digit ds ≡ true → i < length ds → digit_value (get_or ds i d) + 48 ≡ get_or ds i d
digit_at ds i d digits within = digit_is _ (AllPass-from_list_all is_ascii_digit ds digits i d within)
