-- The mask of the first lanes.
use Rattle.std.proofs.Common.{◌≡◌, ℕ, zero, suc, ◌-◌, ◌/◌, ◌^◌, ◌<◌, ◌≤◌, refl, ap, sym, ◌∙◌, arith, inl, inr}
use Rattle.std.specs.Prelude.{nat_lt, ◌==◌}
use Rattle.std.proofs.lemmas.Bool.{cases_lt, lt-ltb, le-ltb}
use Rattle.std.proofs.lemmas.Nat.Bits.{bit_at_ones, bit_at_ones_above}
use Rattle.lbm_lanes.specs.Lanes.{has}

ones : (n : ℕ) → 1 ≤ n → n ≤ 8 → (255 / 2 ^ (8 - n) ≡ 2 ^ n - 1) × (255 / 2 ^ (8 - n) < 256)
ones zero some few = absurd (omega (arith, some))
ones (suc zero) some few = (refl, omega arith)
ones (suc (suc zero)) some few = (refl, omega arith)
ones (suc (suc (suc zero))) some few = (refl, omega arith)
ones (suc (suc (suc (suc zero)))) some few = (refl, omega arith)
ones (suc (suc (suc (suc (suc zero))))) some few = (refl, omega arith)
ones (suc (suc (suc (suc (suc (suc zero)))))) some few = (refl, omega arith)
ones (suc (suc (suc (suc (suc (suc (suc zero))))))) some few = (refl, omega arith)
ones (suc (suc (suc (suc (suc (suc (suc (suc zero)))))))) some few = (refl, omega arith)
ones (suc (suc (suc (suc (suc (suc (suc (suc (suc n))))))))) some few = absurd (omega (arith, few))

pub first_lanes : (n j : ℕ) → 1 ≤ n → n ≤ 8 → has (255 / 2 ^ (8 - n)) j ≡ nat_lt j n
first_lanes n j some few = ap (λ (m : ℕ). has m j) (ones n some few).0 ∙ elim (cases_lt j n) [
  | inl within ↦ ap (λ (b : ℕ). b == 1) (bit_at_ones n j within) ∙ sym (lt-ltb j n within)
  | inr beyond ↦ ap (λ (b : ℕ). b == 1) (bit_at_ones_above n j beyond) ∙ sym (le-ltb j n beyond)
]

pub first_lanes_fit : (n : ℕ) → 1 ≤ n → n ≤ 8 → 255 / 2 ^ (8 - n) < 256
first_lanes_fit n some few = (ones n some few).1
