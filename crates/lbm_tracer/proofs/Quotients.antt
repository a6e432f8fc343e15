-- A quotient by what is left.
use Rattle.std.proofs.Common.{◌≡◌, ℕ, suc, ◌+◌, ◌-◌, ◌*◌, ◌/◌, ◌≤◌, ℤ, pos, negsuc, ◌-ℤ◌, ◌*ℤ◌, ◌≤ℤ◌, ◌<ℤ◌, ap, arith, ◌∙◌}
use Rattle.std.proofs.lemmas.Int.{ints}
use Rattle.std.proofs.lemmas.Nat.{div-mul-add}
use Rattle.lbm_cell.specs.Collision.{floor_div}

-- where q times d is taken from a, and r below d is left
pub floor_is : (a d q r : ℤ) → pos 0 ≤ℤ r → r <ℤ d → a -ℤ q *ℤ d ≡ r → floor_div a d ≡ q
floor_is (pos a) (pos d) (pos q) (pos r) above below is =
    let whole : a ≡ q * d + r = omega (arith, ints, is) in ap (λ (x : ℕ). pos (x / d)) whole ∙ ap pos (div-mul-add q d r (omega (arith, ints, below)))
floor_is (pos a) (pos d) (negsuc q) (pos r) above below is = absurd (let some : d ≤ suc q * d = omega arith in omega (arith, ints, is, below))
floor_is (negsuc a) (pos d) (pos q) (pos r) above below is = absurd (omega (arith, ints, is))
floor_is (negsuc a) (pos d) (negsuc q) (pos r) above below is =
    let whole : a ≡ q * d + (d - 1 - r) = omega (arith, ints, is, below) in ap (λ (x : ℕ). negsuc (x / d)) whole ∙ ap negsuc (div-mul-add q d (d - 1 - r) (omega (arith, ints, below)))
floor_is a (negsuc d) q r above below is = absurd (omega (arith, ints, above, below))
floor_is a d q (negsuc r) above below is = absurd (omega (arith, ints, above))
