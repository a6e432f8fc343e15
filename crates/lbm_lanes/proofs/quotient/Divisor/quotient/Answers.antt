use Rattle.std.proofs.Common.{◌≡◌, ◌<◌, ◌*◌, ◌/◌, ◌^◌, ◌∙◌, ℕ, ap, arith}
use Rattle.std.specs.Prelude.{slice_index}
use Rattle.std.proofs.lemmas.Nat.{div_below}
use Rattle.lbm_lanes.proofs.Guess.{steps_low, steps_high}
use Rattle.lbm_lanes.proofs.Quotients.{divisor_guess, divisor_room}
use Rattle.lbm_lanes.proofs.quotient.Divisor.quotient.Goals as goal

-- the product by its factors
room : (x y a m : ℕ) → x ≡ a → y ≡ m → a * m < 72057594037927936 → x * y < 72057594037927936
room x y a m is_x is_y below = rw (is_x, is_y) below

scaled : (x y m : ℕ) (z : ℕ) → z ≡ x * y → y ≡ m → z ≡ x * m
scaled x y m z product is_y = product ∙ ap (λ (k : ℕ). x * k) is_y

quotient_same : (n d e : ℕ) → e ≡ d → n / e ≡ n / d
quotient_same n d e same = ap (λ (k : ℕ). n / k) same

pub product-requires-clause-room : goal.product-requires-clause-room
product-requires-clause-room c l known =
    let d = c.args.self.now in
    omega (
      arith,
      room (slice_index c.cut.result l) (slice_index c.all.result l) (slice_index c.args.n l / 2 ^ d.shift) d.reciprocal (c.cut.ensures l known) (c.all.ensures l known)
          (divisor_room (slice_index c.args.n l) d.d d.shift d.reciprocal c.requires.prepared (c.requires.small l known)),
    )

pub corrected-requires-clause-low : goal.corrected-requires-clause-low
corrected-requires-clause-low c l known =
    let d = c.args.self.now in let n = slice_index c.args.n l in
    rw (c.all-2.ensures l known) (steps_low n d.d d.reciprocal (2 ^ d.shift) 4294967296 (slice_index c.cut.result l) (slice_index c.product.result l) (slice_index c.cut-guess.result l)
    (divisor_guess n d.d d.shift d.reciprocal c.requires.prepared (c.requires.small l known)) (c.cut.ensures l known)
    (scaled (slice_index c.cut.result l) (slice_index c.all.result l) d.reciprocal (slice_index c.product.result l) (c.product.ensures l known) (c.all.ensures l known)) (c.cut-guess.ensures l known))

pub corrected-requires-clause-high : goal.corrected-requires-clause-high
corrected-requires-clause-high c l known =
    let d = c.args.self.now in let n = slice_index c.args.n l in
    rw (c.all-2.ensures l known) (steps_high n d.d d.reciprocal (2 ^ d.shift) 4294967296 (slice_index c.cut.result l) (slice_index c.product.result l) (slice_index c.cut-guess.result l)
    (divisor_guess n d.d d.shift d.reciprocal c.requires.prepared (c.requires.small l known)) (c.cut.ensures l known)
    (scaled (slice_index c.cut.result l) (slice_index c.all.result l) d.reciprocal (slice_index c.product.result l) (c.product.ensures l known) (c.all.ensures l known)) (c.cut-guess.ensures l known))

pub corrected-requires-clause-small : goal.corrected-requires-clause-small
corrected-requires-clause-small c l known =
    let d = c.args.self.now in
    let product : slice_index c.product.result l < 72057594037927936 = rw (c.product.ensures l known) (room (slice_index c.cut.result l) (slice_index c.all.result l) (slice_index c.args.n l / 2 ^ d.shift) d.reciprocal (c.cut.ensures l known) (c.all.ensures l known)
    (divisor_room (slice_index c.args.n l) d.d d.shift d.reciprocal c.requires.prepared (c.requires.small l known))) in
    let below : slice_index c.product.result l / 4294967296 < 16777216 = div_below _ 4294967296 16777216 (omega arith) (omega (arith, product)) in
    omega (arith, c.cut-guess.ensures l known, below)

pub returns-clause-size : goal.returns-clause-size
returns-clause-size c l known =
    let d = c.args.self.now.d in
    let below : slice_index c.args.n l / d < 16777216 = div_below (slice_index c.args.n l) d 16777216 (omega (arith, c.requires.small l known)) (omega (arith, c.requires.small l known)) in
    omega (arith, below, c.corrected.ensures l known, quotient_same (slice_index c.args.n l) d (slice_index c.all-2.result l) (c.all-2.ensures l known))
