use Rattle.std.proofs.Common.{◌≡◌, ◌<◌, ◌+◌, ◌*◌, ◌/◌, ◌∙◌, ℕ, ap, arith, refl}
use Rattle.std.specs.Prelude.{slice_index}
use Rattle.lbm_lanes.proofs.Equilibria.{written}
use Rattle.lbm_lanes.proofs.quotient.by_written.Goals as goal

room : (n x m : ℕ) → x ≡ m → n * m < 2549037389091700736 → n * x < 4611686018427387904
room n x m is below = rw is (omega (arith, below))

pub product-requires-clause-first : goal.product-requires-clause-first
product-requires-clause-first c l known = omega (arith, c.requires.small l known, c.requires.few)

pub product-requires-clause-second : goal.product-requires-clause-second
product-requires-clause-second c l known =
    let is = written (slice_index c.args.n l) c.args.k (137438953472 / c.args.k + 1) c.requires.some c.requires.few refl (c.requires.small l known) in omega (arith, is.reciprocal, c.all.ensures l known)

pub product-requires-clause-room : goal.product-requires-clause-room
product-requires-clause-room c l known =
    let is = written (slice_index c.args.n l) c.args.k (137438953472 / c.args.k + 1) c.requires.some c.requires.few refl (c.requires.small l known) in room (slice_index c.args.n l) (slice_index c.all.result l) (137438953472 / c.args.k + 1) (c.all.ensures l known) is.room

pub returns : goal.returns
returns c l known =
    let is = written (slice_index c.args.n l) c.args.k (137438953472 / c.args.k + 1) c.requires.some c.requires.few refl (c.requires.small l known) in
    c.cut.ensures l known ∙ ap (λ (x : ℕ). x / 137438953472) (c.product.ensures l known ∙ ap (λ (x : ℕ). slice_index c.args.n l * x) (c.all.ensures l known)) ∙ is.value
