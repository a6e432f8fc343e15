use Rattle.std.proofs.Common.{◌≡◌, ◌≤◌, ◌<◌, ◌+◌, ◌-◌, ◌*◌, ◌/◌, ◌∙◌, ℕ, arith, refl}
use Rattle.std.specs.Prelude.{slice_index}
use Rattle.std.proofs.lemmas.Nat.{mul-le, div_below}
use Rattle.std.proofs.Math.Nat.{mul-le-mul_left, lt-div-mul-add, div-mul-le_self}
use Rattle.lbm_lanes.proofs.Quotients.{scaled, product_room, IsParted, parted}
use Rattle.lbm_lanes.proofs.pair.shared.Goals.{After-near_by_density-guess, After-sum}
use Rattle.lbm_lanes.proofs.pair.shared.Goals as goal

shared_small : (even y r : ℕ) → even ≤ 221184 → 442368 ≤ r → r ≤ 1769472 → y ≤ 92 * (r * r) → even * (y / r) + even * (y - y / r * r) / r < 70368744177664
shared_small even y r few thin dense small =
    let quotient : y / r < 92 * r + 1 = div_below y r (92 * r + 1) (omega (arith, thin)) (omega (arith, small, thin)) in
    let low : y / r * r ≤ y = div-mul-le_self y r in
    let high : y < y / r * r + r = lt-div-mul-add (omega (arith, thin)) in
    let one : even * (y / r) ≤ 221184 * 162791424 = mul-le even (y / r) 221184 162791424 few (omega (arith, quotient, dense)) in
    let rest : even * (y - y / r * r) ≤ even * r = mul-le-mul_left even (omega (arith, low, high)) in
    let part : even * (y - y / r * r) / r < even + 1 = div_below _ r (even + 1) (omega (arith, thin)) (omega (arith, rest, thin)) in
    omega (arith, one, part, few)

-- the quotient in its two parts
parts : (c : After-near_by_density-guess) (l : ℕ) → l < 8 → IsParted c.args.even (slice_index c.args.y l) (slice_index c.args.rho l) (slice_index c.near_by_density-guess.result l)
parts c l known =
    parted c.args.even (slice_index c.args.y l) (slice_index c.args.rho l) (slice_index c.near_by_density-guess.result l) c.requires.few (c.requires.not_thin l known) (c.requires.not_dense l known) (c.requires.small l known)
    (c.near_by_density-guess.ensures.low l known) (c.near_by_density-guess.ensures.high l known)

left_is : (y g r taken rest : ℕ) → taken ≡ g * r → rest ≡ y - taken → rest ≡ y - g * r
left_is y g r taken rest a b = rw (b, a) refl

spread_is : (even y g r x taken rest spread : ℕ) → taken ≡ g * r → rest ≡ y - taken → x ≡ even → spread ≡ x * rest → spread ≡ even * (y - g * r)
spread_is even y g r x taken rest spread a b c d = rw (d, c, b, a) refl

shared_is : (even y r guess taken rest spread part whole total : ℕ) → taken ≡ guess * r → rest ≡ y - taken → spread ≡ even * rest → part ≡ spread / r → whole ≡ even * guess → total ≡ whole + part → total ≡ even * guess + even * (y - guess * r) / r
shared_is even y r guess taken rest spread part whole total a b c d e f = rw (f, e, d, c, b, a) refl

value : (c : After-sum) (l : ℕ) → l < 8 →
    slice_index c.sum.result l ≡ c.args.even * (slice_index c.args.y l / slice_index c.args.rho l) + c.args.even * (slice_index c.args.y l - slice_index c.args.y l / slice_index c.args.rho l * slice_index c.args.rho l) / slice_index c.args.rho l
value c l known =
    let spread = scaled c.args.even (slice_index c.all.result l) (slice_index c.difference-rest.result l) (slice_index c.product-spread.result l) (c.all.ensures l known) (c.product-spread.ensures l known) in
    let whole = scaled c.args.even (slice_index c.all-2.result l) (slice_index c.near_by_density-guess.result l) (slice_index c.product-whole.result l) (c.all-2.ensures l known) (c.product-whole.ensures l known) in
    shared_is c.args.even (slice_index c.args.y l) (slice_index c.args.rho l) (slice_index c.near_by_density-guess.result l) (slice_index c.product-taken.result l) (slice_index c.difference-rest.result l) (slice_index c.product-spread.result l)
    (slice_index c.small_by_density-part.result l) (slice_index c.product-whole.result l) (slice_index c.sum.result l) (c.product-taken.ensures l known) (c.difference-rest.ensures l known) spread (c.small_by_density-part.ensures l known) whole (c.sum.ensures l known)
    ∙ (parted c.args.even (slice_index c.args.y l) (slice_index c.args.rho l) (slice_index c.near_by_density-guess.result l) c.requires.few (c.requires.not_thin l known) (c.requires.not_dense l known) (c.requires.small l known)
    (c.near_by_density-guess.ensures.low l known) (c.near_by_density-guess.ensures.high l known)).value

pub product-taken-requires-clause-first : goal.product-taken-requires-clause-first
product-taken-requires-clause-first c l known =
    let is = (parts (goal.at.product-taken-requires-clause-first c).After-near_by_density-guess l known) in omega (arith, is.small)

pub product-taken-requires-clause-room : goal.product-taken-requires-clause-room
product-taken-requires-clause-room c l known =
    let is = (parts (goal.at.product-taken-requires-clause-room c).After-near_by_density-guess l known) in omega (arith, is.room)

pub product-spread-requires-clause-second : goal.product-spread-requires-clause-second
product-spread-requires-clause-second c l known =
    let is = (parts (goal.at.product-spread-requires-clause-second c).After-near_by_density-guess l known) in
    let left = left_is (slice_index c.args.y l) (slice_index c.near_by_density-guess.result l) (slice_index c.args.rho l) (slice_index c.product-taken.result l) (slice_index c.difference-rest.result l) (c.product-taken.ensures l known) (c.difference-rest.ensures l known) in
    omega (arith, is.left, left)

pub product-spread-requires-clause-room : goal.product-spread-requires-clause-room
product-spread-requires-clause-room c l known =
    let is = (parts (goal.at.product-spread-requires-clause-room c).After-near_by_density-guess l known) in
    let left = left_is (slice_index c.args.y l) (slice_index c.near_by_density-guess.result l) (slice_index c.args.rho l) (slice_index c.product-taken.result l) (slice_index c.difference-rest.result l) (c.product-taken.ensures l known) (c.difference-rest.ensures l known) in
    product_room (slice_index c.all.result l) (slice_index c.difference-rest.result l) c.args.even _ 782757789696 4611686018427387904 (c.all.ensures l known) left is.spread_room (omega arith)

pub small_by_density-part-requires-clause-small : goal.small_by_density-part-requires-clause-small
small_by_density-part-requires-clause-small c l known =
    let is = (parts (goal.at.small_by_density-part-requires-clause-small c).After-near_by_density-guess l known) in
    let spread = spread_is c.args.even (slice_index c.args.y l) (slice_index c.near_by_density-guess.result l) (slice_index c.args.rho l) (slice_index c.all.result l) (slice_index c.product-taken.result l) (slice_index c.difference-rest.result l) (slice_index c.product-spread.result l) (c.product-taken.ensures l known) (c.difference-rest.ensures l known) (c.all.ensures l known) (c.product-spread.ensures l known) in
    omega (arith, is.spread, spread)

pub product-whole-requires-clause-second : goal.product-whole-requires-clause-second
product-whole-requires-clause-second c l known =
    let is = (parts (goal.at.product-whole-requires-clause-second c).After-near_by_density-guess l known) in omega (arith, is.small)

pub product-whole-requires-clause-room : goal.product-whole-requires-clause-room
product-whole-requires-clause-room c l known =
    let is = (parts (goal.at.product-whole-requires-clause-room c).After-near_by_density-guess l known) in
    product_room (slice_index c.all-2.result l) (slice_index c.near_by_density-guess.result l) c.args.even (slice_index c.near_by_density-guess.result l) 36006858326016 4611686018427387904 (c.all-2.ensures l known) refl is.whole (omega arith)

pub returns-clause-small : goal.returns-clause-small
returns-clause-small c l known =
    rw (value (goal.at.returns-clause-small c).After-sum l known)
    (shared_small c.args.even (slice_index c.args.y l) (slice_index c.args.rho l) c.requires.few (c.requires.not_thin l known) (c.requires.not_dense l known) (c.requires.small l known))

pub returns-clause-value : goal.returns-clause-value
returns-clause-value c l known = value (goal.at.returns-clause-value c).After-sum l known
