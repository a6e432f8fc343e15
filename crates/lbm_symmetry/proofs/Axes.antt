-- Three axes, and what a motion does with vectors.
use Rattle.std.proofs.Common.{◌≡◌, ◌≢◌, ℕ, zero, suc, ◌+◌, ◌*◌, ◌<◌, ◌≤◌, Bool, true, false, eqb, List, [], ◌∷◌, length, get_or, ℤ, pos, ◌+ℤ◌, ◌*ℤ◌, neg_ℤ, unsigned_abs, refl, sym, ap, subst, ◌∙◌, inl, inr, arith, lit<}
use Rattle.std.specs.Prelude.{if◌then◌else◌}
use Rattle.std.proofs.Math.IntN.{neg_ℤ-neg_ℤ, *ℤ_comm}
use Rattle.std.proofs.lemmas.Int.{ints}
use Rattle.std.proofs.lemmas.Bool.{cases_eq, eq-eqb, ne_eqb}
use Rattle.std.proofs.lemmas.List.{ext_get_or}
use Rattle.lbm_space.specs.Stencil.{part, dot}
use Rattle.lbm_space.specs.Torus.{Torus, cells}
use Rattle.lbm_sets.proofs.Products.{product-neg}
use Rattle.lbm_symmetry.specs.Motions.{Motion, IsMotion, signed, moved_vector, side, moved_torus}

-- what holds of x, y and z holds of each axis
pub each_axis : (P : ℕ → Type 0) → P 0 → P 1 → P 2 → (a : ℕ) → a < 3 → P a
each_axis P x y z zero known = x
each_axis P x y z (suc zero) known = y
each_axis P x y z (suc (suc zero)) known = z
each_axis P x y z (suc (suc (suc a))) known = absurd (omega arith)

-- the six orders of three axes
pub orders : (P : ℕ → ℕ → ℕ → Type 0) → P 0 1 2 → P 0 2 1 → P 1 0 2 → P 1 2 0 → P 2 0 1 → P 2 1 0 → (a b c : ℕ) → a < 3 → b < 3 → c < 3 → a ≢ b → a ≢ c → b ≢ c → P a b c
orders P xyz xzy yxz yzx zxy zyx zero (suc zero) (suc (suc zero)) _ _ _ _ _ _ = xyz
orders P xyz xzy yxz yzx zxy zyx zero (suc (suc zero)) (suc zero) _ _ _ _ _ _ = xzy
orders P xyz xzy yxz yzx zxy zyx (suc zero) zero (suc (suc zero)) _ _ _ _ _ _ = yxz
orders P xyz xzy yxz yzx zxy zyx (suc zero) (suc (suc zero)) zero _ _ _ _ _ _ = yzx
orders P xyz xzy yxz yzx zxy zyx (suc (suc zero)) zero (suc zero) _ _ _ _ _ _ = zxy
orders P xyz xzy yxz yzx zxy zyx (suc (suc zero)) (suc zero) zero _ _ _ _ _ _ = zyx
orders P xyz xzy yxz yzx zxy zyx a b c known_a known_b known_c ab ac bc = absurd (omega arith)

-- the axes of a moved box stand in one of them
pub ordered : (P : ℕ → ℕ → ℕ → Type 0) (d : ℕ) (m : Motion) → IsMotion d m → P 0 1 2 → P 0 2 1 → P 1 0 2 → P 1 2 0 → P 2 0 1 → P 2 1 0 → P (m.axis 0) (m.axis 1) (m.axis 2)
ordered P d m motion xyz xzy yxz yzx zxy zyx =
    orders P xyz xzy yxz yzx zxy zyx (m.axis 0) (m.axis 1) (m.axis 2) (motion.known 0 (lit< tt)) (motion.known 1 (lit< tt)) (motion.known 2 (lit< tt))
    (λ same. let e : 0 ≡ 1 = motion.distinct 0 1 (lit< tt) (lit< tt) same in absurd (omega arith))
    (λ same. let e : 0 ≡ 2 = motion.distinct 0 2 (lit< tt) (lit< tt) same in absurd (omega arith))
    (λ same. let e : 1 ≡ 2 = motion.distinct 1 2 (lit< tt) (lit< tt) same in absurd (omega arith))

-- ---- the axis of the moved box that is axis b

abbrev pub place_of_axis : ℕ → ℕ → ℕ → ℕ
place_of_axis x y b = if eqb x b then 0 else if eqb y b then 1 else 2

abbrev pub came_to : Motion → ℕ → ℕ
came_to m b = place_of_axis (m.axis 0) (m.axis 1) b

pub came_to-axis : (d : ℕ) (m : Motion) → IsMotion d m → (a : ℕ) → a < 3 → came_to m (m.axis a) ≡ a
came_to-axis d m motion =
    each_axis (λ (a : ℕ). came_to m (m.axis a) ≡ a)
    (ordered (λ (x y z : ℕ). place_of_axis x y x ≡ 0) d m motion refl refl refl refl refl refl)
    (ordered (λ (x y z : ℕ). place_of_axis x y y ≡ 1) d m motion refl refl refl refl refl refl)
    (ordered (λ (x y z : ℕ). place_of_axis x y z ≡ 2) d m motion refl refl refl refl refl refl)

-- the same axis, read off three
abbrev third : ℕ → ℕ → ℕ → ℕ → ℕ
third x y z a = if eqb a 0 then x else if eqb a 1 then y else z

third-axis : (m : Motion) (a : ℕ) → a < 3 → third (m.axis 0) (m.axis 1) (m.axis 2) a ≡ m.axis a
third-axis m = each_axis (λ (a : ℕ). third (m.axis 0) (m.axis 1) (m.axis 2) a ≡ m.axis a) refl refl refl

pub came_to_known : (m : Motion) (b : ℕ) → came_to m b < 3
came_to_known m b = elim (cases_eq (m.axis 0) b) [
  | inl first ↦ (let on : eqb (m.axis 0) b ≡ true = eq-eqb (m.axis 0) b first in rw on (lit< tt))
  | inr other ↦ (
      let off : eqb (m.axis 0) b ≡ false = ne_eqb (m.axis 0) b other in
      elim (cases_eq (m.axis 1) b) [
        | inl second ↦ (let on : eqb (m.axis 1) b ≡ true = eq-eqb (m.axis 1) b second in rw (off, on) (lit< tt))
        | inr last ↦ (let out : eqb (m.axis 1) b ≡ false = ne_eqb (m.axis 1) b last in rw (off, out) (lit< tt))
      ])
]

pub axis-came_to : (d : ℕ) (m : Motion) → IsMotion d m → (b : ℕ) → b < 3 → m.axis (came_to m b) ≡ b
axis-came_to d m motion b known =
    sym (third-axis m (came_to m b) (came_to_known m b))
    ∙ each_axis (λ (b : ℕ). third (m.axis 0) (m.axis 1) (m.axis 2) (came_to m b) ≡ b)
    (ordered (λ (x y z : ℕ). third x y z (place_of_axis x y 0) ≡ 0) d m motion refl refl refl refl refl refl)
    (ordered (λ (x y z : ℕ). third x y z (place_of_axis x y 1) ≡ 1) d m motion refl refl refl refl refl refl)
    (ordered (λ (x y z : ℕ). third x y z (place_of_axis x y 2) ≡ 2) d m motion refl refl refl refl refl refl)
    b known

-- ---- signs

pub signed_twice : (r : Bool) (z : ℤ) → signed r (signed r z) ≡ z
signed_twice true z = neg_ℤ-neg_ℤ z
signed_twice false z = refl

pub signed-neg : (r : Bool) (z : ℤ) → signed r (neg_ℤ z) ≡ neg_ℤ (signed r z)
signed-neg true z = refl
signed-neg false z = refl

pub signed-zero : (r : Bool) → signed r (pos 0) ≡ pos 0
signed-zero true = refl
signed-zero false = refl

pub signed-product : (r : Bool) (y z : ℤ) → signed r y *ℤ z ≡ signed r (y *ℤ z)
signed-product true y z = product-neg y z
signed-product false y z = refl

pub size-signed : (r : Bool) (z : ℤ) → unsigned_abs (signed r z) ≡ unsigned_abs z
size-signed true z = omega (arith, ints)
size-signed false z = refl

pub signed-product_both : (r : Bool) (y z : ℤ) → signed r y *ℤ signed r z ≡ y *ℤ z
signed-product_both true y z =
    let one = product-neg y (neg_ℤ z) in
    let two = *ℤ_comm y (neg_ℤ z) in
    let three = product-neg z y in
    let four = *ℤ_comm z y in
    omega (arith, ints, one, two, three, four)
signed-product_both false y z = refl

-- ---- vectors

pub part-moved : (m : Motion) (u : List ℤ) (a : ℕ) → a < 3 → part (moved_vector m u) a ≡ signed (m.reversed a) (part u (m.axis a))
part-moved m u = each_axis (λ (a : ℕ). part (moved_vector m u) a ≡ signed (m.reversed a) (part u (m.axis a))) refl refl refl

pub same_parts : (u w : List ℤ) → length u ≡ 3 → length w ≡ 3 → ((a : ℕ) → a < 3 → part u a ≡ part w a) → u ≡ w
same_parts u w three_u three_w same = ext_get_or (pos 0) u w (three_u ∙ sym three_w) (λ a below. same a (rw (← three_u) below))

-- inner products stay
pub dot-moved : (d : ℕ) (m : Motion) (u w : List ℤ) → IsMotion d m → dot (moved_vector m u) (moved_vector m w) ≡ dot u w
dot-moved d m u w motion =
    let product : ℕ → ℤ = λ a. part u a *ℤ part w a in
    let here : (a : ℕ) → signed (m.reversed a) (part u (m.axis a)) *ℤ signed (m.reversed a) (part w (m.axis a)) ≡ product (m.axis a) = λ a. signed-product_both (m.reversed a) (part u (m.axis a)) (part w (m.axis a)) in
    rw (here 0, here 1, here 2)
    (ordered (λ (a b c : ℕ). part u a *ℤ part w a +ℤ part u b *ℤ part w b +ℤ part u c *ℤ part w c ≡ dot u w) d m motion
    refl
    (in_order_2 (product 0) (product 1) (product 2))
    (in_order_3 (product 0) (product 1) (product 2))
    (in_order_4 (product 0) (product 1) (product 2))
    (in_order_5 (product 0) (product 1) (product 2))
    (in_order_6 (product 0) (product 1) (product 2)))
  where
    in_order_2 : (x y z : ℤ) → x +ℤ z +ℤ y ≡ x +ℤ y +ℤ z
    in_order_2 x y z = omega (arith, ints)

    in_order_3 : (x y z : ℤ) → y +ℤ x +ℤ z ≡ x +ℤ y +ℤ z
    in_order_3 x y z = omega (arith, ints)

    in_order_4 : (x y z : ℤ) → y +ℤ z +ℤ x ≡ x +ℤ y +ℤ z
    in_order_4 x y z = omega (arith, ints)

    in_order_5 : (x y z : ℤ) → z +ℤ x +ℤ y ≡ x +ℤ y +ℤ z
    in_order_5 x y z = omega (arith, ints)

    in_order_6 : (x y z : ℤ) → z +ℤ y +ℤ x ≡ x +ℤ y +ℤ z
    in_order_6 x y z = omega (arith, ints)

-- ---- boxes

pub side-moved : (m : Motion) (t : Torus) (a : ℕ) → a < 3 → side (moved_torus m t) a ≡ side t (m.axis a)
side-moved m t = each_axis (λ (a : ℕ). side (moved_torus m t) a ≡ side t (m.axis a)) refl refl refl

-- a moved box has as many cells
pub cells-moved : (d : ℕ) (m : Motion) (t : Torus) → IsMotion d m → cells (moved_torus m t) ≡ cells t
cells-moved d m t motion =
    ordered (λ (a b c : ℕ). side t a * side t b * side t c ≡ t.nx * t.ny * t.nz) d m motion refl (omega arith) (omega arith) (omega arith) (omega arith) (omega arith)
