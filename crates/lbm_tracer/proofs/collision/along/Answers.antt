use Rattle.std.proofs.Common.{◌≡◌, ◌≤◌, ◌*◌, ◌+ℤ◌, ◌*ℤ◌, unsigned_abs, ℤ, to_z, of_z, w64, refl, arith, lit<}
use Rattle.lbm_space.specs.Stencil.{dot, part}
use Rattle.lbm_cell.proofs.Sizes.{product_size, unsigned_abs-add}
use Rattle.lbm_tracer.specs.Collision.{momentum_of}
use Rattle.lbm_tracer.proofs.Numbers.{fits, held}
use Rattle.lbm_tracer.proofs.collision.along.Goals as goal

-- a unit times a part of the momentum
record Part (c j : ℤ) : Type 0 where
  unit : to_z w64 (of_z w64 c) ≡ c
  part : to_z w64 (of_z w64 j) ≡ j
  product : to_z w64 (of_z w64 (c *ℤ j)) ≡ c *ℤ j
  size : unsigned_abs (c *ℤ j) ≤ 1769472

part_of : (c j : ℤ) → unsigned_abs c ≤ 1 → unsigned_abs j ≤ 1769472 → Part c j
part_of c j unit small =
    let size : unsigned_abs (c *ℤ j) ≤ 1 * 1769472 = product_size c j 1 1769472 unit small in
    record { unit = held c (omega arith); part = held j (omega arith); product = held (c *ℤ j) (omega (arith, size)); size = omega (arith, size) }

two : (a b : ℤ) → unsigned_abs a ≤ 1769472 → unsigned_abs b ≤ 1769472 → unsigned_abs (a +ℤ b) ≤ 3538944
two a b small_a small_b = omega (arith, unsigned_abs-add a b)

three : (a b d : ℤ) → unsigned_abs a ≤ 1769472 → unsigned_abs b ≤ 1769472 → unsigned_abs d ≤ 1769472 → unsigned_abs (a +ℤ b +ℤ d) ≤ 5308416
three a b d small_a small_b small_d = omega (arith, unsigned_abs-add (a +ℤ b) d, two a b small_a small_b)

pub overflow_add-result : goal.overflow_add-result
overflow_add-result c =
    let x = part_of (part c.args.c 0) c.args.flow.now.jx (c.requires.unit 0 (lit< tt)) c.requires.flow.x_small in
    let y = part_of (part c.args.c 1) c.args.flow.now.jy (c.requires.unit 1 (lit< tt)) c.requires.flow.y_small in
    rw (x.unit, x.part, y.unit, y.part, x.product, y.product) (fits (part c.args.c 0 *ℤ c.args.flow.now.jx +ℤ part c.args.c 1 *ℤ c.args.flow.now.jy) (omega (arith, two (part c.args.c 0 *ℤ c.args.flow.now.jx) (part c.args.c 1 *ℤ c.args.flow.now.jy) x.size y.size)))

pub overflow_add-result-2 : goal.overflow_add-result-2
overflow_add-result-2 c =
    let x = part_of (part c.args.c 0) c.args.flow.now.jx (c.requires.unit 0 (lit< tt)) c.requires.flow.x_small in
    let y = part_of (part c.args.c 1) c.args.flow.now.jy (c.requires.unit 1 (lit< tt)) c.requires.flow.y_small in
    let z = part_of (part c.args.c 2) c.args.flow.now.jz (c.requires.unit 2 (lit< tt)) c.requires.flow.z_small in
    let xy = held (part c.args.c 0 *ℤ c.args.flow.now.jx +ℤ part c.args.c 1 *ℤ c.args.flow.now.jy) (omega (arith, two (part c.args.c 0 *ℤ c.args.flow.now.jx) (part c.args.c 1 *ℤ c.args.flow.now.jy) x.size y.size)) in
    rw (x.unit, x.part, y.unit, y.part, z.unit, z.part, x.product, y.product, z.product, xy) (fits (dot c.args.c (momentum_of c.args.flow.now)) (omega (arith, three (part c.args.c 0 *ℤ c.args.flow.now.jx) (part c.args.c 1 *ℤ c.args.flow.now.jy) (part c.args.c 2 *ℤ c.args.flow.now.jz) x.size y.size z.size)))

pub returns-clause-value : goal.returns-clause-value
returns-clause-value c =
    let x = part_of (part c.args.c 0) c.args.flow.now.jx (c.requires.unit 0 (lit< tt)) c.requires.flow.x_small in
    let y = part_of (part c.args.c 1) c.args.flow.now.jy (c.requires.unit 1 (lit< tt)) c.requires.flow.y_small in
    let z = part_of (part c.args.c 2) c.args.flow.now.jz (c.requires.unit 2 (lit< tt)) c.requires.flow.z_small in
    let xy = held (part c.args.c 0 *ℤ c.args.flow.now.jx +ℤ part c.args.c 1 *ℤ c.args.flow.now.jy) (omega (arith, two (part c.args.c 0 *ℤ c.args.flow.now.jx) (part c.args.c 1 *ℤ c.args.flow.now.jy) x.size y.size)) in
    let all = held (dot c.args.c (momentum_of c.args.flow.now)) (omega (arith, three (part c.args.c 0 *ℤ c.args.flow.now.jx) (part c.args.c 1 *ℤ c.args.flow.now.jy) (part c.args.c 2 *ℤ c.args.flow.now.jz) x.size y.size z.size)) in
    rw (x.unit, x.part, y.unit, y.part, z.unit, z.part, x.product, y.product, z.product, xy, all) refl

pub returns-clause-size : goal.returns-clause-size
returns-clause-size c =
    let x = part_of (part c.args.c 0) c.args.flow.now.jx (c.requires.unit 0 (lit< tt)) c.requires.flow.x_small in
    let y = part_of (part c.args.c 1) c.args.flow.now.jy (c.requires.unit 1 (lit< tt)) c.requires.flow.y_small in
    let z = part_of (part c.args.c 2) c.args.flow.now.jz (c.requires.unit 2 (lit< tt)) c.requires.flow.z_small in
    rw (returns-clause-value c) (three (part c.args.c 0 *ℤ c.args.flow.now.jx) (part c.args.c 1 *ℤ c.args.flow.now.jy) (part c.args.c 2 *ℤ c.args.flow.now.jz) x.size y.size z.size)
