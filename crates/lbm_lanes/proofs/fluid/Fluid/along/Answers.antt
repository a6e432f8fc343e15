use Rattle.std.proofs.Common.{◌≡◌, ◌<◌, ◌≤◌, ◌+◌, ◌+ℤ◌, ◌-ℤ◌, ◌*ℤ◌, ℕ, ℤ, pos, unsigned_abs, arith, lit<, to_z, of_z}
use Rattle.std.specs.Int.{w64}
use Rattle.std.specs.Prelude.{slice_index}
use Rattle.std.proofs.lemmas.Int.{ints, to_z-of_z}
use Rattle.lbm_space.specs.Stencil.{part}
use Rattle.lbm_cell.proofs.Sizes.{product_size}
use Rattle.lbm_lanes.proofs.Ready.{along_is}
use Rattle.lbm_lanes.proofs.fluid.Fluid.along.Goals.{After-stepped-y, After-stepped-x}
use Rattle.lbm_lanes.proofs.fluid.Fluid.along.Goals as goal

step_is : (s a : ℕ) (c d : ℤ) → unsigned_abs c ≤ 1 → pos s ≡ pos a +ℤ to_z w64 (of_z w64 c) *ℤ d → pos s ≡ pos a +ℤ c *ℤ d
step_is s a c d unit e = rw (to_z-of_z w64 c (omega (arith, ints, unit))) at e

share : (c : ℤ) (x r : ℕ) → unsigned_abs c ≤ 1 → unsigned_abs (pos x -ℤ pos 8388608) ≤ r → r ≤ 1769472 → unsigned_abs (c *ℤ (pos x -ℤ pos 8388608)) ≤ 1769472
share c x r unit small dense = omega (arith, product_size c (pos x -ℤ pos 8388608) 1 1769472 unit (omega (arith, small, dense)))

near : (s a k : ℕ) (z : ℤ) → pos s ≡ pos a +ℤ z → unsigned_abs z ≤ 1769472 → a ≤ 8388608 + k → 8388608 ≤ a + k → (s ≤ 8388608 + k + 1769472) × (8388608 ≤ s + k + 1769472)
near s a k z is small high low = (omega (arith, ints, is, small, high), omega (arith, ints, is, small, low))

first : (c : After-stepped-x) (l : ℕ) → l < 8 → pos (slice_index c.stepped-x.result l) ≡ pos (slice_index c.all.result l) +ℤ part c.args.c.now 0 *ℤ (pos (slice_index c.args.self.now.x l) -ℤ pos 8388608)
first c l known = step_is (slice_index c.stepped-x.result l) (slice_index c.all.result l) (part c.args.c.now 0) (pos (slice_index c.args.self.now.x l) -ℤ pos 8388608) (c.requires.units 0 (lit< tt)) (c.stepped-x.ensures l known)

second : (c : After-stepped-y) (l : ℕ) → l < 8 → pos (slice_index c.stepped-y.result l) ≡ pos (slice_index c.stepped-x.result l) +ℤ part c.args.c.now 1 *ℤ (pos (slice_index c.args.self.now.y l) -ℤ pos 8388608)
second c l known = step_is (slice_index c.stepped-y.result l) (slice_index c.stepped-x.result l) (part c.args.c.now 1) (pos (slice_index c.args.self.now.y l) -ℤ pos 8388608) (c.requires.units 1 (lit< tt)) (c.stepped-y.ensures l known)

first_near : (c : After-stepped-x) (l : ℕ) → l < 8 → (slice_index c.stepped-x.result l ≤ 8388608 + 0 + 1769472) × (8388608 ≤ slice_index c.stepped-x.result l + 0 + 1769472)
first_near c l known =
    let s = c.requires.sound l known in
    near (slice_index c.stepped-x.result l) (slice_index c.all.result l) 0 (part c.args.c.now 0 *ℤ (pos (slice_index c.args.self.now.x l) -ℤ pos 8388608)) (first c l known)
    (share (part c.args.c.now 0) (slice_index c.args.self.now.x l) (slice_index c.args.self.now.cells.rho l) (c.requires.units 0 (lit< tt)) s.x_small s.not_dense) (omega (arith, c.all.ensures l known)) (omega (arith, c.all.ensures l known))

second_near : (c : After-stepped-y) (l : ℕ) → l < 8 → (slice_index c.stepped-x.result l ≤ 8388608 + 0 + 1769472) × (8388608 ≤ slice_index c.stepped-x.result l + 0 + 1769472) → (slice_index c.stepped-y.result l ≤ 8388608 + 1769472 + 1769472) × (8388608 ≤ slice_index c.stepped-y.result l + 1769472 + 1769472)
second_near c l known before =
    let s = c.requires.sound l known in
    near (slice_index c.stepped-y.result l) (slice_index c.stepped-x.result l) 1769472 (part c.args.c.now 1 *ℤ (pos (slice_index c.args.self.now.y l) -ℤ pos 8388608)) (second c l known)
    (share (part c.args.c.now 1) (slice_index c.args.self.now.y l) (slice_index c.args.self.now.cells.rho l) (c.requires.units 1 (lit< tt)) s.y_small s.not_dense) (omega (arith, before.0)) (omega (arith, before.1))

pub stepped-y-requires-clause-not_low : goal.stepped-y-requires-clause-not_low
stepped-y-requires-clause-not_low c l known = omega (arith, (first_near (goal.at.stepped-y-requires-clause-not_low c).After-stepped-x l known).1)

pub stepped-y-requires-clause-not_high : goal.stepped-y-requires-clause-not_high
stepped-y-requires-clause-not_high c l known = omega (arith, (first_near (goal.at.stepped-y-requires-clause-not_high c).After-stepped-x l known).0)

pub stepped-requires-clause-not_low : goal.stepped-requires-clause-not_low
stepped-requires-clause-not_low c l known = omega (arith, (second_near (goal.at.stepped-requires-clause-not_low c).After-stepped-y l known (first_near (goal.at.stepped-requires-clause-not_low c).After-stepped-x l known)).1)

pub stepped-requires-clause-not_high : goal.stepped-requires-clause-not_high
stepped-requires-clause-not_high c l known = omega (arith, (second_near (goal.at.stepped-requires-clause-not_high c).After-stepped-y l known (first_near (goal.at.stepped-requires-clause-not_high c).After-stepped-x l known)).0)

pub returns : goal.returns
returns c l known =
    let here = (goal.at.returns c).After-stepped-y in
    along_is c.args.c.now (slice_index c.args.self.now.x l) (slice_index c.args.self.now.y l) (slice_index c.args.self.now.z l) (slice_index c.all.result l) (slice_index c.stepped-x.result l) (slice_index c.stepped-y.result l) (slice_index c.stepped.result l)
    (c.all.ensures l known) (first (goal.at.returns c).After-stepped-x l known) (second here l known)
    (step_is (slice_index c.stepped.result l) (slice_index c.stepped-y.result l) (part c.args.c.now 2) (pos (slice_index c.args.self.now.z l) -ℤ pos 8388608) (c.requires.units 2 (lit< tt)) (c.stepped.ensures l known))
