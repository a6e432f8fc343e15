use Rattle.std.proofs.Common.{◌≡◌, ◌<◌, ◌≤◌, ℕ, pos, ◌-ℤ◌, ◌≤ℤ◌, unsigned_abs, arith, eqb}
use Rattle.std.specs.Prelude.{slice_index, not}
use Rattle.std.proofs.lemmas.Int.{ints}
use Rattle.lbm_lanes.specs.Cells.{is_on}
use Rattle.lbm_lanes.specs.Lanes.{entry}
use Rattle.lbm_lanes.proofs.Ready.{density_kept, part_kept, part_small, rest_density, no_momentum}
use Rattle.lbm_lanes.proofs.fluid.Fluid.of.Goals.{After-kept-third}
use Rattle.lbm_lanes.proofs.fluid.Fluid.of.Goals as goal

density : (g : _) (c : After-kept-third g) (l : ℕ) → l < 8 → (pos 442368 ≤ℤ entry c.kept-density.result l) × (entry c.kept-density.result l ≤ℤ pos 1769472)
density g c l known = let s = c.requires.sums l known in
    density_kept (is_on (not (eqb g.row.MIXED 0)) (slice_index c.args.flags.colliding l)) (entry c.args.sums.now.rho l) (entry c.kept-density.result l) _ (c.kept-density.ensures l known) (rest_density l known) s.not_thin s.not_dense

first : (g : _) (c : After-kept-third g) (l : ℕ) → l < 8 → unsigned_abs (entry c.kept-first.result l) ≤ unsigned_abs (entry c.kept-density.result l)
first g c l known = part_kept (is_on (not (eqb g.row.MIXED 0)) (slice_index c.args.flags.colliding l)) (entry c.args.sums.now.rho l) (entry c.kept-density.result l) _ (entry c.args.sums.now.x l) (entry c.kept-first.result l) _ (c.kept-density.ensures l known) (c.kept-first.ensures l known) (no_momentum l known) (c.requires.sums l known).x_within

second : (g : _) (c : After-kept-third g) (l : ℕ) → l < 8 → unsigned_abs (entry c.kept-second.result l) ≤ unsigned_abs (entry c.kept-density.result l)
second g c l known = part_kept (is_on (not (eqb g.row.MIXED 0)) (slice_index c.args.flags.colliding l)) (entry c.args.sums.now.rho l) (entry c.kept-density.result l) _ (entry c.args.sums.now.y l) (entry c.kept-second.result l) _ (c.kept-density.ensures l known) (c.kept-second.ensures l known) (no_momentum l known) (c.requires.sums l known).y_within

third : (g : _) (c : After-kept-third g) (l : ℕ) → l < 8 → unsigned_abs (entry c.kept-third.result l) ≤ unsigned_abs (entry c.kept-density.result l)
third g c l known = part_kept (is_on (not (eqb g.row.MIXED 0)) (slice_index c.args.flags.colliding l)) (entry c.args.sums.now.rho l) (entry c.kept-density.result l) _ (entry c.args.sums.now.z l) (entry c.kept-third.result l) _ (c.kept-density.ensures l known) (c.kept-third.ensures l known) (no_momentum l known) (c.requires.sums l known).z_within

pub natural-rho-requires-clause-above : goal.natural-rho-requires-clause-above
natural-rho-requires-clause-above g c l known = omega (arith, ints, (density g (goal.at.natural-rho-requires-clause-above g c).After-kept-third l known).0)

pub natural-rho-requires-clause-small : goal.natural-rho-requires-clause-small
natural-rho-requires-clause-small g c l known = let is = density g (goal.at.natural-rho-requires-clause-small g c).After-kept-third l known in omega (arith, ints, is.0, is.1)

pub raised-x-requires : goal.raised-x-requires
raised-x-requires g c l known = let here = (goal.at.raised-x-requires g c).After-kept-third in let is = density g here l known in omega (arith, ints, is.0, is.1, first g here l known)

pub raised-y-requires : goal.raised-y-requires
raised-y-requires g c l known = let here = (goal.at.raised-y-requires g c).After-kept-third in let is = density g here l known in omega (arith, ints, is.0, is.1, second g here l known)

pub raised-z-requires : goal.raised-z-requires
raised-z-requires g c l known = let here = (goal.at.raised-z-requires g c).After-kept-third in let is = density g here l known in omega (arith, ints, is.0, is.1, third g here l known)

low : (g : _) (k : After-kept-third g) (l : ℕ) → l < 8 → (r : ℕ) → entry k.kept-density.result l ≡ pos r → 442368 ≤ r
low g k l known r is = omega (arith, ints, is, (density g k l known).0)

high : (g : _) (k : After-kept-third g) (l : ℕ) → l < 8 → (r : ℕ) → entry k.kept-density.result l ≡ pos r → r ≤ 1769472
high g k l known r is = omega (arith, ints, is, (density g k l known).1)

x_small : (g : _) (k : After-kept-third g) (l : ℕ) → l < 8 → (x r : ℕ) → pos x -ℤ pos 8388608 ≡ entry k.kept-first.result l → entry k.kept-density.result l ≡ pos r → unsigned_abs (pos x -ℤ pos 8388608) ≤ r
x_small g k l known x r is number = part_small x r (entry k.kept-density.result l) (entry k.kept-first.result l) is number (first g k l known)

y_small : (g : _) (k : After-kept-third g) (l : ℕ) → l < 8 → (x r : ℕ) → pos x -ℤ pos 8388608 ≡ entry k.kept-second.result l → entry k.kept-density.result l ≡ pos r → unsigned_abs (pos x -ℤ pos 8388608) ≤ r
y_small g k l known x r is number = part_small x r (entry k.kept-density.result l) (entry k.kept-second.result l) is number (second g k l known)

z_small : (g : _) (k : After-kept-third g) (l : ℕ) → l < 8 → (x r : ℕ) → pos x -ℤ pos 8388608 ≡ entry k.kept-third.result l → entry k.kept-density.result l ≡ pos r → unsigned_abs (pos x -ℤ pos 8388608) ≤ r
z_small g k l known x r is number = part_small x r (entry k.kept-density.result l) (entry k.kept-third.result l) is number (third g k l known)

pub reciprocals-requires-clause-not_thin : goal.reciprocals-requires-clause-not_thin
reciprocals-requires-clause-not_thin g c l known = low g (goal.at.reciprocals-requires-clause-not_thin g c).After-kept-third l known (slice_index c.natural-rho.result l) (c.natural-rho.ensures l known)

pub reciprocals-requires-clause-not_dense : goal.reciprocals-requires-clause-not_dense
reciprocals-requires-clause-not_dense g c l known = high g (goal.at.reciprocals-requires-clause-not_dense g c).After-kept-third l known (slice_index c.natural-rho.result l) (c.natural-rho.ensures l known)

pub base-requires-clause-not_dense : goal.base-requires-clause-not_dense
base-requires-clause-not_dense g c l known = high g (goal.at.base-requires-clause-not_dense g c).After-kept-third l known (slice_index c.natural-rho.result l) (c.natural-rho.ensures l known)

pub base-requires-clause-x_small : goal.base-requires-clause-x_small
base-requires-clause-x_small g c l known = x_small g (goal.at.base-requires-clause-x_small g c).After-kept-third l known (slice_index c.raised-x.result l) (slice_index c.natural-rho.result l) (c.raised-x.ensures l known) (c.natural-rho.ensures l known)

pub base-requires-clause-y_small : goal.base-requires-clause-y_small
base-requires-clause-y_small g c l known = y_small g (goal.at.base-requires-clause-y_small g c).After-kept-third l known (slice_index c.raised-y.result l) (slice_index c.natural-rho.result l) (c.raised-y.ensures l known) (c.natural-rho.ensures l known)

pub base-requires-clause-z_small : goal.base-requires-clause-z_small
base-requires-clause-z_small g c l known = z_small g (goal.at.base-requires-clause-z_small g c).After-kept-third l known (slice_index c.raised-z.result l) (slice_index c.natural-rho.result l) (c.raised-z.ensures l known) (c.natural-rho.ensures l known)

pub returns-clause-sound : goal.returns-clause-sound
returns-clause-sound g c l known =
    let here = (goal.at.returns-clause-sound g c).After-kept-third in
    let r = slice_index c.natural-rho.result l in let is = c.natural-rho.ensures l known in
    record {
      not_thin = low g here l known r is;
      not_dense = high g here l known r is;
      reciprocal_is = c.reciprocals.ensures l known;
      base_is = c.base.ensures l known;
      x_small = x_small g here l known (slice_index c.raised-x.result l) r (c.raised-x.ensures l known) is;
      y_small = y_small g here l known (slice_index c.raised-y.result l) r (c.raised-y.ensures l known) is;
      z_small = z_small g here l known (slice_index c.raised-z.result l) r (c.raised-z.ensures l known) is;
    }
