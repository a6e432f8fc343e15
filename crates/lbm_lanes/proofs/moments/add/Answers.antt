use Rattle.std.proofs.Common.{◌≡◌, ◌<◌, ◌≤◌, ℕ, List, ℤ, unsigned_abs, ap, subst, sym, arith}
use Rattle.std.specs.Prelude.{FitsSigned}
use Rattle.std.specs.Int.{w32}
use Rattle.lbm_space.specs.Stencil.{part, velocity}
use Rattle.lbm_lanes.specs.Lanes.{entry, held}
use Rattle.lbm_lanes.proofs.Summing.{summed_next, held_is, step_is}
use Rattle.lbm_lanes.proofs.moments.add.Goals as goal

pub returns : goal.returns
returns g c = λ l lane.
    let v = g.V.VelocitySet.stencil in let laws = g.met.V.VelocitySet.laws in let rows = c.args.rows.now in let n = g.R.Rows.count rows in
    let h = held n (g.R.Rows.there rows) l in let s = c.args.sums in let i = c.args.i in let f = entry c.take-f.result l in
    let known : i < v.directions = omega (arith, c.if-i-Q.false, c.Q.ensures, g.met.V.VelocitySet.constants.0) in
    let is : (a : ℕ) → a < 3 → part c.c-c.result a ≡ part (velocity v i) a = λ a axis. ap (λ (u : List ℤ). part u a) c.c-c.ensures in
    let unit : (a : ℕ) → a < 3 → unsigned_abs (part c.c-c.result a) ≤ 1 = λ a axis. subst (λ (z : ℤ). unsigned_abs z ≤ 1) (sym (is a axis)) (laws.unit_parts i a known axis) in
    let f_is : f ≡ h i = held_is n (g.R.Rows.there rows) l i f (c.take-f.ensures.cells l) (c.take-f.ensures.past l) in
    summed_next v i h (entry s.rho l) (entry s.x l) (entry s.y l) (entry s.z l) (entry s.signs l) (entry c.plus.result l) (entry c.with.result l) (entry c.with-2.result l) (entry c.with-3.result l) (entry c.signs.result l) f (part c.c-c.result)
    known is unit f_is (subst (FitsSigned w32) (sym f_is) (c.requires.fits i l known lane)) (c.plus.ensures l lane)
    (step_is (entry c.with.result l) (entry s.x l) (part c.c-c.result 0) f (unit 0 (omega arith)) (c.with.ensures l lane))
    (step_is (entry c.with-2.result l) (entry s.y l) (part c.c-c.result 1) f (unit 1 (omega arith)) (c.with-2.ensures l lane))
    (step_is (entry c.with-3.result l) (entry s.z l) (part c.c-c.result 2) f (unit 2 (omega arith)) (c.with-3.ensures l lane))
    (c.signs.ensures.sign l lane) (c.signs.ensures.fits l lane) (c.requires.sums l lane)
