use Rattle.std.proofs.Common.{◌≡◌, ◌<◌, ◌+ℤ◌, FitsSigned, rules, arith, sym, to_z, of_z}
use Rattle.std.specs.Int.{w64}
use Rattle.std.proofs.lemmas.Int.{ints}
use Rattle.lbm_space.proofs.Sums.{sum_below_more}
use Rattle.lbm_model.specs.Case.{gain}
use Rattle.lbm_model.proofs.walls.cell_gain.Goals as goal

pub loop-dir-preserved : goal.loop-dir-preserved
loop-dir-preserved g c =
    let known : c.loop-dir.dir < 27 = omega (arith, g.met.V.VelocitySet.constants.0, g.met.V.VelocitySet.laws.few_directions) in
    let sum = to_z w64 c.loop-dir.sum-bits in
    let fits : FitsSigned w64 c.gain-sum.result = search rules in
    let added : to_z w64 (of_z w64 (sum +ℤ to_z w64 (of_z w64 c.gain-sum.result))) ≡ sum +ℤ c.gain-sum.result = omega (arith, ints, c.loop-dir.invariant.small, c.gain-sum.ensures.size) in
    let more = sum_below_more c.loop-dir.dir (gain c.args.case.now c.args.cell) in
    record {
      done = rw (added, c.loop-dir.invariant.done, c.gain-sum.ensures.value) (sym more);
      small = rw added (omega (arith, ints, c.loop-dir.invariant.small, c.gain-sum.ensures.size));
    }
