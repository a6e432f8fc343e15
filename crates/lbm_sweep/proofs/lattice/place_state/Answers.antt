use Rattle.std.proofs.Common.{◌≤◌, ap, ◌∙◌, arith}
use Rattle.std.proofs.Math.Nat.{mul-le-mul_right}
use Rattle.lbm_space.specs.Torus.{rows}
use Rattle.lbm_sweep.proofs.Lattices.{state_in-is}
use Rattle.lbm_sweep.proofs.lattice.place_state.Goals as goal

pub returns-clause-placed : goal.returns-clause-placed
returns-clause-placed g c =
    let case = c.args.case.now in let n = c.loop-number.number in
    let all : rows case.torus ≤ n = omega (arith, c.loop-number-test.false, c.rows-number-end.ensures.count ∙ ap rows c.space.ensures.value) in
    let whole = mul-le-mul_right case.torus.nx all in
    state_in-is case c.args.layout c.args.state.now c.loop-number.region.slots c.requires.state (λ y i here known. c.loop-number.invariant.placed y i (omega (arith, here, whole)) known)
