use Rattle.std.proofs.Common.{◌≡◌, ◌∙◌, ℕ, ap, arith}
use Rattle.std.specs.Prelude.{◌&&◌}
use Rattle.lbm_lanes.specs.Lanes.{has, least_passing}
use Rattle.lbm_lanes.proofs.Masks.{no_bit}
use Rattle.lbm_lanes.proofs.Outcome.{least_none}
use Rattle.lbm_lanes.proofs.kernel.least.Goals as goal

pub returns-then-common-eq0 : goal.returns-then-common-eq0
returns-then-common-eq0 c = least_none 8 (λ j. has c.args.fluid j && has c.args.out j) (λ j lane. no_bit c.args.fluid c.args.out j c.if-common-eq0.true)

pub returns : goal.returns
returns c =
    let end : c.loop-j.j ≡ 8 = omega (arith, c.loop-j.auto.j-end, c.loop-j-test.false) in
    c.loop-j.invariant ∙ ap (λ (n : ℕ). least_passing n (λ k. has c.args.fluid k && has c.args.out k)) end
