use Rattle.std.proofs.Common.{ℤ, pos, ◌-ℤ◌, ap, ◌∙◌}
use Rattle.std.specs.Prelude.{not}
use Rattle.std.proofs.lemmas.Simd.{get_or-replicate}
use Rattle.lbm_lanes.specs.Lanes.{entry}
use Rattle.lbm_lanes.proofs.Summing.{limits_is}
use Rattle.lbm_lanes.proofs.moments.Sums.out_of_limits.Goals as goal

pub returns : goal.returns
returns c = λ l known.
    let s = c.args.self.now in
    c.negative.ensures l known ∙ ap not (limits_is (entry s.signs l) (entry s.rho l) (entry c.minus-thin.result l) (entry c.minus-dense.result l) (entry c.signs.result l) (entry c.signs-2.result l)
    (c.minus-thin.ensures l known ∙ ap (λ (z : ℤ). entry s.rho l -ℤ z) (get_or-replicate 8 l (pos 442368) (pos 0) known))
    (c.minus-dense.ensures l known ∙ ap (λ (z : ℤ). z -ℤ entry s.rho l) (get_or-replicate 8 l (pos 1769472) (pos 0) known))
    (c.signs.ensures.sign l known) (c.signs-2.ensures.sign l known))
