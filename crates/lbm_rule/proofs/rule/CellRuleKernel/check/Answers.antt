use Rattle.std.proofs.Common.{◌+◌, ℕ, ap, subst, arith, ◌∙◌}
use Rattle.std.specs.Prelude.{◌&&◌, not, nat_lt}
use Rattle.lbm_model.specs.Case.{FlowCase}
use Rattle.lbm_model.specs.Flow.{is_sound}
use Rattle.lbm_walk.specs.First.{IsFirst}
use Rattle.lbm_lanes.specs.Lanes.{has}
use Rattle.lbm_rule.proofs.Lanes.{AreMasked, first_out}
use Rattle.lbm_rule.proofs.rule.CellRuleKernel.check.Goals.{After-fluid_mask}
use Rattle.lbm_rule.proofs.rule.CellRuleKernel.check.Goals as goal

masked : (g : _) (c : After-fluid_mask g) → AreMasked c.self.inside.case.now c.args.cell (g.R.Rows.count c.args.rows.now) c.solid_mask-solid.result c.fluid_mask.result
masked g c = record {
  few = omega (arith, c.count-n.ensures.value, c.count-n.ensures.few);
  solid_is = λ j within. c.solid_mask-solid.ensures.solid j (omega (arith, within, c.count-n.ensures.value));
  fluid_is = λ j lane. c.fluid_mask.ensures j lane ∙ ap (λ (n : ℕ). nat_lt j n && not (has c.solid_mask-solid.result j)) c.count-n.ensures.value;
}

pub returns : goal.returns
returns g c = record {
  first = λ f taken.
      let here = (goal.at.returns g c).After-fluid_mask in let rows = c.args.rows.now in let n = g.R.Rows.count rows in
      subst (λ (case : FlowCase). IsFirst (λ j. is_sound case (c.args.cell + j) (f j)) 0 n c.check_rows.result) c.self.view_is
      (first_out g.V.VelocitySet.stencil c.self.inside.case.now c.self.invariant.set c.args.cell n c.solid_mask-solid.result c.fluid_mask.result (masked g here) (g.R.Rows.there rows) f taken c.check_rows.result c.check_rows.ensures);
}
