use Rattle.std.proofs.Common.{◌≡◌, ◌+◌, ◌<◌, ◌≤◌, ℕ, ℤ, ◌+ℤ◌, unsigned_abs, ap, sym, subst, arith, ◌∙◌, Some, None}
use Rattle.std.specs.Prelude.{◌&&◌, not, nat_lt}
use Rattle.lbm_space.specs.Stencil.{opposite}
use Rattle.lbm_model.specs.Case.{FlowCase, gain}
use Rattle.lbm_model.specs.Flow.{is_sound, post}
use Rattle.lbm_model.specs.Small.{size_limit}
use Rattle.lbm_walk.specs.First.{IsFirst}
use Rattle.lbm_lanes.specs.Lanes.{has}
use Rattle.lbm_rule.proofs.Lanes.{AreMasked, lanes_fit, wall_small, turned_small, first_out, lane_sends, walls_sound, wall_sends}
use Rattle.lbm_rule.proofs.rule.CellRuleKernel.collide.Goals.{After-fluid_mask-fluid}
use Rattle.lbm_rule.proofs.rule.CellRuleKernel.collide.Goals as goal

masked : (g : _) (c : After-fluid_mask-fluid g) → AreMasked c.self.inside.case.now c.args.cell (g.R.Rows.count c.args.rows.now) c.solid_mask-solid.result c.fluid_mask-fluid.result
masked g c = record {
  few = omega (arith, c.count-n.ensures.value, c.count-n.ensures.few);
  solid_is = λ j within. c.solid_mask-solid.ensures.solid j (omega (arith, within, c.count-n.ensures.value));
  fluid_is = λ j lane. c.fluid_mask-fluid.ensures j lane ∙ ap (λ (n : ℕ). nat_lt j n && not (has c.solid_mask-solid.result j)) c.count-n.ensures.value;
}

small : (g : _) (c : After-fluid_mask-fluid g) (i j : ℕ) → i < g.V.VelocitySet.stencil.directions → j < g.R.Rows.count c.args.rows.now → unsigned_abs (g.R.Rows.there c.args.rows.now i j) ≤ size_limit c.self.inside.case.now (c.args.cell + j)
small g c i j known within = subst (λ (case : FlowCase). unsigned_abs (g.R.Rows.there c.args.rows.now i j) ≤ size_limit case (c.args.cell + j)) (sym c.self.view_is) (c.requires.small i j known within)

pub add_gains-requires-clause-small : goal.add_gains-requires-clause-small
add_gains-requires-clause-small g c i j known within moves =
    let here = (goal.at.add_gains-requires-clause-small g c).After-fluid_mask-fluid in let rows = c.args.rows.now in
    let cell : j < g.R.Rows.count rows = omega (arith, within, c.bounce_rows.ensures.count) in
    let turned : g.R.Rows.sent c.bounce_rows.new.rows i j ≡ g.R.Rows.there rows (opposite g.V.VelocitySet.stencil i) j = c.bounce_rows.ensures.sent i j known cell in
    rw turned (wall_small g.V.VelocitySet.stencil c.self.inside.case.now c.self.invariant.set c.args.cell (g.R.Rows.count rows) c.solid_mask-solid.result c.fluid_mask-fluid.result (masked g here) (g.R.Rows.there rows) (small g here)
    c.solid_mask-solid.ensures.valid g.met.V.VelocitySet.laws i j known cell moves)

pub returns-then-fluid-eq0-clause-first : goal.returns-then-fluid-eq0-clause-first
returns-then-fluid-eq0-clause-first g c f taken =
    let here = (goal.at.returns-then-fluid-eq0-clause-first g c).After-fluid_mask-fluid in let rows = c.args.rows.now in let n = g.R.Rows.count rows in
    subst (λ (case : FlowCase). IsFirst (λ j. is_sound case (c.args.cell + j) (f j)) 0 n None) c.self.view_is
    (walls_sound g.V.VelocitySet.stencil c.self.inside.case.now c.self.invariant.set c.args.cell n c.solid_mask-solid.result c.fluid_mask-fluid.result (masked g here) (g.R.Rows.there rows) f taken c.if-fluid-eq0.true)

pub returns-then-fluid-eq0-clause-post : goal.returns-then-fluid-eq0-clause-post
returns-then-fluid-eq0-clause-post g c f taken none i j known within =
    let here = (goal.at.returns-then-fluid-eq0-clause-post g c).After-fluid_mask-fluid in let R = g.R.Rows in let rows = c.args.rows.now in
    let case = c.self.inside.case.now in
    c.add_gains.ensures.sent i j known (omega (arith, within, c.bounce_rows.ensures.count))
    ∙ ap (λ (z : ℤ). z +ℤ gain case (c.args.cell + j) i) (c.bounce_rows.ensures.sent i j known within)
    ∙ wall_sends g.V.VelocitySet.stencil case c.self.invariant.set c.args.cell (R.count rows) c.solid_mask-solid.result c.fluid_mask-fluid.result (masked g here) (R.there rows) f taken c.if-fluid-eq0.true g.met.V.VelocitySet.laws i j known within
    ∙ ap (λ (k : FlowCase). post k (c.args.cell + j) (f j) i) c.self.view_is

pub collide_rows_within-requires-clause-fits : goal.collide_rows_within-requires-clause-fits
collide_rows_within-requires-clause-fits g c i j known lane =
    let here = (goal.at.collide_rows_within-requires-clause-fits g c).After-fluid_mask-fluid in let rows = c.args.rows.now in
    lanes_fit g.V.VelocitySet.stencil c.self.inside.case.now c.self.invariant.set c.args.cell (g.R.Rows.count rows) c.solid_mask-solid.result c.fluid_mask-fluid.result (masked g here) (g.R.Rows.there rows) (small g here) i j known lane

pub add_gains-requires-in-None-clause-small : goal.add_gains-requires-in-None-clause-small
add_gains-requires-in-None-clause-small g c i j known within moves =
    let here = (goal.at.add_gains-requires-in-None-clause-small g c).After-fluid_mask-fluid in let rows = c.args.rows.now in
    let cell : j < g.R.Rows.count rows = omega (arith, within, c.collide_rows_within.ensures.count) in
    turned_small g.V.VelocitySet.stencil c.self.inside.case.now c.self.invariant.set c.args.cell (g.R.Rows.count rows) c.solid_mask-solid.result c.fluid_mask-fluid.result (masked g here) (g.R.Rows.there rows) (small g here)
    c.solid_mask-solid.ensures.valid g.met.V.VelocitySet.laws c.self.inside.rule.rates c.self.inside.rule.force i j (g.R.Rows.sent c.collide_rows_within.new.rows i j) known cell moves (c.collide_rows_within.ensures.post c.in-None.is i j known cell)

pub returns-in-Some-clause-first : goal.returns-in-Some-clause-first
returns-in-Some-clause-first g c f taken =
    let here = (goal.at.returns-in-Some-clause-first g c).After-fluid_mask-fluid in let rows = c.args.rows.now in let n = g.R.Rows.count rows in
    subst (λ (case : FlowCase). IsFirst (λ j. is_sound case (c.args.cell + j) (f j)) 0 n (Some c.in-Some.lane)) c.self.view_is
    (first_out g.V.VelocitySet.stencil c.self.inside.case.now c.self.invariant.set c.args.cell n c.solid_mask-solid.result c.fluid_mask-fluid.result (masked g here) (g.R.Rows.there rows) f taken (Some c.in-Some.lane) (sym c.in-Some.is ∙ c.collide_rows_within.ensures.answer))

pub returns-in-None-clause-first : goal.returns-in-None-clause-first
returns-in-None-clause-first g c f taken =
    let here = (goal.at.returns-in-None-clause-first g c).After-fluid_mask-fluid in let rows = c.args.rows.now in let n = g.R.Rows.count rows in
    subst (λ (case : FlowCase). IsFirst (λ j. is_sound case (c.args.cell + j) (f j)) 0 n None) c.self.view_is
    (first_out g.V.VelocitySet.stencil c.self.inside.case.now c.self.invariant.set c.args.cell n c.solid_mask-solid.result c.fluid_mask-fluid.result (masked g here) (g.R.Rows.there rows) f taken None (sym c.in-None.is ∙ c.collide_rows_within.ensures.answer))

pub returns-in-None-clause-post : goal.returns-in-None-clause-post
returns-in-None-clause-post g c f taken none i j known within =
    let here = (goal.at.returns-in-None-clause-post g c).After-fluid_mask-fluid in let R = g.R.Rows in let rows = c.args.rows.now in
    let case = c.self.inside.case.now in let rule = c.self.inside.rule in
    c.add_gains-in-None.ensures.sent i j known (omega (arith, within, c.collide_rows_within.ensures.count))
    ∙ ap (λ (z : ℤ). z +ℤ gain case (c.args.cell + j) i) (c.collide_rows_within.ensures.post c.in-None.is i j known within)
    ∙ lane_sends g.V.VelocitySet.stencil case c.self.invariant.set c.args.cell (R.count rows) c.solid_mask-solid.result c.fluid_mask-fluid.result (masked g here) (R.there rows) f taken
    c.solid_mask-solid.ensures.valid g.met.V.VelocitySet.laws rule.rates rule.force c.self.invariant.rates_are c.self.invariant.force_is (sym c.in-None.is ∙ c.collide_rows_within.ensures.answer) i j known within
    ∙ ap (λ (k : FlowCase). post k (c.args.cell + j) (f j) i) c.self.view_is
