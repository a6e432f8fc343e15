use Rattle.std.proofs.Common.{◌≡◌, ◌≤◌, ◌*◌, ◌/◌, ◌%◌, ℕ, arith, ap, sym, subst, ◌∙◌}
use Rattle.lbm_space.specs.Sum.{list_below}
use Rattle.lbm_space.specs.Torus.{cells}
use Rattle.lbm_cell.specs.Moments.{populations}
use Rattle.lbm_model.specs.State.{IsState, flow_state}
use Rattle.lbm_model.specs.Flow.{first_in}
use Rattle.lbm_model.specs.Small.{IsNarrow}
use Rattle.lbm_model.proofs.SmallStates.{narrow-first}
use Rattle.lbm_model.proofs.FirstLemmas.{list_below_cell, IsState-whole, is_first}
use Rattle.lbm_model.proofs.Sizes.{few_cells}
use Rattle.lbm_model.proofs.first.first_state.Goals as goal

pub loop-cell-preserved : goal.loop-cell-preserved
loop-cell-preserved g c =
    let q = g.V.VelocitySet.stencil.directions in
    let width : c.Q-in-loop-cell.result ≡ q = c.Q-in-loop-cell.ensures ∙ g.met.V.VelocitySet.constants.0 in
    list_below_cell q c.Q-in-loop-cell.result c.loop-cell.cell c.loop-cell.pops.items c.push_cell.new.pops.items (first_in c.args.case.now) (populations c.cell_pops.result.f) width c.cell_pops.ensures.first c.loop-cell.invariant c.in_ok-push_cell.ensures

pub new-requires : goal.new-requires
new-requires g c =
    let laws = g.met.V.VelocitySet.laws in
    let q = g.V.VelocitySet.stencil.directions in
    let n = c.loop-cell.cell in
    let width : c.Q-2.result ≡ q = c.Q-2.ensures ∙ g.met.V.VelocitySet.constants.0 in
    let few : n ≤ 4194304 = omega (arith, few_cells c.space.result.now c.cells-cells.ensures.valid) in
    let made : flow_state c.Q-2.result c.loop-cell.pops.items ≡ flow_state q (list_below (n * q) (λ k. first_in c.args.case.now (k / q) (k % q))) =
    ap (λ (k : ℕ). flow_state k c.loop-cell.pops.items) width ∙ ap (flow_state q) c.loop-cell.invariant in
    subst IsState (sym made) (IsState-whole q n (λ k. first_in c.args.case.now (k / q) (k % q)) laws.some_direction laws.few_directions few)

pub returns-clause-first : goal.returns-clause-first
returns-clause-first g c =
    let case = c.args.case.now in
    let n = c.loop-cell.cell in
    let width : c.Q-2.result ≡ g.V.VelocitySet.stencil.directions = c.Q-2.ensures ∙ g.met.V.VelocitySet.constants.0 in
    let last : n ≡ c.cells-cells.result = omega arith in
    let all : n ≡ cells case.torus = last ∙ c.cells-cells.ensures.count ∙ ap cells c.space.ensures.value in
    is_first case g.V.VelocitySet.stencil c.Q-2.result n c.loop-cell.pops.items c.new.result c.requires width all c.loop-cell.invariant c.new.ensures

pub returns-clause-narrow : goal.returns-clause-narrow
returns-clause-narrow g c = subst IsNarrow (sym (returns-clause-first g c)) (narrow-first c.args.case.now c.space.ensures.valid)
