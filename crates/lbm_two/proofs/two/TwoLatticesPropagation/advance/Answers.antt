use Rattle.std.proofs.Common.{◌≡◌, sym, subst}
use Rattle.lbm_model.specs.Layout.{two_layout, state_in}
use Rattle.lbm_arrays.specs.Arrays.{Arrays}
use Rattle.lbm_sweep.specs.Lattices.{IsLaidOut}
use Rattle.lbm_sweep.specs.Steps.{IsStep}
use Rattle.lbm_sweep.proofs.Lattices.{laid_again, laid_alike}
use Rattle.lbm_two.proofs.two.TwoLatticesPropagation.advance.Goals as goal

pub returns-clause-step : goal.returns-clause-step
returns-clause-step g c =
    let case = c.args.case.now in
    subst (λ (r : Arrays). IsStep case (state_in case two_layout c.args.region.now.slots) two_layout r.slots c.write_next-answer.result) (sym c.swap.ensures.x_after) c.write_next-answer.ensures.step

pub returns-clause-same : goal.returns-clause-same
returns-clause-same g c =
    let case = c.args.case.now in let old = c.args.region.now in let next = c.write_next-answer.new.next in
    subst (λ (r : Arrays). r ≡ record old { slots = r.slots }) (sym c.swap.ensures.x_after)
    (laid_alike case two_layout old next c.requires.kept.laid (laid_again case two_layout c.args.self.now.next next c.write_next-answer.ensures.next c.requires.own))

pub returns-clause-own : goal.returns-clause-own
returns-clause-own g c =
    let case = c.args.case.now in
    subst (IsLaidOut case two_layout) (sym c.swap.ensures.y_after) (laid_again case two_layout c.args.region.now c.write_next-answer.new.now c.write_next-answer.ensures.now c.requires.kept.laid)
