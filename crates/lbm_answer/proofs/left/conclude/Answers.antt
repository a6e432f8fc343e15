use Rattle.std.proofs.Common.{◌∙◌, ◌≤◌, length, ap, sym, subst}
use Rattle.lbm_model.proofs.Sizes.{few_cells}
use Rattle.lbm_answer.proofs.PrintedFits.{length-printed_moments}
use Rattle.lbm_answer.proofs.left.conclude.Goals as goal

pub total_momentum-requires-clause-few : goal.total_momentum-requires-clause-few
total_momentum-requires-clause-few g c =
    let case = c.args.case.now in
    let count = ap length (c.deref.ensures.value ∙ c.in_ok-moments.ensures.moments) ∙ length-printed_moments case c.args.state in
    subst (λ n. n ≤ 4194304) (sym count) (few_cells case.torus c.space-space.ensures.valid.space)
