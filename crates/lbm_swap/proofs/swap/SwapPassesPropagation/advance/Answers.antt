use Rattle.std.proofs.Common.{◌∙◌}
use Rattle.lbm_lattice.proofs.Steps.{not_none}
use Rattle.lbm_swap.proofs.swap.SwapPassesPropagation.advance.Goals as goal

pub returns-then-is_none-clause-step : goal.returns-then-is_none-clause-step
returns-then-is_none-clause-step g c =
    let step = c.sweep_and_turn-answer.ensures.step in record { first = step.first; next = λ none. c.pass_on.ensures.arrived ∙ step.next none }

pub returns-else-is_none-clause-step : goal.returns-else-is_none-clause-step
returns-else-is_none-clause-step g c =
    let step = c.sweep_and_turn-answer.ensures.step in
    record { first = step.first; next = λ none. absurd (not_none c.sweep_and_turn-answer.result c.is_none.result c.is_none.ensures c.if-is_none.false none) }
