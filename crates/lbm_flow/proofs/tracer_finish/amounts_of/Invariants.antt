use Rattle.std.proofs.Common.{◌≡◌}
use Rattle.lbm_space.specs.Sum.{list_below}
use Rattle.lbm_tracer.specs.Carried.{carried}
use Rattle.lbm_answer.specs.Reports.{printed_amount}
use Rattle.lbm_flow.proofs.tracer_finish.amounts_of.Given as goal

abbrev pub invariant-loop-cell : goal.invariant-loop-cell
invariant-loop-cell g l = l.amounts.items ≡ list_below l.cell (printed_amount l.case (carried l.tracer).state)
