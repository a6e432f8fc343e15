-- What a call answers where its run has ended early.
use Rattle.lbm_answer.specs.declared.answer.End.{End}
use Rattle.lbm_answer.specs.declared.answer.End.TheVariants.{Range, Memory}
use Rattle.lbm_flow.specs.declared.run.RunEnd.{RunEnd}
use Rattle.lbm_flow.specs.declared.run.RunEnd.TheVariants as run_ends

-- where a run has ended before its last step
abbrev pub run_end : RunEnd → End
run_end (run_ends.Range step cell) = Range step cell
run_end run_ends.Memory = Memory
