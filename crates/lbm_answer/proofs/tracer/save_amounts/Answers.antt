use Rattle.std.proofs.Common.{rules}
use Rattle.lbm_answer.proofs.Reading.{same_counts}
use Rattle.lbm_answer.proofs.SavedFiles.{trace-some, saved-whole, saved-front}
use Rattle.lbm_answer.proofs.tracer.save_amounts.Goals as goal

pub returns-in-Ok-clause-saved : goal.returns-in-Ok-clause-saved
returns-in-Ok-clause-saved g c = (
  same_counts c.args.name.now _ _ c.in-Ok.ensures.other_faults c.in-Ok.ensures.cause.kept,
  saved-whole _ _ _ _ c.in-Ok.ensures (trace-some c.args.left.now.flow.space c.args.left.now.flow.report.step c.args.left.now.amounts.items),
)

pub returns-in-Err-Failed-clause-saved : goal.returns-in-Err-Failed-clause-saved
returns-in-Err-Failed-clause-saved g c = (
  search rules,
  record { rose = c.in-Err-Failed.ensures.cause.failed (search rules); others = c.in-Err-Failed.ensures.other_faults },
  saved-front _ _ _ _ c.in-Err-Failed.ensures,
)

pub returns-in-Err-Memory-clause-saved : goal.returns-in-Err-Memory-clause-saved
returns-in-Err-Memory-clause-saved g c = saved-front _ _ _ _ c.in-Err-Memory.ensures
