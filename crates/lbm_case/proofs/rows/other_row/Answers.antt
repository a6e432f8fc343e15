use Rattle.std.proofs.Common.{◌==◌, not, length, sym, ◌∙◌}
use Rattle.lbm_case.specs.Drawing.{other_row}
use Rattle.lbm_case.proofs.DrawingLemmas.{position-drawing_view}
use Rattle.lbm_case.proofs.rows.other_row.Goals as goal

pub returns : goal.returns
unfolding other_row
returns c = rw (← c.width.ensures) (c.position_of_other.ensures ∙ sym (position-drawing_view (λ cs. not (length cs == c.width.result)) c.args.rows.now))
