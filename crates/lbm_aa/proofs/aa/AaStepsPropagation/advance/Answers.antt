use Rattle.lbm_aa.proofs.Steps.{aa_layout-even, aa_layout-odd}
use Rattle.lbm_aa.proofs.aa.AaStepsPropagation.advance.Goals as goal

pub returns-then-time-eq0-clause-step : goal.returns-then-time-eq0-clause-step
returns-then-time-eq0-clause-step g c = let turn = aa_layout-even c.args.time c.if-time-eq0.true in rw (turn.0, turn.1) c.sweep_and_turn.ensures.step

pub returns-else-time-eq0-clause-step : goal.returns-else-time-eq0-clause-step
returns-else-time-eq0-clause-step g c = let turn = aa_layout-odd c.args.time c.if-time-eq0.false in rw (turn.0, turn.1) c.odd_step.ensures.step
