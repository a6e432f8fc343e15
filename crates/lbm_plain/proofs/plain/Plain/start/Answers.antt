use Rattle.lbm_model.proofs.SmallStates.{small-narrow}
use Rattle.lbm_plain.proofs.plain.Plain.start.Goals as goal

pub invariant_of-result : goal.invariant_of-result
invariant_of-result g c = record {
  set = c.requires.set;
  valid = c.space.ensures.valid;
  state = c.requires.state;
  small = λ none. small-narrow c.args.case c.args.state c.space.ensures.valid c.requires.state c.requires.narrow;
}
