use Rattle.lbm_model.proofs.Worked.{pushed, leaving, levelled, unmoved, crowded, boxed, mixed, pressed, slid, kept}
use Rattle.lbm_model.proofs.laws.worked_cases.Goals as goal

pub returns : goal.returns
returns c = record {
  pushed = pushed;
  leaving = leaving;
  levels = levelled;
  unmoved = unmoved;
  dense = crowded;
  boxed = boxed;
  rates = mixed;
  pressing = pressed;
  sliding = slid;
  layouts = kept;
}
