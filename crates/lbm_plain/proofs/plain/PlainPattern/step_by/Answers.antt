use Rattle.std.proofs.Common.{sym, subst}
use Rattle.lbm_model.specs.Flow.{IsStateOf}
use Rattle.lbm_model.specs.Small.{IsSmall}
use Rattle.lbm_model.proofs.Mass.{IsStateOf-next}
use Rattle.lbm_model.proofs.SmallStates.{small-next}
use Rattle.lbm_plain.proofs.plain.PlainPattern.step_by.Goals as goal

pub invariant_of-self-2 : goal.invariant_of-self-2
invariant_of-self-2 g c =
    let p = c.self.inside in let kept = c.self.invariant in record {
      set = kept.set;
      valid = kept.valid;
      state = subst (IsStateOf p.case) (sym c.in-Ok.ensures) (IsStateOf-next p.case p.state);
      small = λ none. subst (IsSmall p.case) (sym c.in-Ok.ensures) (small-next p.case p.state kept.valid (kept.small c.in_default.is) (sym c.in_default-least_out_of_limits.ensures));
    }
