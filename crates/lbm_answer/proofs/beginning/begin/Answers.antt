use Rattle.std.proofs.Common.{refl, ap, sym, subst, arith}
use Rattle.std.specs.Prelude.{option_map}
use Rattle.lbm_model.specs.Flow.{IsStateOf}
use Rattle.lbm_answer.specs.Jobs.{job_view}
use Rattle.lbm_answer.proofs.Stepped.{first_is_state}
use Rattle.lbm_answer.proofs.Beginnings.{begun-first}
use Rattle.lbm_answer.proofs.beginning.begin.Goals as goal

pub returns-in_ok-first_of-in-None-clause-begun : goal.returns-in_ok-first_of-in-None-clause-begun
returns-in_ok-first_of-in-None-clause-begun g c =
    let case = c.args.case.now in
    let made = c.in_ok-first_of-in-None.ensures in (
      refl,
      record {
        state = subst (IsStateOf case) (sym made.first) (first_is_state case);
        narrow = made.narrow;
        ahead = omega arith;
      },
      λ files told. begun-first (job_view case c.args.job.now) files c.in_ok-first_of-in-None.field-0 (ap (option_map (λ name. name.now)) c.in-None.is) made.first,
    )
