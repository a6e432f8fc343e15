use Rattle.std.proofs.Common.{ap, sym, subst, arith}
use Rattle.lbm_space.specs.Torus.{rows}
use Rattle.lbm_model.specs.Flow.{IsStateOf}
use Rattle.lbm_rows.specs.Division.{AreFew}
use Rattle.lbm_answer.proofs.Stepped.{first_is_state}
use Rattle.lbm_flow.proofs.tracer_finish.carry.Goals as goal

pub carry_by-requires-clause-outset : goal.carry_by-requires-clause-outset
carry_by-requires-clause-outset g c κs within =
    let case = c.args.case in
    let choice = c.requires.request.choice in
    record {
      set = c.requires.set;
      first = c.in_ok-first_state.ensures.first;
      state = subst (IsStateOf case) (sym c.in_ok-first_state.ensures.first) (first_is_state case);
      narrow = c.in_ok-first_state.ensures.narrow;
      cutting = c.requires.cutting;
      division = record {
        some = omega (arith, c.tile_rows.ensures.enough, choice.some_rows);
        few = subst (λ n. AreFew n c.tile_rows.result) (ap rows c.space.ensures.value) c.tile_rows.ensures.few;
        turns = (omega (arith, choice.some_workers), choice.few_workers);
      };
    }
