use Rattle.std.proofs.Common.{sym, subst}
use Rattle.lbm_model.specs.Small.{IsSmall}
use Rattle.lbm_model.proofs.SmallStates.{small-narrow}
use Rattle.lbm_rows.proofs.tiles.Tiles.start.Goals as goal

pub invariant_of-result : goal.invariant_of-result
invariant_of-result g c = (
  record {
    set = c.requires.set;
    valid = c.space.ensures.valid;
    rows = c.in_ok-kept.ensures.sized;
    small = λ none. subst (IsSmall c.args.case) (sym c.in_ok-kept.ensures.placed) (small-narrow c.args.case c.args.state.now c.space.ensures.valid c.requires.state c.requires.narrow);
  },
  c.requires.division,
)
