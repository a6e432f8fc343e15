use Rattle.std.proofs.Common.{◌≡◌, true, false, FitsSigned, rules, sym, ap, ℤ, ◌+ℤ◌, ◌∙◌}
use Rattle.std.specs.Int.{w64}
use Rattle.std.proofs.lemmas.Int.{to_z-of_z}
use Rattle.lbm_model.specs.Case.{is_moving}
use Rattle.lbm_model.proofs.Gains.{gain_fits, gain_is}
use Rattle.lbm_rule.proofs.Lanes.{no_gain}
use Rattle.lbm_rule.proofs.gains.with_gain.Goals as goal

pub overflow_add-result : goal.overflow_add-result
overflow_add-result g c =
    let moves : is_moving c.args.case.now c.args.cell ≡ true = sym c.requires.moves ∙ c.if-moves.true in
    gain_fits c.args.sent c.moving_gain.result (c.requires.small moves) c.moving_gain.ensures.size

pub returns-then-moves : goal.returns-then-moves
returns-then-moves g c =
    let moves : is_moving c.args.case.now c.args.cell ≡ true = sym c.requires.moves ∙ c.if-moves.true in
    gain_is c.args.sent c.moving_gain.result (c.requires.small moves) c.moving_gain.ensures.size ∙ ap (λ (z : ℤ). c.args.sent +ℤ z) c.moving_gain.ensures.value

pub returns-else-moves : goal.returns-else-moves
returns-else-moves g c =
    let still : is_moving c.args.case.now c.args.cell ≡ false = sym c.requires.moves ∙ c.if-moves.false in
    let fits : FitsSigned w64 c.args.sent = search rules in
    to_z-of_z w64 c.args.sent fits ∙ no_gain c.args.case.now c.args.cell c.args.dir c.args.sent still
