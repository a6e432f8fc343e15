use Rattle.std.proofs.Common.{◌≡◌, ◌+◌, ℕ, false, ap, sym, arith, ◌∙◌}
use Rattle.std.specs.Prelude.{◌==◌}
use Rattle.std.proofs.lemmas.Nat.Bits.{bit_at-zero}
use Rattle.lbm_lanes.specs.Lanes.{has}
use Rattle.lbm_model.specs.Case.{is_solid, is_moving}
use Rattle.lbm_model.proofs.Moving.{none_from}
use Rattle.lbm_rule.proofs.Lanes.{no_gain, fluid_still}
use Rattle.lbm_rule.proofs.gains.add_gains.Goals as goal

pub returns-then-solid-eq0-clause-sent : goal.returns-then-solid-eq0-clause-sent
returns-then-solid-eq0-clause-sent g c i j known within =
    let case = c.args.case.now in let at = c.args.cell + j in
    let fluid : is_solid case at ≡ false = sym (c.requires.solid j within) ∙ ap (λ (m : ℕ). has m j) c.if-solid-eq0.true ∙ ap (λ (b : ℕ). b == 1) (bit_at-zero j) in
    no_gain case at i (g.R.Rows.sent c.args.rows.now i j) (fluid_still case at c.space.ensures.valid fluid)

pub returns-then-not-any_moving-clause-sent : goal.returns-then-not-any_moving-clause-sent
returns-then-not-any_moving-clause-sent g c i j known within =
    let case = c.args.case.now in let at = c.args.cell + j in
    let still : is_moving case at ≡ false = none_from case.moving c.args.cell c.count-n.result j (omega (arith, within, c.count-n.ensures.value)) (sym c.any_moving.ensures.value ∙ c.if-not-any_moving.true) in
    no_gain case at i (g.R.Rows.sent c.args.rows.now i j) still
