use Rattle.std.proofs.Common.{◌<◌, ℕ, sym, refl, ap, ◌∙◌, arith}
use Rattle.lbm_cell.specs.Collision.{reflection}
use Rattle.lbm_walk.specs.Turns.{IsUnderway}
use Rattle.lbm_walk.proofs.Turns.{underway_all, opposite_rest, turn_rest}
use Rattle.lbm_lanes.proofs.bounce.bounce_rows.Goals as goal

pub returns-clause-sent : goal.returns-clause-sent
returns-clause-sent g c i j known cell =
    let v = g.V.VelocitySet.stencil in let laws = g.met.V.VelocitySet.laws in let R = g.R.Rows in let rows = c.args.rows.now in
    let h = λ (j i : ℕ). R.there rows i j in let A = λ (j : ℕ). reflection v (h j) in let three = c.bounce_nine-3.new.rows in
    let start : IsUnderway v (R.count rows) 0 A h (R.there rows) (R.sent rows) = record { done = λ i j known cell early. absurd (omega (arith, early)); left = λ i j known cell late. refl } in
    let all : IsUnderway v (R.count three) 27 A h (R.there three) (R.sent three) = c.bounce_nine-3.ensures.underway h (c.bounce_nine-2.ensures.underway h (c.bounce_nine.ensures.underway h start)) in
    let counted : j < R.count three = omega (arith, cell, c.bounce_nine-3.ensures.count, c.bounce_nine-2.ensures.count, c.bounce_nine.ensures.count) in
    underway_all v (R.count three) A h (R.there three) (R.sent three) (R.sent c.put.new.self) laws all
    (λ j here. c.put.ensures.sent j here ∙ c.take-rest.ensures.cells j here ∙ all.left 0 j laws.some_direction here (omega (arith, turn_rest v)) ∙ ap (h j) (sym (opposite_rest v laws)))
    (λ k j below off here. c.put.ensures.still_sent k j below off here)
    i j known counted
