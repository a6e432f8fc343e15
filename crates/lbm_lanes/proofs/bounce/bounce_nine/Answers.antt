use Rattle.std.proofs.Common.{ℕ, ◌+◌, refl, arith}
use Rattle.lbm_cell.specs.Collision.{reflection}
use Rattle.lbm_walk.proofs.Turns.{underway_at}
use Rattle.lbm_lanes.proofs.bounce.bounce_nine.Goals as goal

pub returns-clause-underway : goal.returns-clause-underway
returns-clause-underway g c h p =
    let v = g.V.VelocitySet.stencil in let R = g.R.Rows in let a = g.row.I0 in let A = λ (j : ℕ). reflection v (h j) in
    let p1 = underway_at v (R.count c.bounce_pair.new.rows) (R.count c.bounce_pair.new.rows) (a + 1) (a + 1) A h (R.there c.bounce_pair.new.rows) (R.sent c.bounce_pair.new.rows) refl (omega arith) (c.bounce_pair.ensures.underway h p) in
    let p2 = underway_at v (R.count c.bounce_pair-2.new.rows) (R.count c.bounce_pair-2.new.rows) (a + 1 + 1) (a + 2) A h (R.there c.bounce_pair-2.new.rows) (R.sent c.bounce_pair-2.new.rows) refl (omega arith) (c.bounce_pair-2.ensures.underway h p1) in
    let p3 = underway_at v (R.count c.bounce_pair-3.new.rows) (R.count c.bounce_pair-3.new.rows) (a + 2 + 1) (a + 3) A h (R.there c.bounce_pair-3.new.rows) (R.sent c.bounce_pair-3.new.rows) refl (omega arith) (c.bounce_pair-3.ensures.underway h p2) in
    let p4 = underway_at v (R.count c.bounce_pair-4.new.rows) (R.count c.bounce_pair-4.new.rows) (a + 3 + 1) (a + 4) A h (R.there c.bounce_pair-4.new.rows) (R.sent c.bounce_pair-4.new.rows) refl (omega arith) (c.bounce_pair-4.ensures.underway h p3) in
    let p5 = underway_at v (R.count c.bounce_pair-5.new.rows) (R.count c.bounce_pair-5.new.rows) (a + 4 + 1) (a + 5) A h (R.there c.bounce_pair-5.new.rows) (R.sent c.bounce_pair-5.new.rows) refl (omega arith) (c.bounce_pair-5.ensures.underway h p4) in
    let p6 = underway_at v (R.count c.bounce_pair-6.new.rows) (R.count c.bounce_pair-6.new.rows) (a + 5 + 1) (a + 6) A h (R.there c.bounce_pair-6.new.rows) (R.sent c.bounce_pair-6.new.rows) refl (omega arith) (c.bounce_pair-6.ensures.underway h p5) in
    let p7 = underway_at v (R.count c.bounce_pair-7.new.rows) (R.count c.bounce_pair-7.new.rows) (a + 6 + 1) (a + 7) A h (R.there c.bounce_pair-7.new.rows) (R.sent c.bounce_pair-7.new.rows) refl (omega arith) (c.bounce_pair-7.ensures.underway h p6) in
    let p8 = underway_at v (R.count c.bounce_pair-8.new.rows) (R.count c.bounce_pair-8.new.rows) (a + 7 + 1) (a + 8) A h (R.there c.bounce_pair-8.new.rows) (R.sent c.bounce_pair-8.new.rows) refl (omega arith) (c.bounce_pair-8.ensures.underway h p7) in
    let p9 = underway_at v (R.count c.bounce_pair-9.new.rows) (R.count c.bounce_pair-9.new.rows) (a + 8 + 1) (a + 9) A h (R.there c.bounce_pair-9.new.rows) (R.sent c.bounce_pair-9.new.rows) refl (omega arith) (c.bounce_pair-9.ensures.underway h p8) in
    p9
