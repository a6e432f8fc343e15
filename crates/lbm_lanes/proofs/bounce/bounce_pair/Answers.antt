use Rattle.std.proofs.Common.{◌≡◌, ◌<◌, ◌≤◌, ◌+◌, ap, sym, refl, ◌∙◌, arith}
use Rattle.lbm_space.specs.Stencil.{opposite}
use Rattle.lbm_cell.specs.Collision.{reflection}
use Rattle.lbm_walk.specs.Turns.{turn}
use Rattle.lbm_walk.proofs.Turns.{turn_is, underway_none, underway_both, underway_at, turn_moving, turn_opposite}
use Rattle.lbm_lanes.proofs.bounce.bounce_pair.Goals.{then-i-eq0-via-then-i-eq0, then-i-eq0-via-else-i-eq0+then-i-Q}
use Rattle.lbm_lanes.proofs.bounce.bounce_pair.Goals as goal

pub returns-then-i-eq0-clause-underway : goal.returns-then-i-eq0-clause-underway
returns-then-i-eq0-clause-underway g c h is =
    let v = g.V.VelocitySet.stencil in let rows = c.args.rows.now in let laws = g.met.V.VelocitySet.laws in let q = g.met.V.VelocitySet.constants.0 in
    underway_none v (g.R.Rows.count rows) (λ j. reflection v (h j)) h laws c.args.i (g.R.Rows.there rows) (g.R.Rows.sent rows) (λ i known e.
    let t = turn_is v c.args.i i laws known c.requires e in
    elim c.then-i-eq0.branch [
      | then-i-eq0-via-then-i-eq0 w ↦ absurd (omega (arith, t.0, w.if-i-eq0.true))
      | then-i-eq0-via-else-i-eq0+then-i-Q w ↦ absurd (omega (arith, t.1, w.if-i-Q.true, w.Q.ensures, q))
    ]) is

pub returns-then-o-i-clause-underway : goal.returns-then-o-i-clause-underway
returns-then-o-i-clause-underway g c h is =
    let v = g.V.VelocitySet.stencil in let rows = c.args.rows.now in let laws = g.met.V.VelocitySet.laws in
    underway_none v (g.R.Rows.count rows) (λ j. reflection v (h j)) h laws c.args.i (g.R.Rows.there rows) (g.R.Rows.sent rows) (λ i known e.
    let t = turn_is v c.args.i i laws known c.requires e in absurd (omega (arith, t.2, c.if-o-i.true, c.opp-o.ensures))) is

pub returns-clause-underway : goal.returns-clause-underway
returns-clause-underway g c h is =
    let v = g.V.VelocitySet.stencil in let laws = g.met.V.VelocitySet.laws in
    let R = g.R.Rows in let rows = c.args.rows.now in let one = c.put.new.self in let two = c.put-2.new.self in let n = R.count rows in
    let i = c.args.i in let o = c.opp-o.result in let o_is : o ≡ opposite v i = c.opp-o.ensures in let same = c.put.ensures.count in
    let moving : 0 < i = omega (arith, c.if-i-eq0.false) in
    let known : i < v.directions = omega (arith, c.if-i-Q.false, c.Q.ensures, g.met.V.VelocitySet.constants.0) in
    let inside : o < v.directions = omega (arith, o_is, laws.opposite_exists i known) in
    let order : i ≤ o = omega (arith, c.if-o-i.false) in
    let own : turn v i ≡ i = omega (arith, turn_moving v i moving, o_is, order) in
    let others : turn v o ≡ i = ap (turn v) o_is ∙ turn_opposite v i laws known ∙ own in
    let back : opposite v o ≡ i = ap (opposite v) o_is ∙ laws.opposite_twice i known in
    underway_at v n (R.count two) (i + 1) (i + 1) (λ j. reflection v (h j)) h (R.there two) (R.sent two) (c.put-2.ensures.count ∙ same) refl
    (underway_both v n (λ j. reflection v (h j)) h laws i o (R.there rows) (R.sent rows) (R.there one) (R.sent one) (R.there two) (R.sent two) moving known c.requires o_is order
    (λ j cell. c.put.ensures.sent j cell ∙ c.take-g.ensures.cells j cell ∙ is.left o j inside cell (omega (arith, others)) ∙ ap (h j) o_is)
    (λ m j below off cell. c.put.ensures.still_sent m j below off cell)
    (λ m j below off off' cell. c.put.ensures.still_there m j below off off' cell)
    (λ j cell. c.put-2.ensures.sent j (omega (arith, cell, same)) ∙ c.take-f.ensures.cells j cell ∙ is.left i j known cell (omega (arith, own)) ∙ ap (h j) (sym back))
    (λ m j below off cell. c.put-2.ensures.still_sent m j below off (omega (arith, cell, same)))
    (λ m j below off off' cell. c.put-2.ensures.still_there m j below off off' (omega (arith, cell, same)))
    is)
