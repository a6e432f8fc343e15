use Rattle.std.proofs.Common.{◌≡◌, ◌≢◌, ◌<◌, ◌≤◌, ◌+◌, ℕ, ℤ, unsigned_abs, sym, ap, subst, refl, ◌∙◌, arith, eqb}
use Rattle.std.specs.Prelude.{not}
use Rattle.lbm_lanes.specs.Progress.{IsProgress}
use Rattle.lbm_space.specs.Stencil.{opposite}
use Rattle.lbm_walk.specs.Turns.{turn, sum_before}
use Rattle.lbm_walk.proofs.Turns.{turn_is, underway_both, underway_at, sum_pair, turn_moving, turn_opposite}
use Rattle.lbm_lanes.specs.Cells.{after}
use Rattle.lbm_lanes.specs.Lanes.{entry}
use Rattle.lbm_lanes.proofs.Advancing.{progress_none, taken_is, small_sum, total_next, total_small}
use Rattle.lbm_lanes.proofs.kernel.pair.Goals.{After-take-g, then-i-eq0-via-then-i-eq0, then-i-eq0-via-else-i-eq0+then-i-Q}
use Rattle.lbm_lanes.proofs.kernel.pair.Goals as goal

pub returns-then-i-eq0-clause-progress : goal.returns-then-i-eq0-clause-progress
returns-then-i-eq0-clause-progress g c h cells p =
    let v = g.V.VelocitySet.stencil in let rows = c.args.rows.now in let laws = g.met.V.VelocitySet.laws in let q = g.met.V.VelocitySet.constants.0 in let k = c.args.fluid.now.flags in
    let none : (i : ℕ) → i < v.directions → turn v i ≢ c.args.i = λ i known e. (
    let t = turn_is v c.args.i i laws known c.requires.few e in
    elim c.then-i-eq0.branch [
      | then-i-eq0-via-then-i-eq0 w ↦ absurd (omega (arith, t.0, w.if-i-eq0.true))
      | then-i-eq0-via-else-i-eq0+then-i-Q w ↦ absurd (omega (arith, t.1, w.if-i-Q.true, w.Q.ensures, q))
    ]) in
    progress_none v (g.R.Rows.count rows) c.args.i (after v c.args.run.now.rates c.args.run.now.force (not (eqb g.row.MIXED 0)) k.colliding k.turning h) h (g.R.Rows.there rows) (g.R.Rows.sent rows) c.args.total laws none p

pub returns-then-o-i-clause-progress : goal.returns-then-o-i-clause-progress
returns-then-o-i-clause-progress g c h cells p =
    let v = g.V.VelocitySet.stencil in let rows = c.args.rows.now in let laws = g.met.V.VelocitySet.laws in let k = c.args.fluid.now.flags in
    let none : (i : ℕ) → i < v.directions → turn v i ≢ c.args.i = λ i known e. (
    let t = turn_is v c.args.i i laws known c.requires.few e in absurd (omega (arith, t.2, c.if-o-i.true, c.opp-o.ensures))) in
    progress_none v (g.R.Rows.count rows) c.args.i (after v c.args.run.now.rates c.args.run.now.force (not (eqb g.row.MIXED 0)) k.colliding k.turning h) h (g.R.Rows.there rows) (g.R.Rows.sent rows) c.args.total laws none p

moving : (g : _) (c : After-take-g g) → 0 < c.args.i
moving g c = omega (arith, c.if-i-eq0.false)

known : (g : _) (c : After-take-g g) → c.args.i < g.V.VelocitySet.stencil.directions
known g c = omega (arith, c.if-i-Q.false, c.Q.ensures, g.met.V.VelocitySet.constants.0)

inside : (g : _) (c : After-take-g g) → c.opp-o.result < g.V.VelocitySet.stencil.directions
inside g c = omega (arith, c.opp-o.ensures, g.met.V.VelocitySet.laws.opposite_exists c.args.i (known g c))

-- both directions have this turn
own : (g : _) (c : After-take-g g) → turn g.V.VelocitySet.stencil c.args.i ≡ c.args.i
own g c = omega (arith, turn_moving g.V.VelocitySet.stencil c.args.i (moving g c), c.opp-o.ensures, c.if-o-i.false)

others : (g : _) (c : After-take-g g) → turn g.V.VelocitySet.stencil c.opp-o.result ≡ c.args.i
others g c = ap (turn g.V.VelocitySet.stencil) c.opp-o.ensures ∙ turn_opposite g.V.VelocitySet.stencil c.args.i g.met.V.VelocitySet.laws (known g c) ∙ own g c

ahead : (g : _) (c : After-take-g g) (A h : ℕ → ℕ → ℤ) → IsProgress g.V.VelocitySet.stencil (g.R.Rows.count c.args.rows.now) c.args.i A h (g.R.Rows.there c.args.rows.now) (g.R.Rows.sent c.args.rows.now) c.args.total → (l : ℕ) → h l c.args.i ≡ entry c.take-f.result l
ahead g c A h p l =
    let R = g.R.Rows in let rows = c.args.rows.now in
    taken_is (R.count rows) l (entry c.take-f.result l) (R.there rows c.args.i l) (h l c.args.i) (c.take-f.ensures.cells l) (c.take-f.ensures.past l)
    (λ cell. p.underway.left c.args.i l (known g c) cell (omega (arith, own g c))) (λ beyond. p.past c.args.i l (known g c) beyond)

behind : (g : _) (c : After-take-g g) (A h : ℕ → ℕ → ℤ) → IsProgress g.V.VelocitySet.stencil (g.R.Rows.count c.args.rows.now) c.args.i A h (g.R.Rows.there c.args.rows.now) (g.R.Rows.sent c.args.rows.now) c.args.total → (l : ℕ) → h l c.opp-o.result ≡ entry c.take-g.result l
behind g c A h p l =
    let R = g.R.Rows in let rows = c.args.rows.now in
    taken_is (R.count rows) l (entry c.take-g.result l) (R.there rows c.opp-o.result l) (h l c.opp-o.result) (c.take-g.ensures.cells l) (c.take-g.ensures.past l)
    (λ cell. p.underway.left c.opp-o.result l (inside g c) cell (omega (arith, others g c))) (λ beyond. p.past c.opp-o.result l (inside g c) beyond)

pub settled_pair-requires-clause-moving : goal.settled_pair-requires-clause-moving
settled_pair-requires-clause-moving g c = moving g (goal.at.settled_pair-requires-clause-moving g c).After-take-g

pub settled_pair-requires-clause-known : goal.settled_pair-requires-clause-known
settled_pair-requires-clause-known g c = known g (goal.at.settled_pair-requires-clause-known g c).After-take-g

pub settled_pair-requires-clause-force : goal.settled_pair-requires-clause-force
settled_pair-requires-clause-force g c = c.requires.run.force

pub settled_pair-requires-clause-prepared : goal.settled_pair-requires-clause-prepared
settled_pair-requires-clause-prepared g c = c.requires.run.prepared

pub settled_pair-requires-clause-divisor : goal.settled_pair-requires-clause-divisor
settled_pair-requires-clause-divisor g c = c.requires.run.divisor

pub settled_pair-requires-clause-ones : goal.settled_pair-requires-clause-ones
settled_pair-requires-clause-ones g c = c.requires.run.ones

pub settled_pair-requires-clause-ready : goal.settled_pair-requires-clause-ready
settled_pair-requires-clause-ready g c l lane =
    let here = (goal.at.settled_pair-requires-clause-ready g c).After-take-g in let q = c.requires.progress in
    (q.0 l, q.1.ready l lane, ahead g here (after g.V.VelocitySet.stencil c.args.run.now.rates c.args.run.now.force (not (eqb g.row.MIXED 0)) c.args.fluid.now.flags.colliding c.args.fluid.now.flags.turning q.0) q.0 q.2 l, ap (q.0 l) (sym c.opp-o.ensures) ∙ behind g here (after g.V.VelocitySet.stencil c.args.run.now.rates c.args.run.now.force (not (eqb g.row.MIXED 0)) c.args.fluid.now.flags.colliding c.args.fluid.now.flags.turning q.0) q.0 q.2 l)

pub settled_pair-requires-clause-small : goal.settled_pair-requires-clause-small
settled_pair-requires-clause-small g c l lane =
    let here = (goal.at.settled_pair-requires-clause-small g c).After-take-g in let q = c.requires.progress in
    subst (λ (z : ℤ). unsigned_abs z ≤ 2147483648) (ahead g here (after g.V.VelocitySet.stencil c.args.run.now.rates c.args.run.now.force (not (eqb g.row.MIXED 0)) c.args.fluid.now.flags.colliding c.args.fluid.now.flags.turning q.0) q.0 q.2 l) (q.1.small c.args.i l (known g here) lane)

pub settled_pair-requires-clause-small_opposite : goal.settled_pair-requires-clause-small_opposite
settled_pair-requires-clause-small_opposite g c l lane =
    let here = (goal.at.settled_pair-requires-clause-small_opposite g c).After-take-g in let q = c.requires.progress in
    subst (λ (z : ℤ). unsigned_abs z ≤ 2147483648) (behind g here (after g.V.VelocitySet.stencil c.args.run.now.rates c.args.run.now.force (not (eqb g.row.MIXED 0)) c.args.fluid.now.flags.colliding c.args.fluid.now.flags.turning q.0) q.0 q.2 l) (q.1.small c.opp-o.result l (inside g here) lane)

pub plus-both-requires-clause-first : goal.plus-both-requires-clause-first
plus-both-requires-clause-first g c l lane = omega (arith, c.settled_pair.ensures.ahead_size l lane)

pub plus-both-requires-clause-second : goal.plus-both-requires-clause-second
plus-both-requires-clause-second g c l lane = omega (arith, c.settled_pair.ensures.behind_size l lane)

pub plus-requires-clause-first : goal.plus-requires-clause-first
plus-requires-clause-first g c l lane = omega (arith, c.requires.progress.2.small l lane, c.requires.few)

pub plus-requires-clause-second : goal.plus-requires-clause-second
plus-requires-clause-second g c l lane = let sizes = small_sum (entry c.settled_pair.result.0 l) (entry c.settled_pair.result.1 l) (entry c.plus-both.result l) (c.plus-both.ensures l lane) (c.settled_pair.ensures.ahead_size l lane) (c.settled_pair.ensures.behind_size l lane) in omega (arith, sizes)

pub returns-clause-progress : goal.returns-clause-progress
returns-clause-progress g c h cells p =
    let v = g.V.VelocitySet.stencil in let laws = g.met.V.VelocitySet.laws in let here = (goal.at.returns-clause-progress g c).After-take-g in
    let R = g.R.Rows in let rows = c.args.rows.now in let one = c.put.new.self in let two = c.put-2.new.self in let n = R.count rows in
    let i = c.args.i in let o = c.opp-o.result in let o_is : o ≡ opposite v i = c.opp-o.ensures in let k = c.args.fluid.now.flags in
    let A = after v c.args.run.now.rates c.args.run.now.force (not (eqb g.row.MIXED 0)) k.colliding k.turning h in
    let same = c.put.ensures.count in
    let order : i ≤ o = omega (arith, c.if-o-i.false) in
    let eight : (j : ℕ) → j < n → j < 8 = λ j cell. omega (arith, cell, c.count-count.ensures.value, c.count-count.ensures.few) in
    let x_is : (j : ℕ) → j < 8 → entry c.settled_pair.result.0 j ≡ A j i = λ j lane. c.settled_pair.ensures.ahead j (h j) lane (cells.ready j lane) (ahead g here A h p j) (ap (h j) (sym o_is) ∙ behind g here A h p j) in
    let y_is : (j : ℕ) → j < 8 → entry c.settled_pair.result.1 j ≡ A j o = λ j lane. c.settled_pair.ensures.behind j (h j) lane (cells.ready j lane) (ahead g here A h p j) (ap (h j) (sym o_is) ∙ behind g here A h p j) ∙ ap (A j) (sym o_is) in
    record {
      underway = underway_at v n (R.count two) (i + 1) (i + 1) A h (R.there two) (R.sent two) (c.put-2.ensures.count ∙ same) refl
          (underway_both v n A h laws i o (R.there rows) (R.sent rows) (R.there one) (R.sent one) (R.there two) (R.sent two) (moving g here) (known g here) c.requires.few o_is order
          (λ j cell. c.put.ensures.sent j cell ∙ x_is j (eight j cell))
          (λ m j below off cell. c.put.ensures.still_sent m j below off cell)
          (λ m j below off off' cell. c.put.ensures.still_there m j below off off' cell)
          (λ j cell. c.put-2.ensures.sent j (omega (arith, cell, same)) ∙ y_is j (eight j cell))
          (λ m j below off cell. c.put-2.ensures.still_sent m j below off (omega (arith, cell, same)))
          (λ m j below off off' cell. c.put-2.ensures.still_there m j below off off' (omega (arith, cell, same)))
          p.underway);
      past = λ m l below beyond. p.past m l below (omega (arith, beyond, same, c.put-2.ensures.count));
      total_is = λ l lane. total_next (entry c.args.total l) (entry c.plus-both.result l) (entry c.settled_pair.result.0 l) (entry c.settled_pair.result.1 l) (entry c.plus.result l) (sum_before v i (A l)) (A l i) (A l o) (sum_before v (i + 1) (A l))
          (p.total_is l lane) (c.plus-both.ensures l lane) (c.plus.ensures l lane) (x_is l lane) (y_is l lane) (sum_pair v (A l) laws i o (moving g here) (known g here) c.requires.few o_is order);
      small = λ l lane. total_small i (entry c.args.total l) (entry c.plus-both.result l) (entry c.settled_pair.result.0 l) (entry c.settled_pair.result.1 l) (entry c.plus.result l)
          (c.plus-both.ensures l lane) (c.plus.ensures l lane) (c.settled_pair.ensures.ahead_size l lane) (c.settled_pair.ensures.behind_size l lane) (p.small l lane);
    }
