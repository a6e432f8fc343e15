use Rattle.std.proofs.Common.{◌≡◌, ◌⊎◌, ◌+◌, ◌-◌, ◌<◌, ◌≤◌, ◌^◌, ℕ, Bool, Option, Some, None, inl, inr, refl, sym, ap, ◌∙◌, subst, arith, rules}
use Rattle.lbm_walk.specs.First.{IsFirst}
use Rattle.lbm_walk.specs.Orders.{done_from, done_to, next_from}
use Rattle.lbm_walk.specs.Walked.{IsPending, IsWalked}
use Rattle.lbm_walk.proofs.Firsts.{first_lane_some}
use Rattle.lbm_walk.proofs.Orders.{done_inside, next_inside, pending_next, pending_on, pending_before, outside_next, done_beside}
use Rattle.lbm_walk.proofs.Parts.{span_taken, span_small, walked_as, walked_lanes, walked_on, walked_all, found_rising, found_falling}
use Rattle.lbm_walk.proofs.row.collide_row.Goals as goal

pub collide_by-requires-clause-small : goal.collide_by-requires-clause-small
collide_by-requires-clause-small g c =
    let W = g.W.Walk in let R = g.W.Rows in let inv = c.loop-done.invariant in let one = c.seek.new.self in let done = c.loop-done.done in let width = c.args.width in
    let count = c.seek.ensures.count in let m = c.min-n.ensures in let more = c.loop-done-test.true in let within = inv.within in let n = c.min-n.result in let next = c.next_from-start.result in let is = c.next_from-start.ensures in
    let fits : done + n ≤ width = omega arith in let inside = next_inside W.RISES width done n fits in
    let there : (i j : ℕ) → i < g.V.VelocitySet.stencil.directions → j < R.count one → R.there one i j ≡ W.before c.args.walk.now i (W.place one + j) =
    λ i j known lane. g.met.W.Walk.there_is one i j ∙ c.seek.ensures.before i (W.place one + j) ∙ inv.pending i (W.place one + j) known (pending_next W.RISES c.args.at width done n next (W.place one) j fits is c.seek.ensures.place (omega arith)) in
    span_small g.V.VelocitySet.stencil.directions c.args.cell c.args.at width next (R.count one) (W.place one) (R.there one) (W.before c.args.walk.now) there c.seek.ensures.place (omega (arith, is, inside)) (g.K.Kernel.small c.args.kernel.now) c.requires.small

pub overflow_add-bad-in-Some : goal.overflow_add-bad-in-Some
overflow_add-bad-in-Some g c =
    let W = g.W.Walk in let R = g.W.Rows in let one = c.seek.new.self in let count = c.seek.ensures.count in let m = c.min-n.ensures in let more = c.loop-done-test.true in let fit = c.requires.cells_fit in
    let is = c.next_from-start.ensures in let inside = next_inside W.RISES c.args.width c.loop-done.done c.min-n.result (omega arith) in
    let below = ((c.in-Some.ensures.first (λ j i. R.there one i j) (λ i j known lane. refl)).failed c.in-Some.lane refl).1 in
    let small : c.args.cell + c.next_from-start.result + c.in-Some.lane < 2 ^ 32 = omega (arith, is, inside, below) in search (rules, small)

pub returns-then-rises-clause-done : goal.returns-then-rises-clause-done
returns-then-rises-clause-done g c = λ f taken place there.
    let W = g.W.Walk in let R = g.W.Rows in let K = g.K.Kernel in let q = g.V.VelocitySet.stencil.directions in
    let inv = c.loop-done.invariant in let one = c.seek.new.self in let done = c.loop-done.done in let width = c.args.width in let cell = c.args.cell in
    let count = c.seek.ensures.count in let m = c.min-n.ensures in let more = c.loop-done-test.true in let within = inv.within in let n = c.min-n.result in let next = c.next_from-start.result in let is = c.next_from-start.ensures in
    let fits : done + n ≤ width = omega arith in let inside = next_inside W.RISES width done n fits in
    let now : (i j : ℕ) → i < q → j < R.count one → R.there one i j ≡ W.before c.args.walk.now i (W.place one + j) =
    λ i j known lane. g.met.W.Walk.there_is one i j ∙ c.seek.ensures.before i (W.place one + j) ∙ inv.pending i (W.place one + j) known (pending_next W.RISES c.args.at width done n next (W.place one) j fits is c.seek.ensures.place (omega arith)) in
    let took = span_taken q cell c.args.at width next (R.count one) (W.place one) (R.there one) (W.before c.args.walk.now) now c.seek.ensures.place (omega (arith, is, inside)) f taken in
    let test : ℕ → Bool = λ x. K.sound c.args.kernel.now x (f x) in let bad : ℕ = cell + next + c.in-Some.lane in
    let here = first_lane_some test (cell + next) (R.count one) c.in-Some.lane (c.in-Some.ensures.first (λ j. f (cell + next + j)) took) in
    let from : cell + next ≡ cell + next_from W.RISES width done n = omega (arith, is) in let to : cell + next + R.count one ≡ cell + (next_from W.RISES width done n + n) = omega (arith, is, count) in
    let met : IsFirst test (cell + next_from W.RISES width done n) (cell + (next_from W.RISES width done n + n)) (Some bad) = subst (λ (p : ℕ × ℕ). IsFirst test p.0 p.1 (Some bad)) (λ k. (from k, to k)) here in
    let none : cell + 0 ≡ cell = omega arith in
    subst (λ (m : ℕ). IsWalked (K.sound c.args.kernel.now) (K.post c.args.kernel.now) q place m (cell + width) f (W.after c.collide_by.new.self) (Some bad)) none
    (found_rising (K.sound c.args.kernel.now) (K.post c.args.kernel.now) q place f (λ k. cell + k) (λ a b le. omega (arith, le)) W.RISES width done n bad (W.after c.loop-done.walk) (W.after c.collide_by.new.self) (sym c.rises.ensures ∙ c.if-rises.true) fits (inv.cells f taken place there) met)

pub returns-in-Some-clause-done : goal.returns-in-Some-clause-done
returns-in-Some-clause-done g c = λ f taken place there.
    let W = g.W.Walk in let R = g.W.Rows in let K = g.K.Kernel in let q = g.V.VelocitySet.stencil.directions in
    let inv = c.loop-done.invariant in let one = c.seek.new.self in let done = c.loop-done.done in let width = c.args.width in let cell = c.args.cell in
    let count = c.seek.ensures.count in let m = c.min-n.ensures in let more = c.loop-done-test.true in let within = inv.within in let n = c.min-n.result in let next = c.next_from-start.result in let is = c.next_from-start.ensures in
    let fits : done + n ≤ width = omega arith in let inside = next_inside W.RISES width done n fits in
    let now : (i j : ℕ) → i < q → j < R.count one → R.there one i j ≡ W.before c.args.walk.now i (W.place one + j) =
    λ i j known lane. g.met.W.Walk.there_is one i j ∙ c.seek.ensures.before i (W.place one + j) ∙ inv.pending i (W.place one + j) known (pending_next W.RISES c.args.at width done n next (W.place one) j fits is c.seek.ensures.place (omega arith)) in
    let took = span_taken q cell c.args.at width next (R.count one) (W.place one) (R.there one) (W.before c.args.walk.now) now c.seek.ensures.place (omega (arith, is, inside)) f taken in
    let test : ℕ → Bool = λ x. K.sound c.args.kernel.now x (f x) in let bad : ℕ = cell + next + c.in-Some.lane in
    let here = first_lane_some test (cell + next) (R.count one) c.in-Some.lane (c.in-Some.ensures.first (λ j. f (cell + next + j)) took) in
    let to : cell + next + R.count one ≡ cell + (next + n) = omega (arith, count) in let none : cell + 0 ≡ cell = omega arith in
    let lesser = c.first_in_row.ensures.first f (λ i x known less. c.in-Some.ensures.stopped c.in-Some.lane refl i (c.args.at + x) ∙ c.seek.ensures.before i (c.args.at + x)
    ∙ inv.pending i (c.args.at + x) known (pending_before W.RISES c.args.at width done n next (c.args.at + x) (sym c.rises.ensures ∙ c.if-rises.false) fits is (omega (arith, less))).0 ∙ taken i x known (omega (arith, less, is, inside))) in
    subst (λ (p : ℕ × Option ℕ). IsWalked (K.sound c.args.kernel.now) (K.post c.args.kernel.now) q place p.0 (cell + width) f (W.after c.first_in_row.new.walk) p.1) (λ k. (none k, (sym c.or.ensures) k))
    (found_falling (K.sound c.args.kernel.now) (K.post c.args.kernel.now) q place f (λ k. cell + k) (λ a b le. omega (arith, le)) width next n bad c.first_in_row.result (W.after c.first_in_row.new.walk) (omega (arith, is, inside))
    (subst (λ (m : ℕ). IsFirst test m (cell + next) c.first_in_row.result) (sym none) lesser) (subst (λ (m : ℕ). IsFirst test (cell + next) m (Some bad)) to here))

pub loop-done-preserved : goal.loop-done-preserved
loop-done-preserved g c =
    let W = g.W.Walk in let R = g.W.Rows in let K = g.K.Kernel in let q = g.V.VelocitySet.stencil.directions in let law = g.met.W.Walk in let start = c.args.walk.now in let at = c.args.at in
    let inv = c.loop-done.invariant in let one = c.seek.new.self in let two = c.collide_by.new.self in let done = c.loop-done.done in let width = c.args.width in let cell = c.args.cell in
    let count = c.seek.ensures.count in let m = c.min-n.ensures in let more = c.loop-done-test.true in let within = inv.within in let n = c.min-n.result in let next = c.next_from-start.result in let is = c.next_from-start.ensures in
    let fits : done + n ≤ width = omega arith in let inside = next_inside W.RISES width done n fits in let kept = c.in_default.ensures.kept in let put_at = c.seek.ensures.place in
    let within_row : next + R.count one ≤ width = omega (arith, is, inside, count) in
    let outside : (p : ℕ) → (p < at) ⊎ (at + width ≤ p) → (p < W.place one) ⊎ (W.place one + R.count one ≤ p) = λ p out. outside_next at width (R.count one) next (W.place one) p within_row put_at out in
    record {
      within = fits;
      pending = λ i p known later.
          let on = pending_on W.RISES at width done n p fits later in let from : at + next_from W.RISES width done n ≡ W.place one = omega (arith, is, put_at) in
          law.kept_before one two kept i p known (subst (λ (m : ℕ × ℕ). IsPending W.RISES m.0 m.1 p) (λ k. (from k, (sym count) k)) on.1) ∙ c.seek.ensures.before i p ∙ inv.pending i p known on.0;
      beside = λ i p known out. law.kept_after one two kept i p known (outside p out) ∙ c.seek.ensures.after i p ∙ inv.beside i p known out;
      others = λ k p out. law.kept_holds one two kept k p (outside p out) ∙ c.seek.ensures.holds k p ∙ inv.others k p out;
      places = law.kept_places one two kept ∙ c.seek.ensures.places ∙ inv.places;
      same = law.same_on start one two (law.same_on start c.loop-done.walk one inv.same c.seek.ensures.same) (law.kept_is_same one two kept);
      cells = λ f taken place there.
          let now : (i j : ℕ) → i < q → j < R.count one → R.there one i j ≡ W.before start i (W.place one + j) =
          λ i j known lane. law.there_is one i j ∙ c.seek.ensures.before i (W.place one + j) ∙ inv.pending i (W.place one + j) known (pending_next W.RISES at width done n next (W.place one) j fits is put_at (omega (arith, lane, count))) in
          let took = span_taken q cell at width next (R.count one) (W.place one) (R.there one) (W.before start) now put_at within_row f taken in
          let test : ℕ → Bool = λ x. K.sound c.args.kernel.now x (f x) in
          let first : IsFirst (λ j. test (cell + next + j)) 0 (R.count one) None = subst (λ (r : Option ℕ). IsFirst (λ j. test (cell + next + j)) 0 (R.count one) r) c.in_default.is (c.collide_by.ensures.first (λ j. f (cell + next + j)) took) in
          let same = law.kept_place one two kept in
          let lanes = walked_lanes (K.sound c.args.kernel.now) (K.post c.args.kernel.now) q place f (cell + next) (R.count one) (W.place two) (W.after two) (R.sent two) first (c.collide_by.ensures.post (λ j. f (cell + next + j)) took c.in_default.is) (law.sent_is two)
          (λ j lane. let x : cell + next + j ≡ cell + (next + j) = omega arith in let p : at + (next + j) ≡ W.place two + j = omega (arith, put_at, same) in ap place x ∙ there (next + j) (omega (arith, lane, within_row)) ∙ p) in
          let reach = done_inside W.RISES width done within in
          let old = walked_as (K.sound c.args.kernel.now) (K.post c.args.kernel.now) q place f (cell + done_from W.RISES width done) (cell + done_to W.RISES width done) (W.after c.loop-done.walk) (W.after two)
          (λ i x known low high.
          let y : ℕ = x - cell in let x_is : cell + y ≡ x = omega (arith, low) in let at_x : place x ≡ at + y = ap place (sym x_is) ∙ there y (omega (arith, low, high, reach)) in
          let apart : (place x < W.place one) ⊎ (W.place one + R.count one ≤ place x) = elim (done_beside W.RISES width done n y fits (omega (arith, low)) (omega (arith, high))) [
            | inl before ↦ inl (omega (arith, before, at_x, is, put_at))
            | inr behind ↦ inr (omega (arith, behind, at_x, is, put_at, count))
          ] in
          law.kept_after one two kept i (place x) known apart ∙ c.seek.ensures.after i (place x)) (inv.cells f taken place there) in
          let from : cell + next ≡ cell + next_from W.RISES width done n = omega (arith, is) in let to : cell + next + R.count one ≡ cell + (next_from W.RISES width done n + n) = omega (arith, is, count) in
          walked_on (K.sound c.args.kernel.now) (K.post c.args.kernel.now) q place f (λ k. cell + k) (λ a b le. omega (arith, le)) W.RISES width done n (W.after two) fits old
          (subst (λ (p : ℕ × ℕ). IsWalked (K.sound c.args.kernel.now) (K.post c.args.kernel.now) q place p.0 p.1 f (W.after two) None) (λ k. (from k, to k)) lanes);
    }

pub returns-clause-done : goal.returns-clause-done
returns-clause-done g c = λ f taken place there.
    let W = g.W.Walk in let K = g.K.Kernel in let inv = c.loop-done.invariant in let within = inv.within in let stop = c.loop-done-test.false in
    let none : c.args.cell + 0 ≡ c.args.cell = omega arith in
    subst (λ (m : ℕ). IsWalked (K.sound c.args.kernel.now) (K.post c.args.kernel.now) g.V.VelocitySet.stencil.directions place m (c.args.cell + c.args.width) f (W.after c.loop-done.walk) None) none
    (walked_all (K.sound c.args.kernel.now) (K.post c.args.kernel.now) g.V.VelocitySet.stencil.directions place f (λ k. c.args.cell + k) (λ a b le. omega (arith, le)) W.RISES c.args.width c.loop-done.done (W.after c.loop-done.walk) (omega arith) (inv.cells f taken place there))
