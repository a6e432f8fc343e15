use Rattle.std.proofs.Common.{◌≡◌, ◌+◌, ◌<◌, ◌^◌, ℕ, Bool, Option, Some, None, refl, ◌∙◌, subst, arith, rules}
use Rattle.lbm_walk.specs.First.{IsFirst}
use Rattle.lbm_walk.proofs.Firsts.{first_earlier, first_later, first_lane_none, first_lane_some}
use Rattle.lbm_walk.proofs.Parts.{span_taken, span_small}
use Rattle.lbm_walk.proofs.row.first_in_row.Goals as goal

pub check-requires-clause-small : goal.check-requires-clause-small
check-requires-clause-small g c =
    let W = g.W.Walk in let R = g.W.Rows in let inv = c.loop-seen.invariant in let one = c.seek.new.self in let seen = c.loop-seen.seen in
    let n = c.seek.ensures.count in let m = c.min-n.ensures in let more = c.loop-seen-test.true in let within = inv.within in
    span_small g.V.VelocitySet.stencil.directions c.args.cell c.args.at c.args.width seen (R.count one) (W.place one) (R.there one) (W.before c.args.walk.now)
    (λ i j known lane. g.met.W.Walk.there_is one i j ∙ c.seek.ensures.before i (W.place one + j) ∙ inv.before i (W.place one + j)) c.seek.ensures.place (omega arith) (g.K.Kernel.small c.args.kernel.now) c.requires.small

pub overflow_add-result-in-Some : goal.overflow_add-result-in-Some
overflow_add-result-in-Some g c =
    let R = g.W.Rows in let one = c.seek.new.self in let n = c.seek.ensures.count in let m = c.min-n.ensures in let more = c.loop-seen-test.true in let fit = c.requires.cells_fit in
    let below = ((c.in-Some.ensures.first (λ j i. R.there one i j) (λ i j known lane. refl)).failed c.in-Some.lane refl).1 in
    let small : c.args.cell + c.loop-seen.seen + c.in-Some.lane < 2 ^ 32 = omega arith in search (rules, small)

pub returns-in-Some-clause-first : goal.returns-in-Some-clause-first
returns-in-Some-clause-first g c = λ f taken.
    let W = g.W.Walk in let R = g.W.Rows in let inv = c.loop-seen.invariant in let one = c.seek.new.self in let seen = c.loop-seen.seen in let cell = c.args.cell in
    let n = c.seek.ensures.count in let m = c.min-n.ensures in let more = c.loop-seen-test.true in let within = inv.within in
    let took = span_taken g.V.VelocitySet.stencil.directions cell c.args.at c.args.width seen (R.count one) (W.place one) (R.there one) (W.before c.args.walk.now)
    (λ i j known lane. g.met.W.Walk.there_is one i j ∙ c.seek.ensures.before i (W.place one + j) ∙ inv.before i (W.place one + j)) c.seek.ensures.place (omega arith) f taken in
    let test : ℕ → Bool = λ x. g.K.Kernel.sound c.args.kernel.now x (f x) in
    let here = first_lane_some test (cell + seen) (R.count one) c.in-Some.lane (c.in-Some.ensures.first (λ j. f (cell + seen + j)) took) in
    first_earlier test cell (cell + seen + R.count one) (cell + c.args.width) (cell + seen + c.in-Some.lane) (omega arith)
    (first_later test cell (cell + seen) (cell + seen + R.count one) (Some (cell + seen + c.in-Some.lane)) (omega arith) (inv.first f taken) here)

pub loop-seen-preserved : goal.loop-seen-preserved
loop-seen-preserved g c =
    let W = g.W.Walk in let R = g.W.Rows in let inv = c.loop-seen.invariant in let one = c.seek.new.self in let seen = c.loop-seen.seen in let cell = c.args.cell in
    let n = c.seek.ensures.count in let m = c.min-n.ensures in let more = c.loop-seen-test.true in let within = inv.within in let start = c.args.walk.now in
    record {
      within = omega arith;
      before = λ i p. c.seek.ensures.before i p ∙ inv.before i p;
      after = λ i p. c.seek.ensures.after i p ∙ inv.after i p;
      holds = λ k p. c.seek.ensures.holds k p ∙ inv.holds k p;
      places = c.seek.ensures.places ∙ inv.places;
      same = g.met.W.Walk.same_on start c.loop-seen.walk one inv.same c.seek.ensures.same;
      first = λ f taken.
          let took = span_taken g.V.VelocitySet.stencil.directions cell c.args.at c.args.width seen (R.count one) (W.place one) (R.there one) (W.before start)
          (λ i j known lane. g.met.W.Walk.there_is one i j ∙ c.seek.ensures.before i (W.place one + j) ∙ inv.before i (W.place one + j)) c.seek.ensures.place (omega arith) f taken in
          let test : ℕ → Bool = λ x. g.K.Kernel.sound c.args.kernel.now x (f x) in
          let here : IsFirst (λ j. test (cell + seen + j)) 0 (R.count one) None = subst (λ (r : Option ℕ). IsFirst (λ j. test (cell + seen + j)) 0 (R.count one) r) c.in_default.is (c.check.ensures.first (λ j. f (cell + seen + j)) took) in
          let end : cell + seen + R.count one ≡ cell + (seen + c.min-n.result) = omega arith in
          subst (λ (m : ℕ). IsFirst test cell m None) end
          (first_later test cell (cell + seen) (cell + seen + R.count one) None (omega arith) (inv.first f taken) (first_lane_none test (cell + seen) (R.count one) here));
    }

pub returns-clause-first : goal.returns-clause-first
returns-clause-first g c = λ f taken.
    let inv = c.loop-seen.invariant in let within = inv.within in let stop = c.loop-seen-test.false in
    let end : c.args.cell + c.loop-seen.seen ≡ c.args.cell + c.args.width = omega arith in
    subst (λ (m : ℕ). IsFirst (λ x. g.K.Kernel.sound c.args.kernel.now x (f x)) c.args.cell m None) end (inv.first f taken)
