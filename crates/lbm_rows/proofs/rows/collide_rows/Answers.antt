use Rattle.std.proofs.Common.{rules, ◌≡◌, ◌+◌, ◌*◌, refl, ◌∙◌, arith}
use Rattle.std.specs.Prelude.{None}
use Rattle.lbm_rows.proofs.RowSteps.{none_if, first_after, row_low, row_high, taken_now, small_now, left_new, passed_more, sent_more}
use Rattle.lbm_rows.proofs.rows.collide_rows.Goals as goal

pub collide_in_row-answer-requires-clause-row : goal.collide_in_row-answer-requires-clause-row
collide_in_row-answer-requires-clause-row g c =
    let inv = c.loop-n.invariant in let tile = c.requires.tile in let test = c.loop-n-test.true in let count = inv.count in record {
      known = λ i known. let h = tile.known i c.loop-n.n known test in omega arith;
      sized = record { count = refl; lengths = λ k below. inv.lengths k ∙ tile.sized.lengths k (omega arith) };
    }

pub collide_in_row-answer-requires-clause-small : goal.collide_in_row-answer-requires-clause-small
collide_in_row-answer-requires-clause-small g c =
    small_now g.V.VelocitySet.stencil c.args.ways.now c.args.rows c.args.width c.requires.some c.args.kept.now c.loop-n.kept c.loop-n.n c.loop-n-test.true c.loop-n.invariant.left (g.K.Kernel.small c.args.kernel.now) c.requires.small

pub returns-then-is_some-clause-first : goal.returns-then-is_some-clause-first
returns-then-is_some-clause-first g c = λ f same.
    let v = g.V.VelocitySet.stencil in let w = c.args.ways.now in let rows = c.args.rows in let width = c.args.width in let n = c.loop-n.n in let left = c.loop-n.invariant.left in let test = c.loop-n-test.true in
    first_after (λ x. g.K.Kernel.sound c.args.kernel.now x (f x)) (rows.0 * width) ((rows.0 + n) * width) ((rows.0 + n) * width + width) (rows.1 * width) c.collide_in_row-answer.result
    (row_low v w rows width c.requires.some c.args.kept.now c.loop-n.kept n test left) (row_high v w rows width c.requires.some c.args.kept.now c.loop-n.kept n test left) (c.loop-n.invariant.passed f same)
    (c.collide_in_row-answer.ensures.first f (taken_now v w rows width c.requires.some c.args.kept.now c.loop-n.kept n test left f same)) (search rules)

pub loop-n-preserved : goal.loop-n-preserved
loop-n-preserved g c =
    let v = g.V.VelocitySet.stencil in let w = c.args.ways.now in let rows = c.args.rows in let width = c.args.width in let some = c.requires.some in let n = c.loop-n.n in let inv = c.loop-n.invariant in let left = inv.left in let test = c.loop-n-test.true in
    let old = c.args.kept.now in let now = c.loop-n.kept in let new = c.collide_in_row-answer.new.kept in let alike = c.collide_in_row-answer.ensures.alike in
    let none : c.collide_in_row-answer.result ≡ None = none_if c.collide_in_row-answer.result (search rules) in record {
      passed = λ f same x low high.
          passed_more v w rows width some old now n test left new alike c.requires.tile c.requires.exchange (λ y. g.K.Kernel.sound c.args.kernel.now y (f y)) c.collide_in_row-answer.result (inv.passed f same)
          (c.collide_in_row-answer.ensures.first f (taken_now v w rows width some old now n test left f same)) none x low (omega (arith, high));
      sent = λ f same x i low high known.
          sent_more v w rows width some old now n test left new alike c.requires.tile c.requires.exchange (λ y. g.K.Kernel.post c.args.kernel.now y (f y)) (inv.sent f same)
          (c.collide_in_row-answer.ensures.sent f (taken_now v w rows width some old now n test left f same) none) x i low (omega (arith, high)) known;
      left = λ i m known past below. left_new v w rows width some old now n test left new alike c.requires.tile c.requires.exchange i m known (omega (arith, past)) below;
      count = alike.count ∙ inv.count;
      lengths = λ j. alike.lengths j ∙ inv.lengths j;
    }
