use Rattle.std.proofs.Common.{◌≡◌, ◌+◌, ◌*◌, ℕ, Bool, Option, Some, None, ◌∙◌, subst, arith}
use Rattle.std.proofs.Math.Nat.{mul-le-mul_right}
use Rattle.lbm_walk.specs.First.{IsFirst}
use Rattle.lbm_walk.specs.Places.{local}
use Rattle.lbm_walk.proofs.Firsts.{first_earlier, first_later}
use Rattle.lbm_walk.proofs.Places.{row_known_all, row_inside, row_few, row_ends, row_taken, row_small}
use Rattle.lbm_walk.proofs.slab.first_in_rows.Goals as goal

pub first_in_row-requires-clause-known : goal.first_in_row-requires-clause-known
first_in_row-requires-clause-known g c =
    let t = c.args.space.now in let space = c.requires.space in let rows = c.args.rows in let number = c.loop-number.number in let inv = c.loop-number.invariant in let more = c.loop-number-test.true in let row = c.slab_row-row.result in let is = c.slab_row-row.ensures in
    let all = row_known_all t space rows number row.cell row.at row.width is in let count = c.requires.cells in omega (arith, all, count)

pub first_in_row-requires-clause-inner : goal.first_in_row-requires-clause-inner
first_in_row-requires-clause-inner g c =
    let t = c.args.space.now in let space = c.requires.space in let rows = c.args.rows in let number = c.loop-number.number in let inv = c.loop-number.invariant in let more = c.loop-number-test.true in let row = c.slab_row-row.result in let is = c.slab_row-row.ensures in
    (row_inside t space rows number row.cell row.at row.width is).0

pub first_in_row-requires-clause-inside : goal.first_in_row-requires-clause-inside
first_in_row-requires-clause-inside g c =
    let t = c.args.space.now in let space = c.requires.space in let rows = c.args.rows in let number = c.loop-number.number in let inv = c.loop-number.invariant in let more = c.loop-number-test.true in let row = c.slab_row-row.result in let is = c.slab_row-row.ensures in
    let within = (row_inside t space rows number row.cell row.at row.width is).1 in let places = c.requires.places in let still = inv.places in omega (arith, within, places, still)

pub first_in_row-requires-clause-cells_fit : goal.first_in_row-requires-clause-cells_fit
first_in_row-requires-clause-cells_fit g c =
    let t = c.args.space.now in let space = c.requires.space in let rows = c.args.rows in let number = c.loop-number.number in let inv = c.loop-number.invariant in let more = c.loop-number-test.true in let row = c.slab_row-row.result in let is = c.slab_row-row.ensures in
    let few = (row_few t space rows number row.cell row.at row.width is).0 in omega (arith, few)

pub first_in_row-requires-clause-places_fit : goal.first_in_row-requires-clause-places_fit
first_in_row-requires-clause-places_fit g c =
    let t = c.args.space.now in let space = c.requires.space in let rows = c.args.rows in let number = c.loop-number.number in let inv = c.loop-number.invariant in let more = c.loop-number-test.true in let row = c.slab_row-row.result in let is = c.slab_row-row.ensures in
    let few = (row_few t space rows number row.cell row.at row.width is).1 in omega (arith, few)

pub first_in_row-requires-clause-small : goal.first_in_row-requires-clause-small
first_in_row-requires-clause-small g c =
    let t = c.args.space.now in let space = c.requires.space in let rows = c.args.rows in let number = c.loop-number.number in let inv = c.loop-number.invariant in let more = c.loop-number-test.true in let row = c.slab_row-row.result in let is = c.slab_row-row.ensures in
    let W = g.W.Walk in
    row_small t space rows number row.cell row.at row.width is g.V.VelocitySet.stencil.directions (W.before c.loop-number.walk) (W.before c.args.walk.now) (λ i x known here. inv.before i (local t rows (row.cell + x))) (g.K.Kernel.small c.args.kernel.now) c.requires.small

pub returns-in-Some-clause-first : goal.returns-in-Some-clause-first
returns-in-Some-clause-first g c = λ f taken.
    let t = c.args.space.now in let space = c.requires.space in let rows = c.args.rows in let number = c.loop-number.number in let inv = c.loop-number.invariant in let more = c.loop-number-test.true in let row = c.slab_row-row.result in let is = c.slab_row-row.ensures in
    let W = g.W.Walk in let test : ℕ → Bool = λ x. g.K.Kernel.sound c.args.kernel.now x (f x) in let bad = c.in-Some.cell in
    let took = row_taken t space rows number row.cell row.at row.width is g.V.VelocitySet.stencil.directions (W.before c.loop-number.walk) (W.before c.args.walk.now) (λ i x known here. inv.before i (local t rows (row.cell + x))) f taken in
    let from = is.first in let to = row_ends t space rows number row.cell row.at row.width is in
    let here : IsFirst test (number * t.nx) ((number + 1) * t.nx) (Some bad) = subst (λ (p : ℕ × ℕ). IsFirst test p.0 p.1 (Some bad)) (λ k. (from k, to k)) (c.in-Some.ensures.first f took) in
    first_earlier test (rows.0 * t.nx) ((number + 1) * t.nx) (rows.1 * t.nx) bad (mul-le-mul_right t.nx (omega (arith, more)))
    (first_later test (rows.0 * t.nx) (number * t.nx) ((number + 1) * t.nx) (Some bad) (mul-le-mul_right t.nx inv.low) (inv.first f taken) here)

pub loop-number-preserved : goal.loop-number-preserved
loop-number-preserved g c =
    let t = c.args.space.now in let space = c.requires.space in let rows = c.args.rows in let number = c.loop-number.number in let inv = c.loop-number.invariant in let more = c.loop-number-test.true in let row = c.slab_row-row.result in let is = c.slab_row-row.ensures in
    let W = g.W.Walk in
    record {
      low = omega (arith, inv.low);
      high = omega (arith, more);
      before = λ i p. c.first_in_row.ensures.before i p ∙ inv.before i p;
      holds = λ k p. c.first_in_row.ensures.holds k p ∙ inv.holds k p;
      places = c.first_in_row.ensures.places ∙ inv.places;
      same = g.met.W.Walk.same_on c.args.walk.now c.loop-number.walk c.first_in_row.new.walk inv.same c.first_in_row.ensures.same;
      first = λ f taken.
          let test : ℕ → Bool = λ x. g.K.Kernel.sound c.args.kernel.now x (f x) in
          let took = row_taken t space rows number row.cell row.at row.width is g.V.VelocitySet.stencil.directions (W.before c.loop-number.walk) (W.before c.args.walk.now) (λ i x known here. inv.before i (local t rows (row.cell + x))) f taken in
          let from = is.first in let to = row_ends t space rows number row.cell row.at row.width is in let none = c.in_default.is in
          let here : IsFirst test (number * t.nx) ((number + 1) * t.nx) None = subst (λ (p : (ℕ × ℕ) × Option ℕ). IsFirst test p.0.0 p.0.1 p.1) (λ k. ((from k, to k), none k)) (c.first_in_row.ensures.first f took) in
          first_later test (rows.0 * t.nx) (number * t.nx) ((number + 1) * t.nx) None (mul-le-mul_right t.nx inv.low) (inv.first f taken) here;
    }

pub returns-clause-first : goal.returns-clause-first
returns-clause-first g c = λ f taken.
    let t = c.args.space.now in let rows = c.args.rows in let inv = c.loop-number.invariant in let stop = c.loop-number-test.false in let high = inv.high in
    let end : c.loop-number.number ≡ rows.1 = omega (arith, stop, high) in
    subst (λ (m : ℕ). IsFirst (λ x. g.K.Kernel.sound c.args.kernel.now x (f x)) (rows.0 * t.nx) (m * t.nx) None) end (inv.first f taken)
