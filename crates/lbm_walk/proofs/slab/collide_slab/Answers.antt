use Rattle.std.proofs.Common.{◌≡◌, ◌⊎◌, ◌+◌, ◌-◌, ◌*◌, ◌/◌, ◌<◌, ◌≤◌, ℕ, Bool, Option, Some, None, inl, inr, refl, sym, ap, ◌∙◌, subst, arith}
use Rattle.std.proofs.Math.Nat.{mul-le-mul_right}
use Rattle.lbm_space.proofs.RowStarts.{row_start_rises}
use Rattle.lbm_walk.specs.First.{IsFirst}
use Rattle.lbm_walk.specs.Orders.{done_from, done_to, next_from}
use Rattle.lbm_walk.specs.Places.{InRows, local}
use Rattle.lbm_walk.specs.Walked.{IsPending, IsWalked}
use Rattle.lbm_walk.proofs.Orders.{done_inside, next_inside, pending_next, pending_on, pending_before, done_beside}
use Rattle.lbm_walk.proofs.Parts.{walked_as, walked_on, walked_all, found_rising, found_falling}
use Rattle.lbm_walk.proofs.Places.{rows_between, rows_cells, row_of, row_here, row_local, row_ends, row_known_all, row_inside, row_few, row_pending, row_beside, row_outside, row_taken, row_small}
use Rattle.lbm_walk.proofs.slab.collide_slab.Goals as goal

pub collide_row-requires-clause-known : goal.collide_row-requires-clause-known
collide_row-requires-clause-known g c =
    let W = g.W.Walk in let t = c.args.space.now in let space = c.requires.space in let rows = c.args.rows in let done = c.loop-done.done in let inv = c.loop-done.invariant in let more = c.loop-done-test.true in
    let count : ℕ = rows.1 - rows.0 in let next = c.next_from.result in let is_next = c.next_from.ensures in let number : ℕ = rows.0 + next in let fits : done + 1 ≤ count = omega (arith, more) in let ends = next_inside W.RISES count done 1 fits in let row = c.slab_row-row.result in let is = c.slab_row-row.ensures in
    let all = row_known_all t space rows number row.cell row.at row.width is in let cells = c.requires.cells in omega (arith, all, cells)

pub collide_row-requires-clause-inner : goal.collide_row-requires-clause-inner
collide_row-requires-clause-inner g c =
    let W = g.W.Walk in let t = c.args.space.now in let space = c.requires.space in let rows = c.args.rows in let done = c.loop-done.done in let inv = c.loop-done.invariant in let more = c.loop-done-test.true in
    let count : ℕ = rows.1 - rows.0 in let next = c.next_from.result in let is_next = c.next_from.ensures in let number : ℕ = rows.0 + next in let fits : done + 1 ≤ count = omega (arith, more) in let ends = next_inside W.RISES count done 1 fits in let row = c.slab_row-row.result in let is = c.slab_row-row.ensures in
    (row_inside t space rows number row.cell row.at row.width is).0

pub collide_row-requires-clause-inside : goal.collide_row-requires-clause-inside
collide_row-requires-clause-inside g c =
    let W = g.W.Walk in let t = c.args.space.now in let space = c.requires.space in let rows = c.args.rows in let done = c.loop-done.done in let inv = c.loop-done.invariant in let more = c.loop-done-test.true in
    let count : ℕ = rows.1 - rows.0 in let next = c.next_from.result in let is_next = c.next_from.ensures in let number : ℕ = rows.0 + next in let fits : done + 1 ≤ count = omega (arith, more) in let ends = next_inside W.RISES count done 1 fits in let row = c.slab_row-row.result in let is = c.slab_row-row.ensures in
    let within = (row_inside t space rows number row.cell row.at row.width is).1 in let places = c.requires.places in let still = inv.places in omega (arith, within, places, still)

pub collide_row-requires-clause-cells_fit : goal.collide_row-requires-clause-cells_fit
collide_row-requires-clause-cells_fit g c =
    let W = g.W.Walk in let t = c.args.space.now in let space = c.requires.space in let rows = c.args.rows in let done = c.loop-done.done in let inv = c.loop-done.invariant in let more = c.loop-done-test.true in
    let count : ℕ = rows.1 - rows.0 in let next = c.next_from.result in let is_next = c.next_from.ensures in let number : ℕ = rows.0 + next in let fits : done + 1 ≤ count = omega (arith, more) in let ends = next_inside W.RISES count done 1 fits in let row = c.slab_row-row.result in let is = c.slab_row-row.ensures in
    let few = (row_few t space rows number row.cell row.at row.width is).0 in omega (arith, few)

pub collide_row-requires-clause-places_fit : goal.collide_row-requires-clause-places_fit
collide_row-requires-clause-places_fit g c =
    let W = g.W.Walk in let t = c.args.space.now in let space = c.requires.space in let rows = c.args.rows in let done = c.loop-done.done in let inv = c.loop-done.invariant in let more = c.loop-done-test.true in
    let count : ℕ = rows.1 - rows.0 in let next = c.next_from.result in let is_next = c.next_from.ensures in let number : ℕ = rows.0 + next in let fits : done + 1 ≤ count = omega (arith, more) in let ends = next_inside W.RISES count done 1 fits in let row = c.slab_row-row.result in let is = c.slab_row-row.ensures in
    let few = (row_few t space rows number row.cell row.at row.width is).1 in omega (arith, few)

pub collide_row-requires-clause-small : goal.collide_row-requires-clause-small
collide_row-requires-clause-small g c =
    let W = g.W.Walk in let t = c.args.space.now in let space = c.requires.space in let rows = c.args.rows in let done = c.loop-done.done in let inv = c.loop-done.invariant in let more = c.loop-done-test.true in
    let count : ℕ = rows.1 - rows.0 in let next = c.next_from.result in let is_next = c.next_from.ensures in let number : ℕ = rows.0 + next in let fits : done + 1 ≤ count = omega (arith, more) in let ends = next_inside W.RISES count done 1 fits in let row = c.slab_row-row.result in let is = c.slab_row-row.ensures in
    let q = g.V.VelocitySet.stencil.directions in let now = c.loop-done.walk in let start = c.args.walk.now in
    let still : (i x : ℕ) → i < q → x < row.width → W.before now i (local t rows (row.cell + x)) ≡ W.before start i (local t rows (row.cell + x)) =
    λ i x known here. inv.pending i (row.cell + x) known (row_here t space rows number row.cell row.at row.width is x here)
    (let e : number + 0 ≡ (row.cell + x) / t.nx = omega (arith, row_of t space rows number row.cell row.at row.width is x here) in subst (λ (p : ℕ). IsPending W.RISES (rows.0 + done_from W.RISES count done) done p) e (pending_next W.RISES rows.0 count done 1 next number 0 fits is_next refl (omega arith))) in
    row_small t space rows number row.cell row.at row.width is q (W.before now) (W.before start) still (g.K.Kernel.small c.args.kernel.now) c.requires.small

pub returns-then-rises-clause-done : goal.returns-then-rises-clause-done
returns-then-rises-clause-done g c = λ f taken.
    let W = g.W.Walk in let t = c.args.space.now in let space = c.requires.space in let rows = c.args.rows in let done = c.loop-done.done in let inv = c.loop-done.invariant in let more = c.loop-done-test.true in
    let count : ℕ = rows.1 - rows.0 in let next = c.next_from.result in let is_next = c.next_from.ensures in let number : ℕ = rows.0 + next in let fits : done + 1 ≤ count = omega (arith, more) in let ends = next_inside W.RISES count done 1 fits in let row = c.slab_row-row.result in let is = c.slab_row-row.ensures in
    let q = g.V.VelocitySet.stencil.directions in let now = c.loop-done.walk in let start = c.args.walk.now in
    let still : (i x : ℕ) → i < q → x < row.width → W.before now i (local t rows (row.cell + x)) ≡ W.before start i (local t rows (row.cell + x)) =
    λ i x known here. inv.pending i (row.cell + x) known (row_here t space rows number row.cell row.at row.width is x here)
    (let e : number + 0 ≡ (row.cell + x) / t.nx = omega (arith, row_of t space rows number row.cell row.at row.width is x here) in subst (λ (p : ℕ). IsPending W.RISES (rows.0 + done_from W.RISES count done) done p) e (pending_next W.RISES rows.0 count done 1 next number 0 fits is_next refl (omega arith))) in
    let K = g.K.Kernel in let sound = K.sound c.args.kernel.now in let post = K.post c.args.kernel.now in let test : ℕ → Bool = λ x. sound x (f x) in
    let took = row_taken t space rows number row.cell row.at row.width is q (W.before now) (W.before start) still f taken in
    let cell_of : ℕ → ℕ = λ m. (rows.0 + m) * t.nx in let order : (a b : ℕ) → a ≤ b → cell_of a ≤ cell_of b = λ a b le. mul-le-mul_right t.nx (omega (arith, le)) in
    let none : (rows.0 + 0) * t.nx ≡ rows.0 * t.nx = omega arith in let whole : rows.0 + count ≡ rows.1 = omega (arith, c.requires.some) in let all = ap (λ m. m * t.nx) whole in
    let bad = c.in-Some.cell in let one = c.in-Some.ensures.done f took (local t rows) (row_local t space rows number row.cell row.at row.width is) in
    let from : row.cell ≡ cell_of (next_from W.RISES count done 1) = is.first ∙ ap cell_of is_next in
    let to : row.cell + row.width ≡ cell_of (next_from W.RISES count done 1 + 1) = row_ends t space rows number row.cell row.at row.width is ∙ ap (λ m. m * t.nx) (let e : number + 1 ≡ rows.0 + (next_from W.RISES count done 1 + 1) = omega (arith, is_next) in e) in
    let met : IsFirst test (cell_of (next_from W.RISES count done 1)) (cell_of (next_from W.RISES count done 1 + 1)) (Some bad) = subst (λ (p : ℕ × ℕ). IsFirst test p.0 p.1 (Some bad)) (λ k. (from k, to k)) one.first in
    let both = found_rising sound post q (local t rows) f cell_of order W.RISES count done 1 bad (W.after now) (W.after c.collide_row.new.walk) (sym c.rises.ensures ∙ c.if-rises.true) fits (inv.cells f taken) met in
    subst (λ (p : ℕ × ℕ). IsWalked sound post q (local t rows) p.0 p.1 f (W.after c.collide_row.new.walk) (Some bad)) (λ k. (none k, all k)) both

pub returns-then-rises-clause-others : goal.returns-then-rises-clause-others
returns-then-rises-clause-others g c = λ k p empty.
    let W = g.W.Walk in let t = c.args.space.now in let space = c.requires.space in let rows = c.args.rows in let done = c.loop-done.done in let inv = c.loop-done.invariant in let more = c.loop-done-test.true in
    let count : ℕ = rows.1 - rows.0 in let next = c.next_from.result in let is_next = c.next_from.ensures in let number : ℕ = rows.0 + next in let fits : done + 1 ≤ count = omega (arith, more) in let ends = next_inside W.RISES count done 1 fits in let row = c.slab_row-row.result in let is = c.slab_row-row.ensures in
    c.in-Some.ensures.others k p (row_outside t space rows number row.cell row.at row.width is p empty) ∙ inv.others k p empty

pub first_in_rows-requires-clause-places : goal.first_in_rows-requires-clause-places
first_in_rows-requires-clause-places g c =
    let W = g.W.Walk in let t = c.args.space.now in let space = c.requires.space in let rows = c.args.rows in let done = c.loop-done.done in let inv = c.loop-done.invariant in let more = c.loop-done-test.true in
    let count : ℕ = rows.1 - rows.0 in let next = c.next_from.result in let is_next = c.next_from.ensures in let number : ℕ = rows.0 + next in let fits : done + 1 ≤ count = omega (arith, more) in let ends = next_inside W.RISES count done 1 fits in let row = c.slab_row-row.result in let is = c.slab_row-row.ensures in
    let rise = row_start_rises t space number rows.1 (omega (arith, is.high)) is.inside in let places = c.requires.places in let still = inv.places in let kept = c.in-Some.ensures.places in omega (arith, rise, places, still, kept)

pub first_in_rows-requires-clause-small : goal.first_in_rows-requires-clause-small
first_in_rows-requires-clause-small g c = λ i x known lower.
    let W = g.W.Walk in let t = c.args.space.now in let space = c.requires.space in let rows = c.args.rows in let done = c.loop-done.done in let inv = c.loop-done.invariant in let more = c.loop-done-test.true in
    let count : ℕ = rows.1 - rows.0 in let next = c.next_from.result in let is_next = c.next_from.ensures in let number : ℕ = rows.0 + next in let fits : done + 1 ≤ count = omega (arith, more) in let ends = next_inside W.RISES count done 1 fits in let row = c.slab_row-row.result in let is = c.slab_row-row.ensures in
    let here : InRows t rows x = record { known = lower.known; low = lower.low; high = omega (arith, lower.high, is.high) } in
    let before = pending_before W.RISES rows.0 count done 1 next (x / t.nx) (sym c.rises.ensures ∙ c.if-rises.false) fits is_next lower.high in
    let same = c.in-Some.ensures.pending i (local t rows x) known (row_pending t space rows number row.cell row.at row.width is W.RISES x here before.1) ∙ inv.pending i x known here before.0 in
    subst (λ z. g.K.Kernel.small c.args.kernel.now x z) (sym same) (c.requires.small i x known here)

pub returns-in-Some-clause-done : goal.returns-in-Some-clause-done
returns-in-Some-clause-done g c = λ f taken.
    let W = g.W.Walk in let t = c.args.space.now in let space = c.requires.space in let rows = c.args.rows in let done = c.loop-done.done in let inv = c.loop-done.invariant in let more = c.loop-done-test.true in
    let count : ℕ = rows.1 - rows.0 in let next = c.next_from.result in let is_next = c.next_from.ensures in let number : ℕ = rows.0 + next in let fits : done + 1 ≤ count = omega (arith, more) in let ends = next_inside W.RISES count done 1 fits in let row = c.slab_row-row.result in let is = c.slab_row-row.ensures in
    let q = g.V.VelocitySet.stencil.directions in let now = c.loop-done.walk in let start = c.args.walk.now in
    let still : (i x : ℕ) → i < q → x < row.width → W.before now i (local t rows (row.cell + x)) ≡ W.before start i (local t rows (row.cell + x)) =
    λ i x known here. inv.pending i (row.cell + x) known (row_here t space rows number row.cell row.at row.width is x here)
    (let e : number + 0 ≡ (row.cell + x) / t.nx = omega (arith, row_of t space rows number row.cell row.at row.width is x here) in subst (λ (p : ℕ). IsPending W.RISES (rows.0 + done_from W.RISES count done) done p) e (pending_next W.RISES rows.0 count done 1 next number 0 fits is_next refl (omega arith))) in
    let K = g.K.Kernel in let sound = K.sound c.args.kernel.now in let post = K.post c.args.kernel.now in let test : ℕ → Bool = λ x. sound x (f x) in
    let took = row_taken t space rows number row.cell row.at row.width is q (W.before now) (W.before start) still f taken in
    let cell_of : ℕ → ℕ = λ m. (rows.0 + m) * t.nx in let order : (a b : ℕ) → a ≤ b → cell_of a ≤ cell_of b = λ a b le. mul-le-mul_right t.nx (omega (arith, le)) in
    let none : (rows.0 + 0) * t.nx ≡ rows.0 * t.nx = omega arith in let whole : rows.0 + count ≡ rows.1 = omega (arith, c.requires.some) in let all = ap (λ m. m * t.nx) whole in
    let bad = c.in-Some.cell in let one = c.in-Some.ensures.done f took (local t rows) (row_local t space rows number row.cell row.at row.width is) in
    let from = is.first in let to : row.cell + row.width ≡ cell_of (next + 1) = row_ends t space rows number row.cell row.at row.width is ∙ ap (λ m. m * t.nx) (let e : number + 1 ≡ rows.0 + (next + 1) = omega arith in e) in
    let met : IsFirst test (cell_of next) (cell_of (next + 1)) (Some bad) = subst (λ (p : ℕ × ℕ). IsFirst test p.0 p.1 (Some bad)) (λ k. (from k, to k)) one.first in
    let lesser = c.first_in_rows.ensures.first f (λ i x known lower.
    let here : InRows t rows x = record { known = lower.known; low = lower.low; high = omega (arith, lower.high, is.high) } in
    let before = pending_before W.RISES rows.0 count done 1 next (x / t.nx) (sym c.rises.ensures ∙ c.if-rises.false) fits is_next lower.high in
    c.in-Some.ensures.pending i (local t rows x) known (row_pending t space rows number row.cell row.at row.width is W.RISES x here before.1) ∙ inv.pending i x known here before.0 ∙ taken i x known here) in
    let both = found_falling sound post q (local t rows) f cell_of order count next 1 bad c.first_in_rows.result (W.after c.first_in_rows.new.walk) (omega (arith, ends, is_next))
    (subst (λ (m : ℕ). IsFirst test m (number * t.nx) c.first_in_rows.result) (sym none) lesser) met in let told = sym c.or.ensures in
    subst (λ (p : (ℕ × ℕ) × Option ℕ). IsWalked sound post q (local t rows) p.0.0 p.0.1 f (W.after c.first_in_rows.new.walk) p.1) (λ k. ((none k, all k), told k)) both

pub returns-in-Some-clause-others : goal.returns-in-Some-clause-others
returns-in-Some-clause-others g c = λ k p empty.
    let W = g.W.Walk in let t = c.args.space.now in let space = c.requires.space in let rows = c.args.rows in let done = c.loop-done.done in let inv = c.loop-done.invariant in let more = c.loop-done-test.true in
    let count : ℕ = rows.1 - rows.0 in let next = c.next_from.result in let is_next = c.next_from.ensures in let number : ℕ = rows.0 + next in let fits : done + 1 ≤ count = omega (arith, more) in let ends = next_inside W.RISES count done 1 fits in let row = c.slab_row-row.result in let is = c.slab_row-row.ensures in
    c.first_in_rows.ensures.holds k p ∙ c.in-Some.ensures.others k p (row_outside t space rows number row.cell row.at row.width is p empty) ∙ inv.others k p empty

pub loop-done-preserved : goal.loop-done-preserved
loop-done-preserved g c =
    let W = g.W.Walk in let t = c.args.space.now in let space = c.requires.space in let rows = c.args.rows in let done = c.loop-done.done in let inv = c.loop-done.invariant in let more = c.loop-done-test.true in
    let count : ℕ = rows.1 - rows.0 in let next = c.next_from.result in let is_next = c.next_from.ensures in let number : ℕ = rows.0 + next in let fits : done + 1 ≤ count = omega (arith, more) in let ends = next_inside W.RISES count done 1 fits in let row = c.slab_row-row.result in let is = c.slab_row-row.ensures in
    let q = g.V.VelocitySet.stencil.directions in let now = c.loop-done.walk in let start = c.args.walk.now in
    let still : (i x : ℕ) → i < q → x < row.width → W.before now i (local t rows (row.cell + x)) ≡ W.before start i (local t rows (row.cell + x)) =
    λ i x known here. inv.pending i (row.cell + x) known (row_here t space rows number row.cell row.at row.width is x here)
    (let e : number + 0 ≡ (row.cell + x) / t.nx = omega (arith, row_of t space rows number row.cell row.at row.width is x here) in subst (λ (p : ℕ). IsPending W.RISES (rows.0 + done_from W.RISES count done) done p) e (pending_next W.RISES rows.0 count done 1 next number 0 fits is_next refl (omega arith))) in
    let two = c.collide_row.new.walk in
    record {
      pending = λ i x known here later.
          let on = pending_on W.RISES rows.0 count done 1 (x / t.nx) fits later in let e : rows.0 + next_from W.RISES count done 1 ≡ number = omega (arith, is_next) in
          c.collide_row.ensures.pending i (local t rows x) known (row_pending t space rows number row.cell row.at row.width is W.RISES x here (subst (λ (m : ℕ). IsPending W.RISES m 1 (x / t.nx)) e on.1)) ∙ inv.pending i x known here on.0;
      others = λ k p empty. c.collide_row.ensures.others k p (row_outside t space rows number row.cell row.at row.width is p empty) ∙ inv.others k p empty;
      places = c.collide_row.ensures.places ∙ inv.places;
      same = g.met.W.Walk.same_on start now two inv.same c.collide_row.ensures.same;
      cells = λ f taken.
          let K = g.K.Kernel in let sound = K.sound c.args.kernel.now in let post = K.post c.args.kernel.now in let test : ℕ → Bool = λ x. sound x (f x) in
          let took = row_taken t space rows number row.cell row.at row.width is q (W.before now) (W.before start) still f taken in
          let cell_of : ℕ → ℕ = λ m. (rows.0 + m) * t.nx in let order : (a b : ℕ) → a ≤ b → cell_of a ≤ cell_of b = λ a b le. mul-le-mul_right t.nx (omega (arith, le)) in
          let one = c.collide_row.ensures.done f took (local t rows) (row_local t space rows number row.cell row.at row.width is) in let told = c.in_default.is in
          let from : row.cell ≡ cell_of (next_from W.RISES count done 1) = is.first ∙ ap cell_of is_next in
          let to : row.cell + row.width ≡ cell_of (next_from W.RISES count done 1 + 1) = row_ends t space rows number row.cell row.at row.width is ∙ ap (λ m. m * t.nx) (let e : number + 1 ≡ rows.0 + (next_from W.RISES count done 1 + 1) = omega (arith, is_next) in e) in
          let reach = done_inside W.RISES count done (omega (arith, fits)) in
          let old = walked_as sound post q (local t rows) f (cell_of (done_from W.RISES count done)) (cell_of (done_to W.RISES count done)) (W.after now) (W.after two)
          (λ i x known low high.
          let here = rows_cells t space rows (rows.0 + done_from W.RISES count done) (rows.0 + done_to W.RISES count done) x is.inside (omega arith) (omega (arith, reach, c.requires.some)) low high in
          let between = rows_between t space (rows.0 + done_from W.RISES count done) (rows.0 + done_to W.RISES count done) x low high in let above = between.0 in let below = between.1 in
          let apart : (x / t.nx < number) ⊎ (number + 1 ≤ x / t.nx) = elim (done_beside W.RISES count done 1 (x / t.nx - rows.0) fits (omega (arith, above)) (omega (arith, above, below))) [
            | inl less ↦ inl (omega (arith, less, is_next, above))
            | inr past ↦ inr (omega (arith, past, is_next, above))
          ] in
          c.collide_row.ensures.beside i (local t rows x) known (row_beside t space rows number row.cell row.at row.width is x here apart)) (inv.cells f taken) in
          walked_on sound post q (local t rows) f cell_of order W.RISES count done 1 (W.after two) fits old
          (subst (λ (p : (ℕ × ℕ) × Option ℕ). IsWalked sound post q (local t rows) p.0.0 p.0.1 f (W.after two) p.1) (λ k. ((from k, to k), told k)) one);
    }

pub returns-clause-done : goal.returns-clause-done
returns-clause-done g c = λ f taken.
    let W = g.W.Walk in let K = g.K.Kernel in let t = c.args.space.now in let rows = c.args.rows in let q = g.V.VelocitySet.stencil.directions in let count : ℕ = rows.1 - rows.0 in let inv = c.loop-done.invariant in
    let stop = c.loop-done-test.false in let last = c.loop-done.auto.done-end in let end : c.loop-done.done ≡ count = omega (arith, stop, last) in
    let cell_of : ℕ → ℕ = λ m. (rows.0 + m) * t.nx in let order : (a b : ℕ) → a ≤ b → cell_of a ≤ cell_of b = λ a b le. mul-le-mul_right t.nx (omega (arith, le)) in
    let none : (rows.0 + 0) * t.nx ≡ rows.0 * t.nx = omega arith in let whole : rows.0 + count ≡ rows.1 = omega (arith, c.requires.some) in let all = ap (λ m. m * t.nx) whole in
    subst (λ (p : ℕ × ℕ). IsWalked (K.sound c.args.kernel.now) (K.post c.args.kernel.now) q (local t rows) p.0 p.1 f (W.after c.loop-done.walk) None) (λ k. (none k, all k))
    (walked_all (K.sound c.args.kernel.now) (K.post c.args.kernel.now) q (local t rows) f cell_of order W.RISES count c.loop-done.done (W.after c.loop-done.walk) end (inv.cells f taken))
