use Rattle.std.proofs.Common.{◌≡◌, ℕ, ◌+◌, ◌-◌, ◌*◌, ◌<◌, ◌≤◌, length, ap, ◌∙◌, subst, arith}
use Rattle.lbm_space.specs.Torus.{Torus}
use Rattle.lbm_space.specs.Padded.{row_start}
use Rattle.lbm_space.proofs.RowStarts.{row_start_rises}
use Rattle.lbm_walk.specs.Places.{local}
use Rattle.lbm_walk.proofs.Places.{width, row_cells}
use Rattle.lbm_swap.specs.Exchange.{IsExchangedIn}
use Rattle.lbm_swap.proofs.Runs.{exchanged_run, exchanged_more, row_place, row_within}
use Rattle.lbm_swap.proofs.exchange.exchange_row.Goals as goal

-- where the row begins in the ranges, as the code reckons it
begins : (t : Torus) (row start first : ℕ) (rows told : ℕ × ℕ) → start ≡ row_start t row → first ≡ row_start t told.0 → told ≡ rows → start + 1 - first ≡ row_start t row + 1 - row_start t rows.0
begins t row start first rows told is_start is_first is = let e = ap (λ (p : ℕ × ℕ). row_start t p.0) is in omega (arith, is_start, is_first, e)

pub overflow_sub-at : goal.overflow_sub-at
overflow_sub-at c =
    let t = c.args.work.now.space.now in let ready = c.requires.ready in let low = c.requires.row.0 in let high = c.requires.row.1 in let inside = ready.slab.inside in
    let told : c.row_start-2.result ≡ row_start t c.args.loan.now.rows.0 = c.row_start-2.ensures.start ∙ ap (λ (p : ℕ × ℕ). row_start t p.0) c.rows.ensures in let start = c.row_start.ensures.start in
    let rise = row_start_rises t ready.space c.args.loan.now.rows.0 c.args.row low (omega (arith, high, inside)) in omega (arith, told, start, rise)

pub exchange_run-requires-clause-sized : goal.exchange_run-requires-clause-sized
exchange_run-requires-clause-sized c =
    let t = c.args.work.now.space.now in let ready = c.requires.ready in let rows = c.args.loan.now.rows in let inside = ready.slab.inside in
    let wide = width t c.sides.result c.sides.ensures.value in let lanes = c.min-n.ensures in let more = c.loop-done-test.true in
    let at = begins t c.args.row c.row_start.result c.row_start-2.result c.args.loan.now.rows c.rows.result c.row_start.ensures.start c.row_start-2.ensures.start c.rows.ensures in let last = row_within t ready.space rows inside c.args.row c.requires.row.0 c.requires.row.1 (c.loop-done.done + c.min-n.result - 1) (omega (arith, wide, lanes, more)) in
    (row_start t rows.1 - row_start t rows.0, c.loop-done.invariant.ready.slab.sized, omega (arith, at, last, lanes, more))

pub loop-done-preserved : goal.loop-done-preserved
loop-done-preserved c =
    let t = c.args.work.now.space.now in let ps = c.args.work.now.partners.now in let q : ℕ = length ps in let ready = c.requires.ready in let rows = c.args.loan.now.rows in let inside = ready.slab.inside in
    let row = c.args.row in let low = c.requires.row.0 in let high = c.requires.row.1 in
    let wide = width t c.sides.result c.sides.ensures.value in let lanes = c.min-n.ensures in let more = c.loop-done-test.true in
    let at : ℕ = c.row_start.result + 1 - c.row_start-2.result in let is = begins t c.args.row c.row_start.result c.row_start-2.result c.args.loan.now.rows c.rows.result c.row_start.ensures.start c.row_start-2.ensures.start c.rows.ensures in
    let inv = c.loop-done.invariant in let did = c.exchange_run.ensures in let done = c.loop-done.done in let n = c.min-n.result in
    let old = c.args.loan.now.ranges in let now = c.loop-done.loan.ranges in let new = c.exchange_run.new.loan.ranges in
    let within : done + n ≤ t.nx = omega (arith, wide, lanes, more) in
    let places : (j : ℕ) → j < n → local t rows (row * t.nx + done + j) ≡ at + done + j = λ j lane.
    let e : row * t.nx + done + j ≡ row * t.nx + (done + j) = omega arith in let place = row_place t ready.space rows inside row low high (done + j) (omega (arith, within, lane)) in
    ap (local t rows) e ∙ place ∙ omega (arith, is) in
    let one = exchanged_run t ready.space rows inside q ps ready.paired (row * t.nx + done) n (at + done) now new places did.exchanged did.others in
    let both = exchanged_more t ready.space rows inside q ps ready.paired (row * t.nx) (row * t.nx + done) (row * t.nx + done + n) old now new (omega arith) (omega arith)
    (λ x from to. row_cells t ready.space rows row x inside low high from (omega (arith, within, to))) inv.done one in
    let e : row * t.nx + done + n ≡ row * t.nx + (done + n) = omega arith in
    record {
      within = omega (arith, lanes, more);
      rows = did.rows ∙ inv.rows;
      place = did.place ∙ inv.place;
      ready = record {
        space = ready.space;
        few = ready.few;
        paired = ready.paired;
        slab = record { some = ready.slab.some; inside = inside; sized = did.sized (row_start t rows.1 - row_start t rows.0) inv.ready.slab.sized };
      };
      done = subst (λ (b : ℕ). IsExchangedIn t q ps rows (row * t.nx) b old new) e both;
    }

pub returns-clause-done : goal.returns-clause-done
returns-clause-done c =
    let t = c.args.work.now.space.now in let ps = c.args.work.now.partners.now in let inv = c.loop-done.invariant in
    let wide = width t c.sides.result c.sides.ensures.value in let end = c.loop-done-test.false in let within = inv.within in
    let e : c.args.row * t.nx + c.loop-done.done ≡ (c.args.row + 1) * t.nx = let same : c.loop-done.done ≡ t.nx = omega (arith, wide, end, within) in omega (arith, same) in
    subst (λ (b : ℕ). IsExchangedIn t (length ps) ps c.args.loan.now.rows (c.args.row * t.nx) b c.args.loan.now.ranges c.loop-done.loan.ranges) e inv.done
