use Rattle.std.proofs.Common.{◌≡◌, ℕ, ◌+◌, ◌*◌, length, refl, sym, ap, ◌∙◌, subst, arith}
use Rattle.std.proofs.Math.Nat.{mul-le-mul_right}
use Rattle.lbm_walk.proofs.Places.{rows_cells}
use Rattle.lbm_swap.specs.Exchange.{IsReady, IsExchangedIn}
use Rattle.lbm_swap.proofs.Runs.{exchanged_none, exchanged_more}
use Rattle.lbm_swap.proofs.exchange.exchange_rows.Goals as goal

pub exchange_row-requires-clause-row : goal.exchange_row-requires-clause-row
exchange_row-requires-clause-row c =
    let low = c.loop-row.invariant.low in let first = ap (λ (p : ℕ × ℕ). p.0) c.loop-row.invariant.rows in let last = ap (λ (p : ℕ × ℕ). p.1) c.loop-row.invariant.rows in let told = ap (λ (p : ℕ × ℕ). p.1) c.rows-from.ensures in
    let more = c.loop-row-test.true in (omega (arith, low, first), omega (arith, more, told, last))

pub loop-row-init : goal.loop-row-init
loop-row-init c =
    let w = c.args.work.now in let t = w.space.now in let ps = w.partners.now in let ready = c.requires.ready in let rows = c.args.loan.now.rows in let old = c.args.loan.now.ranges in
    let told = ap (λ (p : ℕ × ℕ). p.0) c.rows-from.ensures in
    record {
      low = omega (arith, told);
      rows = refl;
      place = refl;
      ready = ready;
      done = subst (λ (b : ℕ). IsExchangedIn t (length ps) ps rows (rows.0 * t.nx) (b * t.nx) old old) (sym told) (exchanged_none t ready.space rows ready.slab.inside (length ps) ps ready.paired (rows.0 * t.nx) old);
    }

pub loop-row-preserved : goal.loop-row-preserved
loop-row-preserved c =
    let w = c.args.work.now in let t = w.space.now in let ps = w.partners.now in let q : ℕ = length ps in let ready = c.requires.ready in let inside = ready.slab.inside in let inv = c.loop-row.invariant in let did = c.exchange_row.ensures in
    let row = c.loop-row.row in let rows = c.args.loan.now.rows in let old = c.args.loan.now.ranges in let now = c.loop-row.loan.ranges in let new = c.exchange_row.new.loan.ranges in
    let low = inv.low in let told = ap (λ (p : ℕ × ℕ). p.1) c.rows-from.ensures in let more = c.loop-row-test.true in
    let still = did.rows ∙ inv.rows in
    record {
      low = omega (arith, low);
      rows = still;
      place = did.place ∙ inv.place;
      ready = subst (λ (p : ℕ × ℕ). IsReady t ps p new) still did.ready;
      done = exchanged_more t ready.space rows inside q ps ready.paired (rows.0 * t.nx) (row * t.nx) ((row + 1) * t.nx) old now new (mul-le-mul_right t.nx low) (mul-le-mul_right t.nx (omega arith))
          (λ x from to. rows_cells t ready.space rows rows.0 (row + 1) x inside (omega arith) (omega (arith, more, told)) from to) inv.done
          (subst (λ (p : ℕ × ℕ). IsExchangedIn t q ps p (row * t.nx) ((row + 1) * t.nx) now new) inv.rows did.done);
    }

pub returns-clause-done : goal.returns-clause-done
returns-clause-done c =
    let w = c.args.work.now in let t = w.space.now in let ps = w.partners.now in let inv = c.loop-row.invariant in let some = c.requires.ready.slab.some in
    let rows = c.args.loan.now.rows in let first = ap (λ (p : ℕ × ℕ). p.0) c.rows-from.ensures in let last = ap (λ (p : ℕ × ℕ). p.1) c.rows-from.ensures in
    let end = c.loop-row-test.false in let high = c.loop-row.auto.row-end (omega (arith, some, first, last)) in
    let e : c.loop-row.row ≡ rows.1 = omega (arith, last, end, high) in
    subst (λ (b : ℕ). IsExchangedIn t (length ps) ps rows (rows.0 * t.nx) (b * t.nx) c.args.loan.now.ranges c.loop-row.loan.ranges) e inv.done
