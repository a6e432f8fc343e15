use Rattle.std.proofs.Common.{◌≡◌, ℕ, length, take, sym, ap, subst, ◌∙◌, arith, rules}
use Rattle.lbm_arrays.specs.Lent.{IsRun}
use Rattle.lbm_arrays.specs.Ranges.{ranges, with_run}
use Rattle.lbm_arrays.proofs.Held.{held_run, held_over}
use Rattle.lbm_arrays.proofs.loan.Loan.store_at.Goals as goal

pub store_block-requires : goal.store_block-requires
store_block-requires c = (c.requires.run.0, subst (λ (n : ℕ). IsRun c.args.self.now c.args.first c.requires.run.0 c.args.at n) c.if-n-eq8.true c.requires.run.1)

pub write_run-requires-clause-known : goal.write_run-requires-clause-known
write_run-requires-clause-known c = λ j below.
    let d = c.self.inside in let inv = c.self.invariant in
    held_run d.patch.ptr d.firsts.now d.lo d.hi d.patch.len d.rows d.patch.items _ c.self.view_is inv.2 (sym d.patch.ok.0) c.args.first c.args.n c.requires.run.0 c.args.at c.requires.run.1 d.patch.mine inv.0 j below

pub returns-then-n-eq8-clause-ranges : goal.returns-then-n-eq8-clause-ranges
returns-then-n-eq8-clause-ranges c = λ k run.
    let whole = c.if-n-eq8.true in let old = c.args.self.now in
    c.store_block.ensures.ranges k (subst (λ (n : ℕ). IsRun old c.args.first k c.args.at n) whole run)
    ∙ ap (λ (n : ℕ). with_run old.ranges k c.args.at (take n c.args.v)) (sym whole)

pub returns-else-n-eq8-clause-ranges : goal.returns-else-n-eq8-clause-ranges
returns-else-n-eq8-clause-ranges c = λ k run.
    let d = c.self.inside in let inv = c.self.invariant in let long : length c.args.v ≡ 8 = search rules in
    ap (ranges d.firsts.now d.lo d.hi) c.write_run.ensures.items
    ∙ held_over d.patch.ptr d.firsts.now d.lo d.hi d.patch.len d.rows d.patch.items _ c.self.view_is inv.2 (sym d.patch.ok.0) c.args.first c.args.n k c.args.at run c.args.v c.requires.some (omega (arith, c.requires.few, long))
