use Rattle.std.proofs.Common.{ℕ, ◌∙◌, sym, subst, arith}
use Rattle.lbm_arrays.specs.Lent.{IsRun}
use Rattle.lbm_arrays.proofs.Held.{held_run, held_read}
use Rattle.lbm_arrays.proofs.loan.Loan.load_at.Goals as goal

pub load_block-requires : goal.load_block-requires
load_block-requires c = (c.requires.run.0, subst (λ (n : ℕ). IsRun c.args.self.now c.args.first c.requires.run.0 c.args.at n) c.if-n-eq8.true c.requires.run.1)

pub read_run-requires-clause-known : goal.read_run-requires-clause-known
read_run-requires-clause-known c = λ j below.
    let d = c.self.inside in let inv = c.self.invariant in
    held_run d.patch.ptr d.firsts.now d.lo d.hi d.patch.len d.rows d.patch.items _ c.self.view_is inv.2 (sym d.patch.ok.0) c.args.first c.args.n c.requires.run.0 c.args.at c.requires.run.1 d.patch.mine inv.0 j below

pub returns-then-n-eq8-clause-slots : goal.returns-then-n-eq8-clause-slots
returns-then-n-eq8-clause-slots c = λ k j run below.
    let whole = c.if-n-eq8.true in
    c.load_block.ensures k j (subst (λ (n : ℕ). IsRun c.args.self.now c.args.first k c.args.at n) whole run) (omega (arith, whole, below))

pub returns-clause-slots : goal.returns-clause-slots
returns-clause-slots c = λ k j run below.
    let d = c.self.inside in let inv = c.self.invariant in
    c.read_run.ensures.slots j below
    ∙ held_read d.patch.ptr d.firsts.now d.lo d.hi d.patch.len d.rows d.patch.items _ c.self.view_is inv.2 (sym d.patch.ok.0) c.args.first c.args.n k c.args.at run j below
