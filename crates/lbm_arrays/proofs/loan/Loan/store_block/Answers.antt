use Rattle.std.proofs.Common.{◌≡◌, length, sym, ap, ◌∙◌, arith, rules}
use Rattle.lbm_arrays.specs.Ranges.{ranges}
use Rattle.lbm_arrays.proofs.Held.{held_run, held_over}
use Rattle.lbm_arrays.proofs.loan.Loan.store_block.Goals as goal

pub write_block-requires : goal.write_block-requires
write_block-requires c = λ j below.
    let d = c.self.inside in let inv = c.self.invariant in
    held_run d.patch.ptr d.firsts.now d.lo d.hi d.patch.len d.rows d.patch.items _ c.self.view_is inv.2 (sym d.patch.ok.0) c.args.first 8 c.requires.0 c.args.at c.requires.1 d.patch.mine inv.0 j below

pub returns-clause-ranges : goal.returns-clause-ranges
returns-clause-ranges c = λ k run.
    let d = c.self.inside in let inv = c.self.invariant in let long : length c.args.v ≡ 8 = search rules in
    ap (ranges d.firsts.now d.lo d.hi) c.write_block.ensures.items
    ∙ held_over d.patch.ptr d.firsts.now d.lo d.hi d.patch.len d.rows d.patch.items _ c.self.view_is inv.2 (sym d.patch.ok.0) c.args.first 8 k c.args.at run c.args.v (omega arith) (omega (arith, long))
