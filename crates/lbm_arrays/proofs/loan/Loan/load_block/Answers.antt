use Rattle.std.proofs.Common.{◌∙◌, sym}
use Rattle.lbm_arrays.proofs.Held.{held_run, held_read}
use Rattle.lbm_arrays.proofs.loan.Loan.load_block.Goals as goal

pub read_block-requires : goal.read_block-requires
read_block-requires c = λ j below.
    let d = c.self.inside in let inv = c.self.invariant in
    held_run d.patch.ptr d.firsts.now d.lo d.hi d.patch.len d.rows d.patch.items _ c.self.view_is inv.2 (sym d.patch.ok.0) c.args.first 8 c.requires.0 c.args.at c.requires.1 d.patch.mine inv.0 j below

pub returns : goal.returns
returns c = λ k j run below.
    let d = c.self.inside in let inv = c.self.invariant in
    c.read_block.ensures j below
    ∙ held_read d.patch.ptr d.firsts.now d.lo d.hi d.patch.len d.rows d.patch.items _ c.self.view_is inv.2 (sym d.patch.ok.0) c.args.first 8 k c.args.at run j below
