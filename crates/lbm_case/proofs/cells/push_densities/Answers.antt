use Rattle.std.proofs.Common.{◌∙◌, sym, ap, ◌++◌, map}
use Rattle.std.proofs.lemmas.Iterator.{YieldsList-from_chars}
use Rattle.std.proofs.lemmas.Iterator.Consumers.{YieldsList-end}
use Rattle.lbm_case.specs.Drawing.{density_of}
use Rattle.lbm_case.proofs.Numbered.{same_items}
use Rattle.lbm_case.proofs.cells.push_densities.Goals as goal

pub returns : goal.returns
returns c =
    let whole = (YieldsList-end (YieldsList-from_chars c.args.text.now c.utf8.text cc) c.loop-c.yielded _ c.loop-c.yielded_by _ _ c.in-None.is c.next.ensures.steps).0 in
    c.loop-c.invariant ∙ ap (λ cs. c.args.densities.now.items ++ map (density_of c.args.density c.args.digit) cs) (sym (same_items c.loop-c.yielded) ∙ whole)
