use Rattle.std.proofs.Common.{rules, ◌≡◌, ℕ, ◌-◌, ◌*◌, ◌<◌, [], length, get_or, ap, sym, ◌∙◌, subst, arith}
use Rattle.std.proofs.lemmas.List.{length-set, get_or_default, get_or-set_other}
use Rattle.lbm_space.specs.Torus.{rows}
use Rattle.lbm_space.specs.Stencil.{Stencil}
use Rattle.lbm_rows.specs.Lending.{entry_number}
use Rattle.lbm_rows.proofs.LentTiles.{left_more, back_more}
use Rattle.lbm_rows.proofs.lending.put_back.Goals as goal

pub loop-j-preserved : goal.loop-j-preserved
loop-j-preserved g c =
    let case = c.args.case.now in let bounds = c.args.rows in let inv = c.loop-j.invariant in let j = c.loop-j.j in let number = c.lent_number-number.result in let row = c.swap.new.x in let test = c.loop-j-test.true in
    let same : g.V.VelocitySet.stencil.directions ≡ case.stencil.directions = ap (λ (v : Stencil). v.directions) (sym c.requires.set) in
    let below : j < case.stencil.directions * (bounds.1 - bounds.0) = subst (λ (n : ℕ). j < n * (bounds.1 - bounds.0)) same (omega (arith, test, inv.long, c.requires.whole)) in
    let whole : length c.loop-j.kept ≡ case.stencil.directions * rows case.torus = inv.count ∙ c.requires.count ∙ ap (λ (n : ℕ). n * rows case.torus) same in
    let is : number ≡ entry_number case c.args.t bounds j = search rules in
    let was : row ≡ get_or c.args.lent.now j [] = c.swap.ensures.x_after ∙ get_or_default c.loop-j.lent j c.index-lent-j.result [] (omega (arith, test, inv.long)) ∙ inv.rest j (omega arith) in record {
      count = length-set c.loop-j.kept number row ∙ inv.count;
      long = length-set c.loop-j.lent j c.swap.new.y ∙ inv.long;
      back = back_more case c.requires.valid c.args.t bounds c.requires.some c.requires.inside c.args.kept.now c.loop-j.kept j number below is c.args.lent.now row whole was inv.back;
      others = left_more case c.requires.valid c.args.t bounds c.requires.some c.requires.inside c.args.kept.now c.loop-j.kept j number below is inv.others row;
      rest = λ i past. get_or-set_other c.loop-j.lent j i c.swap.new.y [] (λ e. omega (arith, e, past)) ∙ inv.rest i (omega (arith, past));
    }

pub returns-clause-others : goal.returns-clause-others
returns-clause-others g c = λ m off.
    let end = c.loop-j.auto.j-end in let long = c.loop-j.invariant.long in
    c.loop-j.invariant.others m (λ i less. off i (omega (arith, less, end, long)))
