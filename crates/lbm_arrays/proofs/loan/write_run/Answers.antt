use Rattle.std.proofs.Common.{◌≡◌, ℕ, suc, ◌+◌, ◌-◌, ◌<◌, Bool, true, false, List, length, get_or, set, pos, FitsSigned, w64, sym, ap, ◌∙◌, subst, arith, rules}
use Rattle.std.proofs.lemmas.Int.{to_z-of_z}
use Rattle.lbm_arrays.proofs.Ranges.{written, written_is}
use Rattle.lbm_arrays.proofs.loan.write_run.Goals as goal

pub put-requires : goal.put-requires
put-requires c =
    let inv = c.loop-j.invariant in let j = c.loop-j.j in
    subst (λ (w : ℕ × List Bool). (c.args.first + j < w.0) × (get_or w.1 (c.args.first + j) false ≡ true)) (λ i. (sym inv.count i, sym inv.mine i)) (c.requires.known j c.loop-j-test.true)

pub loop-j-preserved : goal.loop-j-preserved
loop-j-preserved c =
    let xs = c.args.patch.now.items in let first = c.args.first in let v = c.args.v in let j = c.loop-j.j in let inv = c.loop-j.invariant in
    let next : suc j ≡ j + 1 = omega arith in
    let fits : FitsSigned w64 (get_or v j (pos 0)) = search rules in
    record {
      items = c.put.ensures.items ∙ (λ i. set (inv.items i) (first + j) (to_z-of_z w64 (get_or v j (pos 0)) fits i)) ∙ ap (written xs first v (pos 0)) next;
      mine = c.put.ensures.mine ∙ inv.mine;
      start = c.put.ensures.places.0 ∙ inv.start;
      count = c.put.ensures.places.1 ∙ inv.count;
    }

pub returns-clause-items : goal.returns-clause-items
returns-clause-items c =
    let xs = c.args.patch.now.items in let first = c.args.first in let v = c.args.v in let n = c.args.n in
    let past = c.loop-j-test.false in let end = c.loop-j.auto.j-end in let all : c.loop-j.j ≡ n = omega arith in
    let long : length v ≡ 8 = search rules in let few = c.requires.few in let some = c.requires.some in let last = (c.requires.known (n - 1) (omega (arith, some))).0 in let size = c.args.patch.now.ok.0 in
    c.loop-j.invariant.items ∙ ap (written xs first v (pos 0)) all ∙ written_is xs first v (pos 0) n (omega (arith, long, few)) (omega (arith, last, size, some))
