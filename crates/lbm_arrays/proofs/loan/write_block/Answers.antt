use Rattle.std.proofs.Common.{◌≡◌, ℕ, suc, ◌+◌, ◌<◌, Bool, true, false, List, length, get_or, set, pos, w64, ◌∙◌, subst, arith, rules}
use Rattle.std.proofs.lemmas.Int.{to_z-of_z}
use Rattle.lbm_arrays.proofs.Ranges.{written, written_is}
use Rattle.lbm_arrays.proofs.loan.write_block.Goals as goal

pub put_four-requires-2 : goal.put_four-requires-2
put_four-requires-2 c = λ j below.
    let len : c.args.patch.now.len ≡ c.put_four.new.self.len = cc in
    let mine : c.args.patch.now.mine ≡ c.put_four.new.self.mine = cc in
    let place : c.args.first + (4 + j) ≡ c.args.first + 4 + j = omega arith in
    subst (λ (w : ℕ × List Bool × ℕ). (w.2 < w.0) × (get_or w.1 w.2 false ≡ true)) (λ i. (len i, mine i, place i)) (c.requires (4 + j) (omega (arith, below)))

pub returns-clause-items : goal.returns-clause-items
returns-clause-items c =
    let xs = c.args.patch.now.items in let first = c.args.first in let v = c.args.v in let d = pos 0 in
    let long : length v ≡ 8 = search rules in
    let p0 : first ≡ first + 0 = omega arith in let p1 : suc first ≡ first + 1 = omega arith in let p2 : suc (suc first) ≡ first + 2 = omega arith in let p3 : suc (suc (suc first)) ≡ first + 3 = omega arith in
    let p5 : suc (first + 4) ≡ first + 5 = omega arith in let p6 : suc (suc (first + 4)) ≡ first + 6 = omega arith in let p7 : suc (suc (suc (first + 4))) ≡ first + 7 = omega arith in
    let four : c.put_four.new.self.items ≡ written xs first v d 4 =
    c.put_four.ensures.items
    ∙ (λ i. set (set (set (set xs (p0 i) (to_z-of_z w64 (get_or v 0 d) (search rules) i)) (p1 i) (to_z-of_z w64 (get_or v 1 d) (search rules) i)) (p2 i) (to_z-of_z w64 (get_or v 2 d) (search rules) i)) (p3 i) (to_z-of_z w64 (get_or v 3 d) (search rules) i)) in
    let eight : c.put_four-2.new.self.items ≡ written xs first v d 8 =
    c.put_four-2.ensures.items
    ∙ (λ i. set (set (set (set (four i) (first + 4) (to_z-of_z w64 (get_or v 4 d) (search rules) i)) (p5 i) (to_z-of_z w64 (get_or v 5 d) (search rules) i)) (p6 i) (to_z-of_z w64 (get_or v 6 d) (search rules) i)) (p7 i) (to_z-of_z w64 (get_or v 7 d) (search rules) i)) in
    let last = (c.requires 7 (omega arith)).0 in
    eight ∙ written_is xs first v d 8 (omega (arith, long)) (omega (arith, last, c.args.patch.now.ok.0))
