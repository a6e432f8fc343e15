use Rattle.std.proofs.Common.{◌≡◌, ◌+◌, inl, inr, get_or, set, pos, sym, ap, ◌∙◌, arith, rules, w64, length-set}
use mir.Val.{SFits, to_z, of_z}
use Rattle.std.proofs.lemmas.Bool.{cases_eq}
use Rattle.std.proofs.lemmas.Int.{to_z-of_z}
use Rattle.std.proofs.lemmas.List.{get_or_default, get_or-set_same, get_or-set_other}
use Rattle.lbm_arrays.proofs.loan.read_run.Goals as goal

pub loop-j-preserved : goal.loop-j-preserved
loop-j-preserved c =
    let old = c.loop-j.invariant in let j = c.loop-j.j in let items = c.args.patch.now.items in let lanes = c.loop-j.lanes in
    let test = c.loop-j-test.true in let n = c.requires.few in let known = (c.requires.known j test).0 in let long = old.long in let size = c.args.patch.now.ok.0 in
    let fits : SFits w64 c.get.result.now = search rules in
    let v = to_z w64 (of_z w64 c.get.result.now) in
    let is : v ≡ get_or items (c.args.first + j) (pos 0) = to_z-of_z w64 c.get.result.now fits ∙ (c.get.ensures ∙ get_or_default items (c.args.first + j) c.get.result.now (pos 0) (omega (arith, known, size))) in
    record {
      long = length-set lanes j v ∙ long;
      slots = λ i lt. elim (cases_eq i j) [
        | inl same ↦ ap (λ k. get_or (set lanes j v) k (pos 0)) same ∙ get_or-set_same lanes j v (pos 0) (omega (arith, test, n, long)) ∙ is ∙ ap (λ k. get_or items (c.args.first + k) (pos 0)) (sym same)
        | inr other ↦ get_or-set_other lanes j i v (pos 0) other ∙ old.slots i (omega (arith, lt, other))
      ];
      others = λ i le. get_or-set_other lanes j i v (pos 0) (omega (arith, le)) ∙ old.others i (omega (arith, le));
    }
