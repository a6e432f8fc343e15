use Rattle.std.proofs.Common.{◌<◌, ◌≤◌, ◌∙◌, length, sym, SFits, w64, rules, arith}
use Rattle.std.proofs.lemmas.Int.{to_z-of_z}
use Rattle.std.proofs.lemmas.List.{length-replicate, length-set}
use Rattle.lbm_case.proofs.SettingsLemmas.{integers_in-other_length, integers_in-same_length, before_none, before_other, before_integer, before_all}
use Rattle.lbm_case.proofs.settings.integers.Goals as goal

pub returns-then-items : goal.returns-then-items
returns-then-items g c = sym (integers_in-other_length g.row.N c.args.items.now c.if-items.true)

pub loop-i-init : goal.loop-i-init
loop-i-init g c = record { room = length-replicate _ _; same_length = c.if-items.false; so_far = before_none _ }

pub returns-in_err-numbers : goal.returns-in_err-numbers
returns-in_err-numbers g c =
    let within : c.loop-i.i < length c.args.items.now = omega arith in
    rw c.from_residual.ensures
    (sym (integers_in-same_length g.row.N _ c.loop-i.invariant.same_length ∙ (sym c.loop-i.invariant.so_far ∙ before_other _ _ c.loop-i.i _ within c.index-items-i.is (sym c.in_err-numbers.ensures))))

pub loop-i-preserved : goal.loop-i-preserved
loop-i-preserved g c =
    let fits : SFits w64 c.in_ok-numbers.field-0 = search rules in
    let room : c.loop-i.i < length c.loop-i.numbers = omega arith in
    let within : c.loop-i.i < length c.args.items.now = omega arith in
    rw (to_z-of_z w64 c.in_ok-numbers.field-0 fits) (record {
      room = length-set _ _ _ ∙ c.loop-i.invariant.room;
      same_length = c.loop-i.invariant.same_length;
      so_far = before_integer _ _ c.loop-i.i _ _ room within c.index-items-i.is (sym c.in_ok-numbers.ensures) ∙ c.loop-i.invariant.so_far;
    })

pub returns : goal.returns
returns g c =
    let short : length c.loop-i.numbers ≤ c.loop-i.i = omega arith in
    let few : length c.args.items.now ≤ c.loop-i.i = omega arith in
    sym (integers_in-same_length g.row.N _ c.loop-i.invariant.same_length ∙ (sym c.loop-i.invariant.so_far ∙ before_all _ _ _ short few))
