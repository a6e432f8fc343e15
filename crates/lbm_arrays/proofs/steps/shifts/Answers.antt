use Rattle.std.proofs.Common.{◌≡◌, ℕ, List, [], ◌∷◌, ◌++◌, ℤ, pos, ◌+ℤ◌, length, get_or, w64, sym, ap, subst, ◌∙◌, inl, inr, arith, rules}
use mir.Val.{SFits, to_z, of_z}
use Rattle.std.proofs.lemmas.Int.{to_z-of_z}
use Rattle.std.proofs.lemmas.Bool.{cases_lt}
use Rattle.std.proofs.lemmas.List.{get_or_append_left}
use Rattle.std.proofs.Math.Seq.{get_or-append_seam}
use Rattle.std.proofs.Common.{length-append}
use Rattle.std.proofs.lemmas.List.FromFn.{fill_by_all}
use Rattle.lbm_arrays.specs.LentRanges.{AreInside, IsLent}
use Rattle.lbm_arrays.specs.declared.steps.Step.{Step}
use Rattle.lbm_arrays.specs.Steps.{shift_of, step_shifts, touched, rising_strip, falling_strip, IsReadNear}
use Rattle.lbm_arrays.proofs.Behind.{behind_inside}
use Rattle.lbm_arrays.proofs.Moves.{shifts_inside, touches_arrays, touched_lent, read_rising, read_falling}
use Rattle.lbm_arrays.proofs.steps.shifts.Goals as goal

pub loop-k-preserved : goal.loop-k-preserved
loop-k-preserved g c =
    let v = g.V.VelocitySet.stencil in let t = c.args.space.now in let old = c.loop-k.invariant in let k = c.loop-k.k in
    let base : ℤ = pos c.args.base in let items = c.loop-k.table.items in let word = to_z w64 (of_z w64 c.from_base.result) in
    let fits : SFits w64 c.from_base.result = search rules in let fits' : SFits w64 c.shift.result = search rules in
    let value : word ≡ base +ℤ shift_of t v c.args.step k =
    to_z-of_z w64 c.from_base.result fits ∙ c.from_base.ensures.value ∙ ap (λ (z : ℤ). base +ℤ z) (to_z-of_z w64 c.shift.result fits' ∙ c.shift.ensures.value) in
    let count = old.count in
    record {
      count = ap length c.push.ensures.items ∙ length-append items (word ∷ []) ∙ omega (arith, count);
      table = λ j here. ap (λ (l : List ℤ). get_or l j (pos 0)) c.push.ensures.items ∙ elim (cases_lt j k) [
        | inl front ↦ get_or_append_left items (word ∷ []) (pos 0) j (omega (arith, count, front)) ∙ old.table j front
        | inr last ↦ (
            let same : j ≡ length items = omega (arith, count, last, here) in let same' : k ≡ j = omega (arith, last, here) in
            ap (λ (n : ℕ). get_or (items ++ word ∷ []) n (pos 0)) same ∙ get_or-append_seam items word [] (pos 0) ∙ value ∙ ap (λ (n : ℕ). base +ℤ shift_of t v c.args.step n) same')
      ];
    }

pub returns-clause-table : goal.returns-clause-table
returns-clause-table g c =
    let v = g.V.VelocitySet.stencil in let t = c.args.space.now in let old = c.loop-k.invariant in
    let past = c.loop-k-test.false in let end = c.loop-k.auto.k-end in let all = c.Q-k-end.ensures ∙ g.met.V.VelocitySet.constants.0 in
    fill_by_all (λ k. pos c.args.base +ℤ shift_of t v c.args.step k) c.loop-k.table.items v.directions (pos 0) (let count = old.count in omega (arith, all)) (λ k known. old.table k (omega (arith, all)))

pub returns-clause-inside : goal.returns-clause-inside
returns-clause-inside g c margin room =
    let v = g.V.VelocitySet.stencil in let t = c.args.space.now in
    subst (AreInside t margin) (sym (returns-clause-table g c)) (shifts_inside t c.reach.ensures.valid v g.met.V.VelocitySet.laws c.requires c.args.step c.args.base margin room)

pub returns-clause-within : goal.returns-clause-within
returns-clause-within g c margin room = touches_arrays c.args.space.now c.reach.ensures.valid g.V.VelocitySet.stencil g.met.V.VelocitySet.laws c.requires c.args.step c.args.base margin room

pub returns-clause-read : goal.returns-clause-read
returns-clause-read g c cell k here known = behind_inside c.args.space.now c.reach.ensures.valid g.V.VelocitySet.stencil g.met.V.VelocitySet.laws c.requires k known cell here

pub returns-clause-touched : goal.returns-clause-touched
returns-clause-touched g c margin a b cell k room end here low high known =
    let v = g.V.VelocitySet.stencil in let t = c.args.space.now in
    subst (λ (l : List ℤ). IsLent t margin l k a b (touched t margin c.args.base v c.args.step k cell)) (sym (returns-clause-table g c))
    (touched_lent t c.reach.ensures.valid v g.met.V.VelocitySet.laws c.requires c.args.step c.args.base margin a b cell k room end here low high known)

pub returns-clause-rising : goal.returns-clause-rising
returns-clause-rising g c margin rises room =
    let v = g.V.VelocitySet.stencil in let t = c.args.space.now in
    let table = returns-clause-table g c ∙ ap (λ (s : Step). step_shifts t v s c.args.base) rises in
    subst (λ (l : List ℤ). IsReadNear t margin c.args.base v l (rising_strip t v)) (sym table) (read_rising t c.reach.ensures.valid v g.met.V.VelocitySet.laws c.requires margin c.args.base room)

pub returns-clause-falling : goal.returns-clause-falling
returns-clause-falling g c margin falls room =
    let v = g.V.VelocitySet.stencil in let t = c.args.space.now in
    let table = returns-clause-table g c ∙ ap (λ (s : Step). step_shifts t v s c.args.base) falls in
    subst (λ (l : List ℤ). IsReadNear t margin c.args.base v l (falling_strip t v)) (sym table) (read_falling t c.reach.ensures.valid v g.met.V.VelocitySet.laws c.requires margin c.args.base room)
