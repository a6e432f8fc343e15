use Rattle.std.proofs.Common.{◌+◌, ◌∙◌, sym, ap, [], ◌∷◌, ◌++◌, append_assoc, arith}
use Rattle.std.specs.Str.{chars}
use Rattle.std.proofs.lemmas.List.{length_push}
use Rattle.std.proofs.lemmas.Iterator.{YieldsList-from_chars}
use Rattle.std.proofs.lemmas.Iterator.Consumers.{YieldsList-end, YieldsList-turn}
use Rattle.lbm_case.proofs.Numbered.{moving_from, same_items, moving_from-append, moving_in-later}
use Rattle.lbm_case.proofs.cells.push_moving.Goals as goal

pub overflow_add-number : goal.overflow_add-number
overflow_add-number c =
    let turn = (YieldsList-turn (YieldsList-from_chars c.args.text.now c.utf8.text cc) c.loop-c.yielded _ c.loop-c.yielded_by _ _ c.in-Some.c c.in-Some.is c.next.ensures.steps).0 in
    omega arith

pub loop-c-preserved : goal.loop-c-preserved
loop-c-preserved c = record {
  ready = tt;
  finite = tt;
  counted = omega (arith, length_push c.loop-c.yielded c.in-Some.c);
  so_far = c.in_ok-push_if_moving.ensures ∙ rw (moving_from-append c.args.first c.loop-c.yielded (c.in-Some.c ∷ []), c.loop-c.invariant.so_far, c.loop-c.invariant.counted) (append_assoc c.args.moving.now.items (moving_from c.args.first c.loop-c.yielded) _);
}

pub returns-clause-items : goal.returns-clause-items
returns-clause-items c =
    let whole = (YieldsList-end (YieldsList-from_chars c.args.text.now c.utf8.text cc) c.loop-c.yielded _ c.loop-c.yielded_by _ _ c.in-None.is c.next.ensures.steps).0 in
    c.loop-c.invariant.so_far ∙ (ap (λ cs. c.args.moving.now.items ++ moving_from c.args.first cs) (sym (same_items c.loop-c.yielded) ∙ whole)
    ∙ ap (λ xs. c.args.moving.now.items ++ xs) (sym (moving_in-later c.args.first (chars c.args.text.now))))

pub returns-clause-next : goal.returns-clause-next
returns-clause-next c =
    let whole = (YieldsList-end (YieldsList-from_chars c.args.text.now c.utf8.text cc) c.loop-c.yielded _ c.loop-c.yielded_by _ _ c.in-None.is c.next.ensures.steps).1 in
    c.loop-c.invariant.counted ∙ ap (λ n. c.args.first + n) whole
