use Rattle.std.proofs.Common.{◌≡◌, ◌∙◌, ℕ, Vec, Global, arith, ap, sym}
use Rattle.std.specs.Prelude.{Some, None}
use Rattle.std.proofs.lemmas.Result.{err_from_is_err_and}
use Rattle.lbm_number.specs.Number.{number_of}
use Rattle.lbm_words.proofs.EndLemmas.{Gives-nothing}
use Rattle.lbm_words.proofs.NumberLemmas.{numbers_from-number, numbers_from-other}
use Rattle.lbm_words.proofs.numbers.each_number.Goals as goal

pub returns-in_err-number : goal.returns-in_err-number
returns-in_err-number c =
    let read : c.number_of.result ≡ None = grind (arith, c.in_err-number.ensures.value) in
    let p = err_from_is_err_and c.from_residual.result c.from_residual.ensures.1 in
    rw p.1
    (Gives-nothing {X = Vec ℕ Global} (λ numbers. numbers.items) p.0 _
    (sym c.loop-text.invariant ∙ numbers_from-other c.args.texts.now c.loop-text.text-index _ c.loop-text.numbers.items (omega arith) (sym (c.number_of.ensures ∙ ap number_of c.as_bytes.ensures.value) ∙ read)))

pub loop-text-preserved : goal.loop-text-preserved
loop-text-preserved c =
    let read : c.number_of.result ≡ Some c.in_ok-number.number = grind (arith, c.in_ok-number.ensures.value) in
    rw (c.in_ok-push.ensures.items)
    (numbers_from-number c.args.texts.now c.loop-text.text-index _ c.loop-text.numbers.items c.in_ok-number.number (omega arith) (sym (c.number_of.ensures ∙ ap number_of c.as_bytes.ensures.value) ∙ read) ∙ c.loop-text.invariant)
