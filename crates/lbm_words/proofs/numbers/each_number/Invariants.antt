use Rattle.std.proofs.Common.{◌≡◌}
use Rattle.lbm_words.proofs.NumberLemmas.{before, numbers_from}
use Rattle.lbm_words.proofs.numbers.each_number.Given as goal

abbrev pub invariant-loop-text : goal.invariant-loop-text
invariant-loop-text l = before l.numbers.items (numbers_from l.texts l.text-index) ≡ numbers_from l.texts 0
