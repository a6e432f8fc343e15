use Rattle.std.proofs.Common.{refl, inl, inr}
use Rattle.std.proofs.lemmas.Bool.{cases_Bool, both_ways}
use Rattle.std.proofs.lemmas.Str.{is_utf8-from_IsUtf8, IsUtf8-from_is_utf8}
use Rattle.std.specs.Str.{is_utf8}
use Rattle.lbm_case.proofs.document.read_table.Goals as goal

pub returns-in-Ok : goal.returns-in-Ok
returns-in-Ok c = rw (is_utf8-from_IsUtf8 _ c.in-Ok.ensures.ok.0, c.in-Ok.ensures.ok.1) refl

pub returns-else-is_memory : goal.returns-else-is_memory
returns-else-is_memory c = elim (cases_Bool (is_utf8 c.args.bytes.now)) [
  | inl text ↦ rw (text, c.in-Err.ensures.refused (λ memory. both_ways _ c.if-is_memory.false (c.is_memory.ensures.1 memory)) (IsUtf8-from_is_utf8 _ text)) refl
  | inr other ↦ rw other refl
]
