use Rattle.std.proofs.Common.{◌∙◌, refl, subst}
use Rattle.lbm_store.specs.Outside.{GotFront}
use Rattle.lbm_store.proofs.Written.{GotFront-from_writes}
use Rattle.lbm_answer.proofs.telling.tell_memory.Goals as goal

pub returns-clause-told : goal.returns-clause-told
returns-clause-told g c = (
  refl,
  subst (λ line. GotFront (g.K.Sink.state c.args.out.now).written (g.K.Sink.state c.write.new.self).written line) (c.as_bytes.ensures.value ∙ c.as_str.ensures.value ∙ c.line_of.ensures)
      (GotFront-from_writes _ _ c.write.result _ c.write.ensures),
)
