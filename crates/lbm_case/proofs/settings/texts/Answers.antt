use Rattle.std.proofs.Common.{refl}
use Rattle.lbm_case.proofs.SettingsLemmas.{texts_in-view}
use Rattle.lbm_case.proofs.settings.texts.Goals as goal

pub returns-then-are_texts : goal.returns-then-are_texts
returns-then-are_texts c = rw (texts_in-view c.args.values.now, ← c.are_texts.ensures, c.if-are_texts.true) refl

pub returns-else-are_texts : goal.returns-else-are_texts
returns-else-are_texts c = rw (texts_in-view c.args.values.now, ← c.are_texts.ensures, c.if-are_texts.false) refl
