use Rattle.std.proofs.Common.{◌≡◌, true, subst, sym}
use Rattle.clap.specs.Words.{is_simple_and_free}
use Rattle.lbm_words.proofs.Simple.{app_for-is_simple}
use Rattle.lbm_words.proofs.read.read_by.Goals as goal

pub taken-requires : goal.taken-requires
taken-requires c = subst (λ app. is_simple_and_free app ≡ true) (sym c.in_ok-command.ensures) (app_for-is_simple _)
