use Rattle.std.proofs.Common.{◌≡◌, rules}
use Rattle.std.proofs.lemmas.Result.{IfOk-weaker}
use Rattle.clap.specs.Words.{app_of}
use Rattle.lbm_words.specs.Commands.{bare}
use Rattle.lbm_words.proofs.CommandLemmas.{command_of-made}
use Rattle.lbm_words.proofs.commands.command_of.Goals as goal

pub returns : goal.returns
returns c =
    let bare_is : app_of c.disable_version_flag-bare.result ≡ bare c.args.name.now = search rules in
    IfOk-weaker c.with_options.result _ _
    (λ command is. command_of-made c.args.name.now _ _ _ c.args.positionals.now c.args.options.now bare_is c.in_ok-positioned.ensures is)
    c.with_options.ensures
