use Rattle.std.proofs.Common.{arith}
use Rattle.lbm_words.specs.Commands.{positional}
use Rattle.lbm_words.proofs.CommandLemmas.{added-more}
use Rattle.lbm_words.proofs.commands.with_positionals.Goals as goal

pub loop-name-preserved : goal.loop-name-preserved
loop-name-preserved c =
    added-more positional _ _ _ c.args.names.now c.loop-name.name-index _ _ (omega arith) c.loop-name.invariant
    (c.in_ok-command.ensures.shape c.positional.ensures.local) c.positional.ensures.rule
