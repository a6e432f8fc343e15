use Rattle.std.proofs.Common.{arith}
use Rattle.lbm_words.specs.Commands.{option}
use Rattle.lbm_words.proofs.CommandLemmas.{added-more}
use Rattle.lbm_words.proofs.commands.with_options.Goals as goal

pub loop-name-preserved : goal.loop-name-preserved
loop-name-preserved c =
    added-more option _ _ _ c.args.names.now c.loop-name.name-index _ _ (omega arith) c.loop-name.invariant
    (c.in_ok-command.ensures.shape c.option.ensures.local) c.option.ensures.rule
