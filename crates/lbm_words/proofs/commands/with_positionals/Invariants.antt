use Rattle.std.proofs.Common.{◌≡◌, map, take}
use Rattle.clap.specs.Words.{app_of}
use Rattle.lbm_words.specs.Commands.{positional, with_rules}
use Rattle.lbm_words.proofs.commands.with_positionals.Given as goal

abbrev pub invariant-loop-name : goal.invariant-loop-name
invariant-loop-name l = app_of l.command ≡ with_rules (app_of l.initial.command) (map (λ name. positional name.now) (take l.name-index l.names))
