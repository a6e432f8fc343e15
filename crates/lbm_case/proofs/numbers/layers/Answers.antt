use Rattle.std.proofs.Common.{rules}
use Rattle.lbm_case.specs.Views.{settings_view}
use Rattle.lbm_case.proofs.Ranges.{layers_positive}
use Rattle.lbm_case.proofs.numbers.layers.Goals as goal

pub returns-clause-some : goal.returns-clause-some
returns-clause-some c = let some = layers_positive (settings_view c.args.settings.now) c.requires in search rules
