use Rattle.std.proofs.Common.{arith}
use Rattle.std.proofs.lemmas.Int.{ints}
use Rattle.lbm_case.specs.Views.{settings_view}
use Rattle.lbm_case.proofs.Ranges.{density_within}
use Rattle.lbm_case.proofs.drawing.density_of.Goals as goal

pub overflow_cast-result : goal.overflow_cast-result
overflow_cast-result c = let known = density_within (settings_view c.args.settings.now) c.requires in (omega (arith, ints), omega (arith, ints))

pub returns-clause-greatest : goal.returns-clause-greatest
returns-clause-greatest c = let known = density_within (settings_view c.args.settings.now) c.requires in omega (arith, ints)

pub returns-clause-least : goal.returns-clause-least
returns-clause-least c = let known = density_within (settings_view c.args.settings.now) c.requires in omega (arith, ints)
