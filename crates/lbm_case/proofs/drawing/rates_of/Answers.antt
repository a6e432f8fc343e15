use Rattle.std.proofs.Common.{rules}
use Rattle.lbm_case.specs.Views.{settings_view}
use Rattle.lbm_case.proofs.Ranges.{rates_allowed}
use Rattle.lbm_case.proofs.drawing.rates_of.Goals as goal

pub unwrap-requires : goal.unwrap-requires
unwrap-requires c = let allowed = rates_allowed (settings_view c.args.settings.now) c.requires in search rules
