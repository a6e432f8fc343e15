use Rattle.lbm_symmetry.proofs.Named.{translations, mirrors, exchanges, turns}
use Rattle.lbm_symmetry.proofs.laws.motion_law.Goals as goal

pub returns : goal.returns
returns c = record { translations = translations; mirrors = mirrors; exchanges = exchanges; turns = turns }
