use Rattle.std.proofs.Common.{◌≡◌, true, false}
use Rattle.lbm_lanes.proofs.kernel.collide_known.Goals as goal

never : {A : Type 0} → false ≡ true → A
never e = absurd cc

pub collide_lanes-requires-clause-fits : goal.collide_lanes-requires-clause-fits
collide_lanes-requires-clause-fits g c = c.requires.fits

pub collide_lanes-requires-clause-apart : goal.collide_lanes-requires-clause-apart
collide_lanes-requires-clause-apart g c = c.requires.apart

pub collide_lanes-requires-clause-sums : goal.collide_lanes-requires-clause-sums
collide_lanes-requires-clause-sums g c = c.requires.sums

pub collide_lanes-requires-clause-out : goal.collide_lanes-requires-clause-out
collide_lanes-requires-clause-out g c = c.requires.out

pub collide_lanes-requires-clause-run : goal.collide_lanes-requires-clause-run
collide_lanes-requires-clause-run g c = let is = c.requires.run in record { force = is.force; prepared = is.prepared; divisor = is.divisor; ones = λ _. is.ones c.if-one.true }

pub collide_lanes-requires-2-clause-fits : goal.collide_lanes-requires-2-clause-fits
collide_lanes-requires-2-clause-fits g c = c.requires.fits

pub collide_lanes-requires-2-clause-apart : goal.collide_lanes-requires-2-clause-apart
collide_lanes-requires-2-clause-apart g c = c.requires.apart

pub collide_lanes-requires-2-clause-sums : goal.collide_lanes-requires-2-clause-sums
collide_lanes-requires-2-clause-sums g c = c.requires.sums

pub collide_lanes-requires-2-clause-out : goal.collide_lanes-requires-2-clause-out
collide_lanes-requires-2-clause-out g c = c.requires.out

pub collide_lanes-requires-2-clause-run : goal.collide_lanes-requires-2-clause-run
collide_lanes-requires-2-clause-run g c = let is = c.requires.run in record { force = is.force; prepared = is.prepared; divisor = is.divisor; ones = λ e. never e }
