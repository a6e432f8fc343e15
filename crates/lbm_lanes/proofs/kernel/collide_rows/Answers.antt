use Rattle.lbm_lanes.proofs.kernel.collide_rows.Goals as goal

pub collide_known-requires-clause-fits : goal.collide_known-requires-clause-fits
collide_known-requires-clause-fits g c = c.requires.fits

pub collide_known-requires-clause-run : goal.collide_known-requires-clause-run
collide_known-requires-clause-run g c = let is = c.args.rule.now.prepared in record { force = is.force; prepared = is.prepared; divisor = is.divisor; ones = is.ones }

pub collide_known-requires-clause-sums : goal.collide_known-requires-clause-sums
collide_known-requires-clause-sums g c = c.of-sums.ensures

pub collide_known-requires-clause-out : goal.collide_known-requires-clause-out
collide_known-requires-clause-out g c = c.out_of_limits-out.ensures
