use Rattle.lbm_lanes.proofs.kernel.collide_whole.Goals as goal

pub collide_sums-requires-clause-within : goal.collide_sums-requires-clause-within
collide_sums-requires-clause-within g c = λ l lane on. c.requires.within l lane

pub returns-clause-sent : goal.returns-clause-sent
returns-clause-sent g c = λ k j known cell. c.collide_sums.ensures.sent k j known cell
