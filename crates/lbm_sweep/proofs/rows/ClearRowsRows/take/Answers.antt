use Rattle.lbm_sweep.proofs.rows.ClearRowsRows.take.Goals as goal

pub take_clear-requires-clause-fitting : goal.take_clear-requires-clause-fitting
take_clear-requires-clause-fitting g c = (c.args.self.now.writes.now, c.args.self.now.fitting)
