use Rattle.lbm_sweep.proofs.rows.SlabRowsRows.take.Goals as goal

pub take-requires-clause-fitting : goal.take-requires-clause-fitting
take-requires-clause-fitting g c = (c.args.self.now.writes.now, c.args.self.now.fitting)
