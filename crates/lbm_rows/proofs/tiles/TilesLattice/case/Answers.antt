use Rattle.lbm_model.proofs.States.{IsStateOf-state_by}
use Rattle.lbm_rows.specs.Kept.{population_kept}
use Rattle.lbm_rows.proofs.tiles.TilesLattice.case.Goals as goal

pub returns-clause-sizes : goal.returns-clause-sizes
returns-clause-sizes g c none = let l = c.args.self.now in IsStateOf-state_by l.case (population_kept l.case l.time l.kept)
