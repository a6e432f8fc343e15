use Rattle.lbm_voxel.proofs.Worked.{two_cells, refused}
use Rattle.lbm_voxel.proofs.laws.worked_files.Goals as goal

pub returns : goal.returns
returns c = record { accepted = two_cells; refused = refused }
