-- What holds of every voxel file.
use Rattle.std.specs.Prelude.{◌≡◌, ℕ, List, Ok}
use Rattle.lbm_model.specs.Case.{FlowCase, IsCase}
use Rattle.lbm_voxel.specs.Voxels.{voxels_of}

-- what it makes of a case that is accepted is one that is accepted
abbrev pub MakesCases : Type 0
MakesCases = (bytes : List ℕ) (case made : FlowCase) → IsCase case → voxels_of bytes case ≡ Ok made → IsCase made
