use Rattle.std.proofs.Common.{◌≡◌, drop, All}
use Rattle.lbm_case.specs.CaseOf.{IsFirstDensity}
use Rattle.lbm_voxel.specs.Text.{words}
use Rattle.lbm_voxel.specs.Voxels.{densities_of}
use Rattle.lbm_voxel.proofs.Densities.{AreValues}
use Rattle.lbm_voxel.proofs.values.densities_in.Given as goal

abbrev pub invariant-loop-x : goal.invariant-loop-x
invariant-loop-x l = record {
  value : l.densities.items ≡ densities_of (words l.text) l.x;
  rest : words l.rest ≡ drop l.x (words l.text);
  before : AreValues (words l.text) l.x;
  allowed : All IsFirstDensity l.densities.items;
}
