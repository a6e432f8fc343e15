use Rattle.std.proofs.Common.{subst}
use Rattle.lbm_space.specs.Cuttings.{IsCutting}
use Rattle.lbm_space.proofs.Slabs.{in_one_slab}
use Rattle.lbm_space.proofs.cutting.Cutting.slabs.Goals as goal

pub returns-clause-partition : goal.returns-clause-partition
returns-clause-partition c = in_one_slab c.args.self.now (subst IsCutting c.self.view_is c.self.invariant.0)
