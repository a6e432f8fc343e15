-- The arrays have the same sizes at all times.
use Rattle.std.proofs.Common.{ℕ, ◌+◌, ◌%◌, ◌≤◌, nat_eq, Bool, true, false, arith}
use Rattle.std.specs.Prelude.{if◌then◌else◌}
use Rattle.lbm_space.specs.Padded.{reach}
use Rattle.lbm_model.specs.Case.{FlowCase}
use Rattle.lbm_model.specs.Layout.{grid_layout}
use Rattle.lbm_arrays.specs.Arrays.{Arrays}
use Rattle.lbm_sweep.specs.Lattices.{IsLaidOut}

pub base_fits : (even : Bool) (n : ℕ) → (if even then n else 0) ≤ n
base_fits true n = omega arith
base_fits false n = omega arith

pub still_laid : (case : FlowCase) (time : ℕ) (region : Arrays) → IsLaidOut case (grid_layout case.torus case.stencil time) region → IsLaidOut case (grid_layout case.torus case.stencil (time + 1)) region
still_laid case time region laid = record {
  space = laid.space;
  count = laid.count;
  margin = laid.margin;
  base = base_fits (nat_eq ((time + 1) % 2) 0) (reach case.torus case.stencil);
}
