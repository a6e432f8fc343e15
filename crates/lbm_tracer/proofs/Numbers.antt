-- Numbers that a machine word holds.
use Rattle.std.proofs.Common.{◌≡◌, ◌^◌, ◌<◌, ◌≤◌, ℤ, pos, ◌≤ℤ◌, unsigned_abs, FitsSigned, w64, to_z, of_z, arith}
use Rattle.std.proofs.lemmas.Int.{ints, to_z-of_z}
use Rattle.lbm_cell.specs.declared.populations.Moment.{Moment}
use Rattle.lbm_tracer.specs.Collision.{IsFlowMoment}

pub fits : (z : ℤ) → unsigned_abs z < 2 ^ 62 → FitsSigned w64 z
fits z small = omega (arith, ints)

pub held : (z : ℤ) → unsigned_abs z < 2 ^ 62 → to_z w64 (of_z w64 z) ≡ z
held z small = to_z-of_z w64 z (fits z small)

between : (z : ℤ) → pos 442368 ≤ℤ z → z ≤ℤ pos 1769472 → unsigned_abs z ≤ 1769472
between z low high = omega (arith, ints)

pub density_size : (flow : Moment) → IsFlowMoment flow → unsigned_abs flow.rho ≤ 1769472
density_size flow is = between flow.rho is.not_thin is.not_dense
