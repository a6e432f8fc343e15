use Rattle.std.proofs.Common.{arith, ℕ, pos, to_z}
use Rattle.std.specs.Int.{w64}
use Rattle.std.specs.Prelude.{slice_index}
use Rattle.std.proofs.lemmas.Int.{to_z_pos}
use Rattle.lbm_lanes.proofs.Wrapping.{lane_twice}
use Rattle.lbm_lanes.proofs.signed.signed.Goals as goal

pub returns : goal.returns
returns c = λ l known. let zero : ℕ = 0 in
    rw (lane_twice (to_z w64) _ c.args.a l zero zero (pos 0) (omega (arith, c.fits-a.0, known))) (to_z_pos w64 (slice_index c.args.a l) (omega (arith, c.requires l known)))
