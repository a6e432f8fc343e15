use Rattle.std.proofs.Common.{◌≡◌, arith, ◌<◌, ℕ, pos, map, of_z, to_z, unsigned_abs, length, Fits, refl}
use Rattle.std.specs.Int.{w64}
use Rattle.std.proofs.lemmas.Int.{to_z_pos}
use Rattle.std.proofs.lemmas.Simd.{Each1-from_get_or}
use Rattle.lbm_lanes.specs.Lanes.{entry}
use Rattle.lbm_lanes.proofs.Wrapping.{lane_map, lane_twice, length_map, cast_is, cast_fits}
use lib.Dec.{T}
use lib.Signed.{non_neg}
use Rattle.lbm_lanes.proofs.signed.natural.Goals as goal

pub overflow_cast-result : goal.overflow_cast-result
overflow_cast-result c = Each1-from_get_or _ (map (of_z w64) c.args.a) 0 (λ l known.
    let same = length_map (of_z w64) c.args.a in
    let short : l < length c.args.a = omega (arith, known, same) in
    let eight : l < 8 = omega (arith, short) in
    rw (lane_map (of_z w64) c.args.a l (pos 0) 0 short) (cast_fits (λ n. T (non_neg (to_z w64 n)) × Fits w64 (unsigned_abs (to_z w64 n))) (entry c.args.a l) (c.requires.above l eight) (c.requires.small l eight) (λ n small. let is : to_z w64 n ≡ pos n = to_z_pos w64 n (omega (arith, small)) in rw is (tt, record { fits = omega (arith, small) }))))

pub returns : goal.returns
returns c = λ l known.
    let zero : ℕ = 0 in
    rw (lane_twice _ (of_z w64) c.args.a l (pos 0) zero zero (omega (arith, known))) (cast_is (λ n. unsigned_abs (to_z w64 n)) (entry c.args.a l) (c.requires.above l known) (c.requires.small l known) (λ n small. let is : to_z w64 n ≡ pos n = to_z_pos w64 n (omega (arith, small)) in rw is refl))
