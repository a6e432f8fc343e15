use Rattle.std.proofs.Common.{◌≡◌, arith, ◌∙◌, ℕ, pos, map, of_z, to_z, replicate, refl, length, false, ap, get_or, List}
use Rattle.std.specs.Int.{w64}
use Rattle.std.proofs.lemmas.Simd.{tops_compared, get_or-zip2, get_or-replicate}
use Rattle.lbm_lanes.specs.Lanes.{entry}
use Rattle.lbm_lanes.proofs.Wrapping.{lane_map, length_map, length_zip, bit_is, mask_fits, below_zero}
use Rattle.lbm_lanes.proofs.signed.negative.Goals as goal
use lib.Lanes.{zip2}
use lib.Signed.{lt_z}

pub overflow_cast-result : goal.overflow_cast-result
overflow_cast-result c =
    let xs : List ℕ = map (of_z w64) c.args.a in let ys : List ℕ = replicate 8 0 in
    let long : length xs ≡ 8 = omega (arith, length_map (of_z w64) c.args.a) in
    rw (tops_compared w64 (λ m n. lt_z (to_z w64 m) (to_z w64 n)) xs ys) (mask_fits (zip2 (λ m n. lt_z (to_z w64 m) (to_z w64 n)) xs ys) (length_zip (λ m n. lt_z (to_z w64 m) (to_z w64 n)) xs ys 8 long refl))

pub returns : goal.returns
returns c = λ l known.
    let t = λ (m n : ℕ). lt_z (to_z w64 m) (to_z w64 n) in let xs : List ℕ = map (of_z w64) c.args.a in let ys : List ℕ = replicate 8 0 in
    let long : length xs ≡ 8 = omega (arith, length_map (of_z w64) c.args.a) in
    rw (tops_compared w64 t xs ys) (bit_is (zip2 t xs ys) l (length_zip t xs ys 8 long refl)
    ∙ get_or-zip2 t xs ys l 0 0 false (omega (arith, long)) (omega (arith, known))
    ∙ ap (λ (n : ℕ). t (get_or xs l 0) n) (get_or-replicate 8 l 0 0 known)
    ∙ ap (λ (n : ℕ). t n 0) (lane_map (of_z w64) c.args.a l (pos 0) 0 (omega (arith, known)))
    ∙ below_zero (entry c.args.a l) (c.requires l known))
