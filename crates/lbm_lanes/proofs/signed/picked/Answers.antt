use Rattle.std.proofs.Common.{◌≡◌, arith, ◌∙◌, ℕ, pos, map, of_z, to_z, replicate, refl, length, ap, get_or, ltb, cond, List}
use Rattle.std.specs.Int.{w64}
use Rattle.std.specs.Prelude.{slice_index}
use Rattle.std.proofs.lemmas.Simd.{get_or-replicate}
use Rattle.lbm_lanes.specs.Lanes.{entry}
use Rattle.lbm_lanes.proofs.Operators.{lane_chosen, chosen_length}
use Rattle.lbm_lanes.proofs.Wrapping.{lane_map, length_map, picked_is}
use Rattle.lbm_lanes.proofs.signed.picked.Goals as goal

pub returns : goal.returns
returns c = λ l known.
    let xs = map (of_z w64) c.args.first in let ys = map (of_z w64) c.args.second in let zeros : List ℕ = replicate 8 0 in
    let long_x : length xs ≡ 8 = omega (arith, length_map (of_z w64) c.args.first) in let long_y : length ys ≡ 8 = omega (arith, length_map (of_z w64) c.args.second) in
    lane_map (to_z w64) _ l 0 (pos 0) (omega (arith, known, chosen_length 8 zeros c.args.flags xs ys refl c.fits-flags.0 long_x long_y))
    ∙ ap (to_z w64) (lane_chosen 8 zeros c.args.flags xs ys refl c.fits-flags.0 long_x long_y l known)
    ∙ ap (λ (n : ℕ). to_z w64 (cond (ltb n (slice_index c.args.flags l)) (get_or xs l 0) (get_or ys l 0))) (get_or-replicate 8 l 0 0 known)
    ∙ ap (λ (n : ℕ). to_z w64 (cond (ltb 0 (slice_index c.args.flags l)) n (get_or ys l 0))) (lane_map (of_z w64) c.args.first l (pos 0) 0 (omega (arith, known)))
    ∙ ap (λ (n : ℕ). to_z w64 (cond (ltb 0 (slice_index c.args.flags l)) (of_z w64 (entry c.args.first l)) n)) (lane_map (of_z w64) c.args.second l (pos 0) 0 (omega (arith, known)))
    ∙ picked_is (ltb 0 (slice_index c.args.flags l)) (entry c.args.first l) (entry c.args.second l) (c.requires.first l known) (c.requires.second l known)
