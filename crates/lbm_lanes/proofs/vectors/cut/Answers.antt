use Rattle.std.proofs.Common.{◌∙◌, ◌^◌, ◌/◌, ap, ℕ, get_or, refl, replicate}
use Rattle.std.proofs.lemmas.Simd.{get_or-replicate}
use Rattle.lbm_lanes.proofs.Operators.{lane_zip2}
use Rattle.lbm_lanes.proofs.vectors.cut.Goals as goal

pub returns : goal.returns
returns c l known =
    lane_zip2 8 _ 0 c.args.a (replicate 8 c.args.shift) c.fits-a.0 refl l known ∙ ap (λ (s : ℕ). get_or c.args.a l 0 / 2 ^ s) (get_or-replicate 8 l c.args.shift 0 known)
