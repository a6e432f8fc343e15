use Rattle.std.proofs.Common.{◌≡◌, ◌∙◌, ◌*◌, ◌<◌, Fits, w64, ap, ℕ, get_or, refl, replicate, arith}
use Rattle.std.proofs.lemmas.Simd.{get_or-replicate}
use Rattle.lbm_lanes.proofs.Operators.{each2_from, lane_zip2}
use Rattle.lbm_lanes.proofs.vectors.multiple.Goals as goal

factor : (k l y : ℕ) → l < 8 → get_or (replicate 8 k) l 0 * y ≡ k * y
factor k l y known = ap (λ (x : ℕ). x * y) (get_or-replicate 8 l k 0 known)

pub overflow_mul-result : goal.overflow_mul-result
overflow_mul-result c = each2_from (λ x y. Fits w64 (x * y)) 8 (replicate 8 c.args.k) c.args.a refl c.fits-a.0
    (λ l known. record { fits = omega (arith, c.requires l known, factor c.args.k l (get_or c.args.a l 0) known) })

pub returns : goal.returns
returns c l known = lane_zip2 8 (λ x y. x * y) 0 (replicate 8 c.args.k) c.args.a refl c.fits-a.0 l known ∙ factor c.args.k l (get_or c.args.a l 0) known
