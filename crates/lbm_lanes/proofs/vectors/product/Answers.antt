use Rattle.std.proofs.Common.{◌≡◌, ◌*◌, ◌∙◌, ℕ, ap, arith}
use Rattle.lbm_lanes.proofs.Operators.{each2_from, lane_zip2}
use Rattle.lbm_lanes.proofs.vectors.product.Goals as goal

-- equal factors have equal products
times : (x y a b : ℕ) → x ≡ a → y ≡ b → x * y ≡ a * b
times x y a b first second = ap (λ (k : ℕ). k * y) first ∙ ap (λ (k : ℕ). a * k) second

pub overflow_mul-result : goal.overflow_mul-result
overflow_mul-result c = each2_from _ 8 c.narrow.result c.narrow-2.result c.narrow.ensures.eight c.narrow-2.ensures.eight
    (λ l known. record { fits = omega (arith, c.requires.room l known, times _ _ _ _ (c.narrow.ensures.value l known) (c.narrow-2.ensures.value l known)) })

pub returns : goal.returns
returns c l known = lane_zip2 8 _ 0 c.narrow.result c.narrow-2.result c.narrow.ensures.eight c.narrow-2.ensures.eight l known ∙ times _ _ _ _ (c.narrow.ensures.value l known) (c.narrow-2.ensures.value l known)
