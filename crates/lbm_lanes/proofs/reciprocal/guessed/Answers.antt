use Rattle.std.proofs.Common.{◌≡◌, ◌<◌, ◌%◌, ◌∙◌, ℕ, List, get_or, replicate, refl, ap, arith}
use Rattle.std.specs.Prelude.{bit_and}
use Rattle.std.proofs.lemmas.Simd.{get_or-replicate}
use Rattle.std.proofs.lemmas.Nat.{and_mask}
use Rattle.lbm_lanes.proofs.Operators.{lane_zip2}
use Rattle.lbm_lanes.proofs.reciprocal.guessed.Goals as goal

below : (n m : ℕ) → n ≡ m % 4294967296 → n < 4294967296
below n m e = omega (arith, e)

pub returns : goal.returns
returns c l known =
    let most : List ℕ = replicate 8 4294967295 in
    below _ (get_or c.loop-l.bits l 0)
    (lane_zip2 8 bit_and 0 c.loop-l.bits most c.loop-l.invariant refl l known
    ∙ ap (λ (n : ℕ). bit_and (get_or c.loop-l.bits l 0) n) (get_or-replicate 8 l 4294967295 0 known)
    ∙ and_mask (get_or c.loop-l.bits l 0) 32)
