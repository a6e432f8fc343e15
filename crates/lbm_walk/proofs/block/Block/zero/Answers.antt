use Rattle.std.proofs.Common.{◌≡◌, ℕ, zero, suc, ◌<◌, [], length, pos, refl, ap, slice_index_or, replicate, arith}
use Rattle.lbm_walk.proofs.block.Block.zero.Goals as goal

same-at : {A : Type 0} (n i : ℕ) (x d : A) → i < n → slice_index_or (replicate n x) i d ≡ x
same-at zero i x d below = absurd (omega arith)
same-at (suc n) zero x d below = refl
same-at (suc n) (suc i) x d below = same-at n i x d (omega arith)

zero-at : (n j : ℕ) → slice_index_or (replicate n (pos 0)) j (pos 0) ≡ pos 0
zero-at zero j = refl
zero-at (suc n) zero = refl
zero-at (suc n) (suc j) = zero-at n j

zeros-at : (n i j : ℕ) → slice_index_or (slice_index_or (replicate n (replicate 8 (pos 0))) i []) j (pos 0) ≡ pos 0
zeros-at zero i j = refl
zeros-at (suc n) zero j = zero-at 8 j
zeros-at (suc n) (suc i) j = zeros-at n i j

pub invariant_of-result : goal.invariant_of-result
invariant_of-result c = record {
  sized = record {
    count = refl;
    lanes = λ i known. ap length (same-at 27 i (replicate 8 (pos 0)) [] known);
  };
}

pub returns : goal.returns
returns c i j = zeros-at 27 i j
