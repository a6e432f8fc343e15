-- The arrays of a region share no slot.
use Rattle.std.proofs.Common.{◌≡◌, ℕ, suc, ◌+◌, ◌*◌, ◌<◌, ◌≤◌, inl, inr, arith}
use Rattle.std.proofs.lemmas.Bool.{cases_lt}
use Rattle.std.proofs.Math.Nat.{mul-le-mul_right, suc-mul}

-- an array ends before a later one begins
pub up_to : (j k size : ℕ) → j < k → j * size + size ≤ k * size
up_to j k size l = let h : suc j * size ≤ k * size = mul-le-mul_right size (omega (arith, l)) in omega (arith, h, suc-mul j size)

-- a slot of an array is a slot of the region
pub slot_below : (size count k at : ℕ) → k < count → at < size → k * size + at < count * size
slot_below size count k at known inside = let up = up_to k count size known in omega arith

-- two slots that are one lie in one array, at one place
pub slots_apart : (size j k t u : ℕ) → t < size → u < size → j * size + t ≡ k * size + u → j ≡ k
slots_apart size j k t u ht hu e = elim (cases_lt j k) [
  | inl l ↦ (let up = up_to j k size l in absurd (omega arith))
  | inr g ↦ elim (cases_lt k j) [ inl l ↦ (let up = up_to k j size l in absurd (omega arith)) | inr g' ↦ omega arith ]
]
