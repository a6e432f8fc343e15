-- The least number that fails a test.
use Rattle.std.specs.Prelude.{ℕ, zero, suc, Bool, Option, Some, None, if◌then◌else◌}

-- the least number below n that fails the test
abbrev pub least_failing : ℕ → (ℕ → Bool) → Option ℕ
least_failing zero test = None
least_failing (suc n) test = elim (least_failing n test) [
  | Some k ↦ Some k
  | None ↦ (if test n then None else Some n)
]
