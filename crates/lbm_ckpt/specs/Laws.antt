-- What holds of the bytes of checkpoints and of their reading.
use Rattle.std.specs.Prelude.{◌≡◌, ◌⊎◌, ℕ, ◌*◌, ◌<◌, ◌≤◌, List, length, All, Ok}
use Rattle.lbm_space.specs.Torus.{Torus, cells}
use Rattle.lbm_model.specs.Limits.{most_steps}
use Rattle.lbm_model.specs.State.{FlowState}
use Rattle.lbm_model.specs.Small.{IsNarrow}
use Rattle.lbm_ckpt.specs.declared.version.Version.{Version}
use Rattle.lbm_ckpt.specs.Ckpt.{checkpoint_of, checkpoint, ckpt, ckpt_1, size}

-- what a checkpoint can tell: a step of a run, and a state of the space in which no population is larger than one of a first state may be
pub record CanBeKept (digest : List ℕ) (step : ℕ) (space : Torus) (s : FlowState) : Type 0 where
  pub digest_bytes : length digest ≡ 32
  pub near : step ≤ most_steps
  pub whole : length s.numbers ≡ s.directions * cells space
  pub narrow : IsNarrow s

-- what was written is read again
abbrev pub WrittenIsRead : Type 0
WrittenIsRead = (digest : List ℕ) (step : ℕ) (space : Torus) (s : FlowState) → CanBeKept digest step space s
    → checkpoint_of digest space s.directions (ckpt digest step space s) ≡ Ok (step, s)

-- and so is what was written in the old form
abbrev pub OldIsRead : Type 0
OldIsRead = (digest : List ℕ) (step : ℕ) (space : Torus) (s : FlowState) → CanBeKept digest step space s
    → checkpoint_of digest space s.directions (ckpt_1 digest step space s) ≡ Ok (step, s)

-- in each version there is no second spelling: bytes that are read are those of the step and the state
abbrev pub OneSpelling : Type 0
OneSpelling = (digest bytes : List ℕ) (space : Torus) (q step : ℕ) (s : FlowState) → All (λ b. b < 256) bytes
    → checkpoint_of digest space q bytes ≡ Ok (step, s)
    → (bytes ≡ ckpt digest step space s) ⊎ (bytes ≡ ckpt_1 digest step space s)

-- a checkpoint has its exact size
abbrev pub ExactSize : Type 0
ExactSize = (version : Version) (digest : List ℕ) (step : ℕ) (space : Torus) (s : FlowState) → CanBeKept digest step space s
    → length (checkpoint version digest step space s) ≡ size version space s.directions
