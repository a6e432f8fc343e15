-- The bytes of a checkpoint in both versions, and what bytes are read as.
use Rattle.std.specs.Prelude.{◌≡◌, ℕ, ◌+◌, ◌-◌, ◌*◌, ◌/◌, Bool, true, false, not, ◌&&◌, ◌||◌, ◌==◌, nat_lt, nat_le, if◌then◌else◌, List, ◌++◌, length, take, drop, map, codes, ℤ, unsigned_abs, Option, Some, None, ok_or, Result, Ok, Err, IsOk}
use Rattle.std.specs.Int.{w32, w64, to_be_bytes, from_be_bytes, cast_signed, cast_unsigned}
use Rattle.std.specs.List.{flat_map, list_all}
use Rattle.std.specs.Simd.{first_chunks}
use Rattle.std.specs.Str.{bytes_eq}
use Rattle.sha2.specs.Sha256.{sha256}
use Rattle.lbm_space.specs.Torus.{Torus, cells}
use Rattle.lbm_cell.specs.Limits.{greatest_population}
use Rattle.lbm_model.specs.Limits.{most_steps}
use Rattle.lbm_model.specs.Refusals.{◌>>=◌, demand}
use Rattle.lbm_model.specs.State.{FlowState, flow_state}
use Rattle.lbm_ckpt.specs.declared.version.Version.{Version}
use Rattle.lbm_ckpt.specs.declared.version.Version.TheVariants.{One, Two}
use Rattle.lbm_ckpt.specs.declared.fault.CkptFault.{CkptFault}
use Rattle.lbm_ckpt.specs.declared.fault.CkptFault.TheVariants.{Short, Magic, OtherCase, Size, Step, Digest, Wide}
use Rattle.lbm_ckpt.specs.declared.fault.CkptEnd.{CkptEnd}
use Rattle.lbm_ckpt.specs.declared.fault.CkptEnd.TheVariants.{Fault, Memory}

-- ---- the bytes of a checkpoint

-- what a file begins with
abbrev pub magic : Version → List ℕ
magic One = codes "LBMCKPT1"
magic Two = codes "LBMCKPT2"

-- a number in four bytes, the high one first
abbrev pub number : ℕ → List ℕ
number n = to_be_bytes w32 n

-- what is told of the box: the number of its cells, or its sides and the number of directions
abbrev pub box : Version → Torus → ℕ → List ℕ
box One space q = number (cells space)
box Two space q = number space.nx ++ number space.ny ++ number space.nz ++ number q

-- how many bytes that takes
abbrev pub box_len : Version → ℕ
box_len One = 4
box_len Two = 16

-- a population in two's complement
abbrev pub population_bytes : ℤ → List ℕ
population_bytes z = number (cast_unsigned w32 z)

-- bytes, and behind them their digest
abbrev pub sealed : List ℕ → List ℕ
sealed bytes = bytes ++ sha256 bytes

-- what stands before the populations, where the case has this digest
unfoldable pub head : Version → List ℕ → ℕ → Torus → ℕ → List ℕ
head version digest step space q = magic version ++ digest ++ to_be_bytes w64 step ++ box version space q

-- a version of the checkpoint of a state after so many steps
unfoldable pub checkpoint : Version → List ℕ → ℕ → Torus → FlowState → List ℕ
checkpoint version digest step space s = sealed (head version digest step space s.directions ++ flat_map population_bytes s.numbers)

-- what is written, and the old form
abbrev pub ckpt : List ℕ → ℕ → Torus → FlowState → List ℕ
ckpt = checkpoint Two

abbrev pub ckpt_1 : List ℕ → ℕ → Torus → FlowState → List ℕ
ckpt_1 = checkpoint One

-- how many bytes a checkpoint has
abbrev pub size : Version → Torus → ℕ → ℕ
size version space q = 80 + box_len version + 4 * q * cells space

abbrev pub ckpt_size : Torus → ℕ → ℕ
ckpt_size = size Two

-- ---- the parts of a file

abbrev pub magic_of : List ℕ → List ℕ
magic_of bytes = take 8 bytes

abbrev pub version_of : List ℕ → Option Version
version_of bytes =
    if bytes_eq (magic_of bytes) (magic One) then Some One
    else if bytes_eq (magic_of bytes) (magic Two) then Some Two
    else None

abbrev pub case_digest_of : List ℕ → List ℕ
case_digest_of bytes = take 32 (drop 8 bytes)

unfoldable pub step_of : List ℕ → ℕ
step_of bytes = from_be_bytes w64 (take 8 (drop 40 bytes))

abbrev pub box_of : Version → List ℕ → List ℕ
box_of version bytes = take (box_len version) (drop 48 bytes)

-- all but the last 32 bytes, and these
abbrev pub content_of : List ℕ → List ℕ
content_of bytes = take (length bytes - 32) bytes

abbrev pub seal_of : List ℕ → List ℕ
seal_of bytes = drop (length bytes - 32) bytes

-- bytes in fours
abbrev pub fours : List ℕ → List (List ℕ)
fours bytes = first_chunks 4 (length bytes / 4) bytes

abbrev pub population_in : List ℕ → ℤ
population_in four = cast_signed w32 (from_be_bytes w32 four)

abbrev pub populations_of : Version → List ℕ → List ℤ
populations_of version bytes = map population_in (fours (drop (48 + box_len version) (content_of bytes)))

-- ---- the reading of a file

abbrev pub is_short : List ℕ → Bool
is_short bytes = nat_lt (length bytes) 84 || (bytes_eq (magic_of bytes) (magic Two) && nat_lt (length bytes) 96)

-- the file is of this box
abbrev pub is_fitting : Version → Torus → ℕ → List ℕ → Bool
is_fitting version space q bytes = bytes_eq (box_of version bytes) (box version space q) && (length bytes == size version space q)

abbrev pub is_narrow : ℤ → Bool
is_narrow z = nat_le (unsigned_abs z) greatest_population

-- The step and the state of a file of either version, for a case with this digest, this box and this number of directions,
-- or the first of seven refusals, one a line.
unfoldable pub checkpoint_of : List ℕ → Torus → ℕ → List ℕ → Result (ℕ × FlowState) CkptFault
checkpoint_of digest space q bytes = do
  long ← demand (not (is_short bytes)) Short
  version ← ok_or (version_of bytes) Magic
  same ← demand (bytes_eq (case_digest_of bytes) digest) OtherCase
  fitting ← demand (is_fitting version space q bytes) Size
  near ← demand (nat_le (step_of bytes) most_steps) Step
  whole ← demand (bytes_eq (seal_of bytes) (sha256 (content_of bytes))) Digest
  narrow ← demand (list_all is_narrow (populations_of version bytes)) Wide
  Ok (step_of bytes, flow_state q (populations_of version bytes))

-- how a reader ended in place of a checkpoint, beside what the reading gives: with its refusal, or for want of memory where there is none
abbrev pub Refuses : {A : Type 0} → CkptEnd → Result A CkptFault → Type 0
Refuses Memory reading = IsOk reading
Refuses (Fault fault) reading = reading ≡ Err fault
