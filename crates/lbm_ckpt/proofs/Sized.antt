-- How long the parts of a checkpoint are.
use Rattle.std.proofs.Common.{◌≡◌, ℕ, zero, suc, ◌*◌, List, length, refl, arith, length-append}
use Rattle.std.specs.Prelude.{slice_index}
use Rattle.std.specs.Int.{w32, to_be_bytes}
use Rattle.sha2.specs.Sha256.{sha256, digest_bytes, final_hash, initial_hash_256}
use Rattle.lbm_space.specs.Torus.{Torus}
use Rattle.lbm_ckpt.specs.declared.version.Version.{Version}
use Rattle.lbm_ckpt.specs.declared.version.Version.TheVariants.{One, Two}
use Rattle.lbm_ckpt.specs.Ckpt.{magic, box, box_len}

words_are_four : (h : List ℕ) (n : ℕ) → length (digest_bytes h n) ≡ 4 * n
unfolding digest_bytes
words_are_four h zero = refl
words_are_four h (suc n) = omega (arith, length-append (digest_bytes h n) (to_be_bytes w32 (slice_index h n)), words_are_four h n)

pub length-sha256 : (bytes : List ℕ) → length (sha256 bytes) ≡ 32
unfolding sha256
length-sha256 bytes = words_are_four (final_hash initial_hash_256 bytes) 8

pub length-magic : (version : Version) → length (magic version) ≡ 8
length-magic One = refl
length-magic Two = refl

pub length-box : (version : Version) (space : Torus) (q : ℕ) → length (box version space q) ≡ box_len version
length-box One space q = refl
length-box Two space q = refl
