-- Populations in fours of bytes.
use Rattle.std.proofs.Common.{◌≡◌, ℕ, zero, suc, ◌+◌, ◌*◌, ◌/◌, ◌^◌, ◌<◌, ◌≤◌, List, [], ◌∷◌, ◌++◌, length, get_or, take, drop, map, ℤ, unsigned_abs, FitsSigned, refl, sym, ap, ◌∙◌, arith, inl, inr}
use Rattle.std.specs.Prelude.{All}
use Rattle.std.specs.Int.{w32, from_be_bytes, to_be_bytes, cast_signed, cast_unsigned}
use Rattle.std.specs.List.{flat_map, AllByRecursion}
use Rattle.std.specs.Simd.{first_chunks}
use Rattle.std.proofs.lemmas.Int.{ints, to_z-of_z, of_z-to_z}
use Rattle.std.proofs.lemmas.Bool.{cases_lt}
use Rattle.std.proofs.lemmas.List.{take_at, drop_at, take-append-drop, length-append, length-take-le, length-drop, length-map, get_or_past, take-take, drop-take, take_all}
use Rattle.std.proofs.lemmas.List.Elements.{All-take, All-drop, All-get_or}
use Rattle.std.proofs.lemmas.Nat.{be_bytes_4, from_be_bytes-to_be_bytes_4}
use Rattle.lbm_ckpt.specs.Ckpt.{population_bytes, population_in, fours}

fits_below : (z : ℤ) → unsigned_abs z ≤ 2 ^ 28 → FitsSigned w32 z
fits_below z h = omega (arith, ints)

bits_below : (z : ℤ) → unsigned_abs z ≤ 2 ^ 28 → cast_unsigned w32 z < 2 ^ 32
bits_below z h = omega (arith, ints)

-- a population is read as it was written
pub population_again : (z : ℤ) → unsigned_abs z ≤ 2 ^ 28 → population_in (population_bytes z) ≡ z
population_again z h = ap (cast_signed w32) (from_be_bytes-to_be_bytes_4 (cast_unsigned w32 z) (bits_below z h)) ∙ to_z-of_z w32 z (fits_below z h)

-- bytes are below 256
abbrev pub AreBytes : List ℕ → Type 0
AreBytes bytes = All (λ b. b < 256) bytes

pub byte_below : (bytes : List ℕ) → AreBytes bytes → (i : ℕ) → get_or bytes i 0 < 256
byte_below bytes small i =
    elim (cases_lt i (length bytes)) [
      | inl lt ↦ All-get_or (λ b. b < 256) bytes i 0 lt small
      | inr le ↦ omega (arith, get_or_past bytes i 0 le)
    ]

four_below : (four : List ℕ) → AreBytes four → from_be_bytes w32 four < 2 ^ 32
four_below four small = omega (arith, byte_below four small 0, byte_below four small 1, byte_below four small 2, byte_below four small 3)

-- four bytes are written as they were read
four_again : (four : List ℕ) → length four ≡ 4 → AreBytes four → population_bytes (population_in four) ≡ four
four_again four len small =
    ap (to_be_bytes w32) (of_z-to_z w32 (from_be_bytes w32 four) (four_below four small)) ∙ be_bytes_4 four (from_be_bytes w32 four) len (byte_below four small) refl

-- ---- all of them

pub length-populations : (zs : List ℤ) → length (flat_map population_bytes zs) ≡ 4 * length zs
length-populations [] = refl
length-populations (z ∷ zs) = omega (arith, length-append (population_bytes z) (flat_map population_bytes zs), length-populations zs)

chunks_again : (zs : List ℤ) → AllByRecursion (λ z. unsigned_abs z ≤ 2 ^ 28) zs → map population_in (first_chunks 4 (length zs) (flat_map population_bytes zs)) ≡ zs
chunks_again [] h = refl
chunks_again (z ∷ zs) h =
    let first : take 4 (population_bytes z ++ flat_map population_bytes zs) ≡ population_bytes z = take_at (population_bytes z) (flat_map population_bytes zs) 4 refl in
    let rest : drop 4 (population_bytes z ++ flat_map population_bytes zs) ≡ flat_map population_bytes zs = drop_at (population_bytes z) (flat_map population_bytes zs) 4 refl in
    λ i. (ap population_in first ∙ population_again z h.0) i ∷ (ap (λ bytes. map population_in (first_chunks 4 (length zs) bytes)) rest ∙ chunks_again zs h.1) i

pub populations_again : (zs : List ℤ) → AllByRecursion (λ z. unsigned_abs z ≤ 2 ^ 28) zs → map population_in (fours (flat_map population_bytes zs)) ≡ zs
populations_again zs h =
    let count : length (flat_map population_bytes zs) / 4 ≡ length zs = omega (arith, length-populations zs) in
    ap (λ n. map population_in (first_chunks 4 n (flat_map population_bytes zs))) count ∙ chunks_again zs h

pub length-chunks : (n : ℕ) (bytes : List ℕ) → length (first_chunks 4 n bytes) ≡ n
length-chunks zero bytes = refl
length-chunks (suc n) bytes = ap suc (length-chunks n (drop 4 bytes))

pub take-more : (bytes : List ℕ) (a m : ℕ) → take (a + m) bytes ≡ take a bytes ++ take m (drop a bytes)
take-more bytes a m =
    let whole = take-append-drop a (take (a + m) bytes) in
    sym (rw (take-take a (a + m) bytes (omega arith), drop-take a m bytes) at whole)

chunks_back : (n : ℕ) (bytes : List ℕ) → 4 * n ≤ length bytes → AreBytes bytes → flat_map population_bytes (map population_in (first_chunks 4 n bytes)) ≡ take (4 * n) bytes
chunks_back zero bytes long small = refl
chunks_back (suc n) bytes long small =
    let first : population_bytes (population_in (take 4 bytes)) ≡ take 4 bytes = four_again (take 4 bytes) (length-take-le 4 bytes (omega arith)) (All-take (λ b. b < 256) 4 bytes small) in
    let rest : flat_map population_bytes (map population_in (first_chunks 4 n (drop 4 bytes))) ≡ take (4 * n) (drop 4 bytes) =
    chunks_back n (drop 4 bytes) (omega (arith, length-drop 4 bytes)) (All-drop (λ b. b < 256) 4 bytes small) in
    let count : 4 + 4 * n ≡ 4 * suc n = omega arith in
    ap (λ four. four ++ flat_map population_bytes (map population_in (first_chunks 4 n (drop 4 bytes)))) first ∙ ap (λ more. take 4 bytes ++ more) rest
    ∙ sym (take-more bytes 4 (4 * n)) ∙ ap (λ k. take k bytes) count

pub populations_back : (bytes : List ℕ) (n : ℕ) → length bytes ≡ 4 * n → AreBytes bytes → flat_map population_bytes (map population_in (fours bytes)) ≡ bytes
populations_back bytes n len small =
    let count : length bytes / 4 ≡ n = omega (arith, len) in
    ap (λ k. flat_map population_bytes (map population_in (first_chunks 4 k bytes))) count ∙ chunks_back n bytes (omega (arith, len)) small ∙ take_all (4 * n) bytes (omega (arith, len))

pub length-fours : (bytes : List ℕ) (n : ℕ) → length bytes ≡ 4 * n → length (map population_in (fours bytes)) ≡ n
length-fours bytes n len = length-map (fours bytes) population_in ∙ length-chunks (length bytes / 4) bytes ∙ omega (arith, len)
