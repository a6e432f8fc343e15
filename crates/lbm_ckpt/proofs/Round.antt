-- The two ways between a checkpoint and its bytes.
use Rattle.std.proofs.Common.{◌≡◌, ◌⊎◌, ℕ, ◌+◌, ◌-◌, ◌*◌, ◌^◌, ◌<◌, ◌≤◌, Bool, true, false, cond, ◌&&◌, eqb, List, ◌++◌, length, take, drop, map, ℤ, unsigned_abs, Some, None, Ok, refl, sym, ap, subst, ◌∙◌, arith, inl, inr, length-drop}
use Rattle.std.proofs.lemmas.List.{length-take-le, take-append-drop}
use Rattle.std.specs.Prelude.{All}
use Rattle.std.specs.Int.{w64, from_be_bytes, to_be_bytes}
use Rattle.std.specs.List.{flat_map, list_all}
use Rattle.std.specs.Str.{bytes_eq}
use Rattle.std.proofs.lemmas.Bool.{leb-true, le-leb, le-ltb, eqb-true}
use Rattle.std.proofs.lemmas.Bool.Decides.{Decides-eqb}
use Rattle.std.proofs.lemmas.List.Elements.{All-take, All-drop, All-weaker, recursion_from_All}
use Rattle.std.proofs.lemmas.List.Sums.{AllPass-from_list_all, list_all-from_AllPass}
use Rattle.std.proofs.lemmas.List.Folds.{list_all-map}
use Rattle.std.proofs.Math.Nat.{mul-le-mul_right, mul-mod_left, mul_comm}
use Rattle.std.proofs.lemmas.Nat.{be_bytes_8, from_be_bytes-to_be_bytes_8}
use Rattle.std.proofs.lemmas.Slice.Eq.{bytes_eq-Decides}
use Rattle.sha2.specs.Sha256.{sha256}
use Rattle.lbm_space.specs.Torus.{Torus, IsSpace, cells}
use Rattle.lbm_model.specs.State.{FlowState, IsState, flow_state}
use Rattle.lbm_model.proofs.Sizes.{few_cells}
use Rattle.lbm_model.specs.Small.{IsNarrow}
use Rattle.lbm_ckpt.specs.declared.version.Version.{Version}
use Rattle.lbm_ckpt.specs.declared.version.Version.TheVariants.{One, Two}
use Rattle.lbm_ckpt.specs.Ckpt.{magic, box, box_len, head, population_bytes, population_in, fours, checkpoint, ckpt, ckpt_1, size, checkpoint_of, is_short, version_of, is_fitting, is_narrow, step_of, case_digest_of, box_of, content_of, seal_of, populations_of}
use Rattle.lbm_ckpt.specs.Laws.{CanBeKept}
use Rattle.lbm_ckpt.proofs.Fours.{AreBytes, byte_below, length-populations, populations_again, populations_back, length-fours}
use Rattle.lbm_ckpt.proofs.Parts.{joined, regrouped, length-joined, joined-first, joined-second, joined-third, joined-fourth, sealed-content, sealed-seal, content-last, taken_apart}
use Rattle.lbm_ckpt.proofs.Reading.{Passes, read_of, read_from}
use Rattle.lbm_ckpt.proofs.Sized.{length-sha256, length-magic, length-box}

same_bytes : (xs ys : List ℕ) → xs ≡ ys → bytes_eq xs ys ≡ true
same_bytes xs ys = (bytes_eq-Decides xs ys).1

bytes_same : (xs ys : List ℕ) → bytes_eq xs ys ≡ true → xs ≡ ys
bytes_same xs ys = (bytes_eq-Decides xs ys).0

both : (a b : Bool) → (a && b) ≡ true → (a ≡ true) × (b ≡ true)
both true true h = (refl, refl)
both true false h = absurd cc
both false b h = absurd cc

-- ---- what is written is read

-- what a file begins with tells its version
known_by : (version : Version) (bytes : List ℕ) → take 8 bytes ≡ magic version → version_of bytes ≡ Some version
known_by One bytes e = rw e refl
known_by Two bytes e = rw e refl

-- a file as long as its version has to be is not short
long_by : (version : Version) (bytes : List ℕ) → take 8 bytes ≡ magic version → 80 + box_len version ≤ length bytes → is_short bytes ≡ false
long_by One bytes e long = rw (e, le-ltb (length bytes) 84 (omega arith)) refl
long_by Two bytes e long = rw (e, le-ltb (length bytes) 84 (omega arith), le-ltb (length bytes) 96 (omega arith)) refl

all_narrow : (zs : List ℤ) → All (λ z. unsigned_abs z ≤ 2 ^ 28) zs → list_all is_narrow zs ≡ true
all_narrow zs h = list_all-from_AllPass is_narrow zs (All-weaker (λ z. unsigned_abs z ≤ 2 ^ 28) (λ z. is_narrow z ≡ true) (λ z le. le-leb (unsigned_abs z) (2 ^ 28) le) zs h)

all_of : (a b : Bool) → a ≡ true → b ≡ true → (a && b) ≡ true
all_of a b p q = rw (p, q) refl

same_numbers : (a b : ℕ) → a ≡ b → eqb a b ≡ true
same_numbers a b = (Decides-eqb a b).1

-- a file that is put together of these parts
module _ (version : Version) (digest : List ℕ) (step : ℕ) (space : Torus) (s : FlowState) (h : CanBeKept digest step space s) where
  abbrev pops : List ℕ
  pops = flat_map population_bytes s.numbers

  abbrev content : List ℕ
  content = magic version ++ digest ++ to_be_bytes w64 step ++ box version space s.directions ++ pops

  abbrev seal : List ℕ
  seal = sha256 content

  abbrev bytes : List ℕ
  bytes = content ++ seal

  abbrev parts : List ℕ
  parts = joined (magic version) digest (to_be_bytes w64 step) (box version space s.directions) pops seal

  told : bytes ≡ parts
  told = regrouped (magic version) digest (to_be_bytes w64 step) (box version space s.directions) pops seal

  exact : length bytes ≡ size version space s.directions
  exact =
      ap length told ∙ length-joined (magic version) digest (to_be_bytes w64 step) (box version space s.directions) pops seal (box_len version)
      (length-magic version) h.digest_bytes refl (length-box version space s.directions) (length-sha256 content)
      ∙ omega (arith, length-populations s.numbers, h.whole)

  begins : take 8 bytes ≡ magic version
  begins =
      ap (take 8) told ∙ joined-first (magic version) digest (to_be_bytes w64 step) (box version space s.directions) pops seal (box_len version)
      (length-magic version) h.digest_bytes refl (length-box version space s.directions) (length-sha256 content)

  owned : case_digest_of bytes ≡ digest
  owned =
      ap case_digest_of told ∙ joined-second (magic version) digest (to_be_bytes w64 step) (box version space s.directions) pops seal (box_len version)
      (length-magic version) h.digest_bytes refl (length-box version space s.directions) (length-sha256 content)

  timed : step_of bytes ≡ step
  unfolding step_of
  timed =
      ap (from_be_bytes w64) (ap (λ t. take 8 (drop 40 t)) told ∙ joined-third (magic version) digest (to_be_bytes w64 step) (box version space s.directions) pops seal (box_len version)
      (length-magic version) h.digest_bytes refl (length-box version space s.directions) (length-sha256 content))
      ∙ from_be_bytes-to_be_bytes_8 step (omega (arith, h.near))

  boxed : box_of version bytes ≡ box version space s.directions
  boxed =
      ap (box_of version) told ∙ joined-fourth (magic version) digest (to_be_bytes w64 step) (box version space s.directions) pops seal (box_len version)
      (length-magic version) h.digest_bytes refl (length-box version space s.directions) (length-sha256 content)

  contained : content_of bytes ≡ content
  contained = sealed-content content seal (length-sha256 content)

  sealed_so : seal_of bytes ≡ seal
  sealed_so = sealed-seal content seal (length-sha256 content)

  populated : populations_of version bytes ≡ s.numbers
  populated =
      ap (λ t. map population_in (fours t)) (ap (drop (48 + box_len version)) contained ∙ content-last (magic version) digest (to_be_bytes w64 step) (box version space s.directions) pops (box_len version)
      (length-magic version) h.digest_bytes refl (length-box version space s.directions))
      ∙ populations_again s.numbers (recursion_from_All (λ z. unsigned_abs z ≤ 2 ^ 28) s.numbers h.narrow)

  passes : Passes digest space s.directions bytes version
  passes = record {
    long = long_by version bytes begins (omega (arith, exact));
    known = known_by version bytes begins;
    same = same_bytes (case_digest_of bytes) digest owned;
    fitting = all_of (bytes_eq (box_of version bytes) (box version space s.directions)) (eqb (length bytes) (size version space s.directions))
        (same_bytes (box_of version bytes) (box version space s.directions) boxed) (same_numbers (length bytes) (size version space s.directions) exact);
    near = le-leb (step_of bytes) 1000000 (omega (arith, timed, h.near));
    whole = same_bytes (seal_of bytes) (sha256 (content_of bytes)) (sealed_so ∙ ap sha256 (sym contained));
    narrow = ap (list_all is_narrow) populated ∙ all_narrow s.numbers h.narrow;
  }

  pub read_again : checkpoint_of digest space s.directions (checkpoint version digest step space s) ≡ Ok (step, s)
  unfolding checkpoint head
  read_again =
      read_of digest space s.directions bytes version passes
      ∙ ap (λ t. Ok (t, flow_state s.directions (populations_of version bytes))) timed ∙ ap (λ zs. Ok (step, flow_state s.directions zs)) populated

  pub exact_size : length (checkpoint version digest step space s) ≡ size version space s.directions
  unfolding checkpoint head
  exact_size = exact

-- ---- what is read was written so

which : (a b : Bool) (version : Version) → cond a (Some One) (cond b (Some Two) None) ≡ Some version → ((a ≡ true) × (version ≡ One)) ⊎ ((b ≡ true) × (version ≡ Two))
which true b version e = inl (refl, cc)
which false true version e = inr (refl, cc)
which false false version e = absurd cc

begins_by : (version : Version) (bytes : List ℕ) → version_of bytes ≡ Some version → take 8 bytes ≡ magic version
begins_by version bytes e =
    elim (which (bytes_eq (take 8 bytes) (magic One)) (bytes_eq (take 8 bytes) (magic Two)) version e) [
      | inl p ↦ bytes_same (take 8 bytes) (magic One) p.0 ∙ ap magic (sym p.1)
      | inr p ↦ bytes_same (take 8 bytes) (magic Two) p.0 ∙ ap magic (sym p.1)
    ]

step_spelled : (bytes : List ℕ) → AreBytes bytes → 48 ≤ length bytes → take 8 (drop 40 bytes) ≡ to_be_bytes w64 (step_of bytes)
unfolding step_of
step_spelled bytes small long =
    let eight = take 8 (drop 40 bytes) in
    sym (be_bytes_8 eight (from_be_bytes w64 eight) (length-take-le 8 (drop 40 bytes) (omega (arith, length-drop 40 bytes)))
    (byte_below eight (All-take (λ b. b < 256) 8 (drop 40 bytes) (All-drop (λ b. b < 256) 40 bytes small))) refl)

-- a file that fits is as long as its version has to be
pub length_by : (space : Torus) (q : ℕ) (bytes : List ℕ) (version : Version) → is_fitting version space q bytes ≡ true → length bytes ≡ size version space q
length_by space q bytes version p =
    eqb-true (length bytes) (size version space q) (both (bytes_eq (box_of version bytes) (box version space q)) (eqb (length bytes) (size version space q)) p).1

pub long_fitting : (space : Torus) (q : ℕ) (bytes : List ℕ) (version : Version) → is_fitting version space q bytes ≡ true → 80 + box_len version ≤ length bytes
long_fitting space q bytes version p = omega (arith, length_by space q bytes version p)

module _ (digest : List ℕ) (space : Torus) (q : ℕ) (bytes : List ℕ) (version : Version) (p : Passes digest space q bytes version) where
  -- what stands behind the box and before the digest
  abbrev behind : List ℕ
  behind = drop (48 + box_len version) (content_of bytes)

  pub length_behind : length behind ≡ 4 * (q * cells space)
  length_behind =
      omega (arith, length_by space q bytes version p.fitting, length-drop (48 + box_len version) (content_of bytes), length-take-le (length bytes - 32) bytes (omega arith))

  -- how many populations are read
  pub length_read : length (populations_of version bytes) ≡ q * cells space
  length_read = length-fours behind (q * cells space) length_behind

  spelled : AreBytes bytes → bytes ≡ checkpoint version digest (step_of bytes) space (flow_state q (populations_of version bytes))
  unfolding checkpoint head
  spelled small =
      let exact = length_by space q bytes version p.fitting in
      let first = begins_by version bytes p.known in
      let second = bytes_same (case_digest_of bytes) digest p.same in
      let third = step_spelled bytes small (omega (arith, exact)) in
      let fourth = bytes_same (box_of version bytes) (box version space q) (both (bytes_eq (box_of version bytes) (box version space q)) (eqb (length bytes) (size version space q)) p.fitting).0 in
      let last = sym (populations_back behind (q * cells space) length_behind (All-drop (λ b. b < 256) (48 + box_len version) (content_of bytes) (All-take (λ b. b < 256) (length bytes - 32) bytes small))) in
      let content : content_of bytes ≡ magic version ++ digest ++ to_be_bytes w64 (step_of bytes) ++ box version space q ++ flat_map population_bytes (populations_of version bytes) =
      sym (taken_apart bytes (box_len version) (omega (arith, exact)))
      ∙ ap (λ t. t ++ take 32 (drop 8 bytes) ++ take 8 (drop 40 bytes) ++ take (box_len version) (drop 48 bytes) ++ behind) first
      ∙ ap (λ t. magic version ++ t ++ take 8 (drop 40 bytes) ++ take (box_len version) (drop 48 bytes) ++ behind) second
      ∙ ap (λ t. magic version ++ digest ++ t ++ take (box_len version) (drop 48 bytes) ++ behind) third
      ∙ ap (λ t. magic version ++ digest ++ to_be_bytes w64 (step_of bytes) ++ t ++ behind) fourth
      ∙ ap (λ t. magic version ++ digest ++ to_be_bytes w64 (step_of bytes) ++ box version space q ++ t) last in
      let seal = bytes_same (seal_of bytes) (sha256 (content_of bytes)) p.whole in
      sym (take-append-drop (length bytes - 32) bytes) ∙ ap (λ t. content_of bytes ++ t) seal ∙ ap (λ t. t ++ sha256 t) content

either : (version : Version) (file digest : List ℕ) (step : ℕ) (space : Torus) (s : FlowState) → file ≡ checkpoint version digest step space s
    → (file ≡ ckpt digest step space s) ⊎ (file ≡ ckpt_1 digest step space s)
either One file digest step space s e = inr e
either Two file digest step space s e = inl e

pub one_spelling : (digest bytes : List ℕ) (space : Torus) (q step : ℕ) (s : FlowState) → AreBytes bytes → checkpoint_of digest space q bytes ≡ Ok (step, s)
    → (bytes ≡ ckpt digest step space s) ⊎ (bytes ≡ ckpt_1 digest step space s)
one_spelling digest bytes space q step s small e =
    let r = read_from digest space q bytes (step, s) e in
    either r.version bytes digest step space s
    (subst (λ found. bytes ≡ checkpoint r.version digest found.0 space found.1) r.is (spelled digest space q bytes r.version r.passes small))

-- ---- what the code tests

pub narrow_fours : (version : Version) (bytes : List ℕ) (fs : List (List ℕ)) (r t : Bool) → fs ≡ fours (drop (48 + box_len version) (content_of bytes)) → r ≡ list_all (λ four. is_narrow (population_in four)) fs → r ≡ t
    → list_all is_narrow (populations_of version bytes) ≡ t
narrow_fours version bytes fs r t is tested so = list_all-map is_narrow population_in (fours (drop (48 + box_len version) (content_of bytes))) ∙ ap (list_all (λ four. is_narrow (population_in four))) (sym is) ∙ sym tested ∙ so

-- ---- what is known of a step and a state that were read

pub near_read : (digest : List ℕ) (space : Torus) (q : ℕ) (bytes : List ℕ) (found : ℕ × FlowState) → checkpoint_of digest space q bytes ≡ Ok found → found.0 ≤ 1000000
near_read digest space q bytes found e =
    let r = read_from digest space q bytes found e in
    subst (λ (f : ℕ × FlowState). f.0 ≤ 1000000) r.is (leb-true (step_of bytes) 1000000 r.passes.near)

pub whole_read : (digest : List ℕ) (space : Torus) (q : ℕ) (bytes : List ℕ) (found : ℕ × FlowState) → checkpoint_of digest space q bytes ≡ Ok found → length found.1.numbers ≡ q * cells space
whole_read digest space q bytes found e =
    let r = read_from digest space q bytes found e in
    subst (λ (f : ℕ × FlowState). length f.1.numbers ≡ q * cells space) r.is (length_read digest space q bytes r.version r.passes)

-- a state of the populations that are read can be kept
pub can_be_kept : (space : Torus) (q : ℕ) (zs : List ℤ) → IsSpace space → 0 < q → q ≤ 27 → length zs ≡ q * cells space → IsState (flow_state q zs)
can_be_kept space q zs valid some few whole = record {
  some_direction = some;
  few_directions = few;
  whole_cells = rw (whole, mul_comm q (cells space)) (mul-mod_left (cells space) q);
  few_cells = rw (whole, mul_comm q (cells space)) (mul-le-mul_right q (few_cells space valid));
}

pub narrow_read : (digest : List ℕ) (space : Torus) (q : ℕ) (bytes : List ℕ) (found : ℕ × FlowState) → checkpoint_of digest space q bytes ≡ Ok found → IsNarrow found.1
narrow_read digest space q bytes found e =
    let r = read_from digest space q bytes found e in
    let zs = populations_of r.version bytes in
    let all : All (λ z. unsigned_abs z ≤ 2 ^ 28) zs = All-weaker (λ z. is_narrow z ≡ true) (λ z. unsigned_abs z ≤ 2 ^ 28) (λ z t. leb-true (unsigned_abs z) (2 ^ 28) t) zs (AllPass-from_list_all is_narrow zs r.passes.narrow) in
    subst (λ (f : ℕ × FlowState). IsNarrow f.1) r.is all
