-- What a reading gives, from its tests, and its tests, from what it gives.
use Rattle.std.proofs.Common.{◌≡◌, ℕ, Bool, true, false, List, Option, Some, None, Result, Ok, Err, refl, leb}
use Rattle.std.specs.Prelude.{ok_or, not}
use Rattle.std.specs.List.{list_all}
use Rattle.std.specs.Str.{bytes_eq}
use Rattle.sha2.specs.Sha256.{sha256}
use Rattle.lbm_space.specs.Torus.{Torus}
use Rattle.lbm_model.specs.State.{FlowState, flow_state}
use Rattle.lbm_ckpt.specs.declared.version.Version.{Version}
use Rattle.lbm_ckpt.specs.declared.fault.CkptFault.{CkptFault}
use Rattle.lbm_ckpt.specs.declared.fault.CkptFault.TheVariants.{Short, Magic, OtherCase, Size, Step, Digest, Wide}
use Rattle.lbm_model.specs.Refusals.{◌>>=◌, demand}
use Rattle.lbm_ckpt.specs.Ckpt.{checkpoint_of, is_short, version_of, case_digest_of, is_fitting, step_of, seal_of, content_of, is_narrow, populations_of}

-- the tests that a file of this version passes
pub record Passes (digest : List ℕ) (space : Torus) (q : ℕ) (bytes : List ℕ) (version : Version) : Type 0 where
  pub long : is_short bytes ≡ false
  pub known : version_of bytes ≡ Some version
  pub same : bytes_eq (case_digest_of bytes) digest ≡ true
  pub fitting : is_fitting version space q bytes ≡ true
  pub near : leb (step_of bytes) 1000000 ≡ true
  pub whole : bytes_eq (seal_of bytes) (sha256 (content_of bytes)) ≡ true
  pub narrow : list_all is_narrow (populations_of version bytes) ≡ true

-- ---- what is read

module _ (digest : List ℕ) (space : Torus) (q : ℕ) (bytes : List ℕ) where
  pub read_of : (version : Version) → Passes digest space q bytes version → checkpoint_of digest space q bytes ≡ Ok (step_of bytes, flow_state q (populations_of version bytes))
  unfolding checkpoint_of
  read_of version p = rw (p.long, p.known, p.same, p.fitting, p.near, p.whole, p.narrow) refl

  -- ---- the first refusal

  pub refused_short : is_short bytes ≡ true → checkpoint_of digest space q bytes ≡ Err Short
  unfolding checkpoint_of
  refused_short a = rw a refl

  pub refused_magic : is_short bytes ≡ false → version_of bytes ≡ None → checkpoint_of digest space q bytes ≡ Err Magic
  unfolding checkpoint_of
  refused_magic a b = rw (a, b) refl

  module _ (version : Version) (long : is_short bytes ≡ false) (known : version_of bytes ≡ Some version) where
    pub refused_case : bytes_eq (case_digest_of bytes) digest ≡ false → checkpoint_of digest space q bytes ≡ Err OtherCase
    unfolding checkpoint_of
    refused_case c = rw (long, known, c) refl

    pub refused_size : bytes_eq (case_digest_of bytes) digest ≡ true → is_fitting version space q bytes ≡ false → checkpoint_of digest space q bytes ≡ Err Size
    unfolding checkpoint_of
    refused_size c d = rw (long, known, c, d) refl

    pub refused_step : bytes_eq (case_digest_of bytes) digest ≡ true → is_fitting version space q bytes ≡ true → leb (step_of bytes) 1000000 ≡ false
        → checkpoint_of digest space q bytes ≡ Err Step
    unfolding checkpoint_of
    refused_step c d e = rw (long, known, c, d, e) refl

    pub refused_digest : bytes_eq (case_digest_of bytes) digest ≡ true → is_fitting version space q bytes ≡ true → leb (step_of bytes) 1000000 ≡ true
        → bytes_eq (seal_of bytes) (sha256 (content_of bytes)) ≡ false → checkpoint_of digest space q bytes ≡ Err Digest
    unfolding checkpoint_of
    refused_digest c d e f = rw (long, known, c, d, e, f) refl

    pub refused_wide : bytes_eq (case_digest_of bytes) digest ≡ true → is_fitting version space q bytes ≡ true → leb (step_of bytes) 1000000 ≡ true
        → bytes_eq (seal_of bytes) (sha256 (content_of bytes)) ≡ true → list_all is_narrow (populations_of version bytes) ≡ false
        → checkpoint_of digest space q bytes ≡ Err Wide
    unfolding checkpoint_of
    refused_wide c d e f g = rw (long, known, c, d, e, f, g) refl

-- ---- the tests, from what was read

abbrev done : {A : Type 0} → A → Result A CkptFault
done x = Ok x

ok_is : {A : Type 0} (x y : A) → done x ≡ done y → x ≡ y
ok_is x y e = cc

five : {A : Type 0} (b c d e f : Bool) (x y : A)
    → (demand b OtherCase >>= λ _. demand c Size >>= λ _. demand d Step >>= λ _. demand e Digest >>= λ _. demand f Wide >>= λ _. Ok x) ≡ Ok y
    → (b ≡ true) × (c ≡ true) × (d ≡ true) × (e ≡ true) × (f ≡ true) × (x ≡ y)
five false c d e f x y h = absurd cc
five true false d e f x y h = absurd cc
five true true false e f x y h = absurd cc
five true true true false f x y h = absurd cc
five true true true true false x y h = absurd cc
five true true true true true x y h = (refl, refl, refl, refl, refl, ok_is x y h)

seven : {A : Type 0} (a : Bool) (v : Option Version) (b : Bool) (c : Version → Bool) (d e : Bool) (f : Version → Bool) (x : Version → A) (y : A)
    → (demand a Short >>= λ _. ok_or v Magic >>= λ version. demand b OtherCase >>= λ _. demand (c version) Size >>= λ _. demand d Step >>= λ _. demand e Digest >>= λ _. demand (f version) Wide >>= λ _. Ok (x version)) ≡ Ok y
    → (version : Version) × (a ≡ true) × (v ≡ Some version) × ((b ≡ true) × (c version ≡ true) × (d ≡ true) × (e ≡ true) × (f version ≡ true) × (x version ≡ y))
seven false v b c d e f x y h = absurd cc
seven true None b c d e f x y h = absurd cc
seven true (Some version) b c d e f x y h = (version, refl, refl, five b (c version) d e (f version) (x version) y h)

opened : (b : Bool) → not b ≡ true → b ≡ false
opened true h = absurd cc
opened false h = refl

-- a file that is read passes the tests of some version
pub record IsRead (digest : List ℕ) (space : Torus) (q : ℕ) (bytes : List ℕ) (found : ℕ × FlowState) : Type 0 where
  pub version : Version
  pub passes : Passes digest space q bytes version
  pub is : (step_of bytes, flow_state q (populations_of version bytes)) ≡ found

pub read_from : (digest : List ℕ) (space : Torus) (q : ℕ) (bytes : List ℕ) (found : ℕ × FlowState) → checkpoint_of digest space q bytes ≡ Ok found → IsRead digest space q bytes found
unfolding checkpoint_of
read_from digest space q bytes found e =
    let p = seven (not (is_short bytes)) (version_of bytes) (bytes_eq (case_digest_of bytes) digest) (λ version. is_fitting version space q bytes)
    (leb (step_of bytes) 1000000) (bytes_eq (seal_of bytes) (sha256 (content_of bytes))) (λ version. list_all is_narrow (populations_of version bytes))
    (λ version. (step_of bytes, flow_state q (populations_of version bytes))) found e in
    record {
      version = p.0;
      passes = record {
        long = opened (is_short bytes) p.1;
        known = p.2;
        same = p.3.0;
        fitting = p.3.1;
        near = p.3.2;
        whole = p.3.3;
        narrow = p.3.4;
      };
      is = p.3.5;
    }
