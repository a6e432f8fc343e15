-- Laws of a file that is made empty and then written.
use Rattle.std.proofs.Common.{◌≡◌, ◌≢◌, ℕ, List, [], cond, Option, Some, None, unwrap_or, Result, Ok, Err, ◌⊎◌, inl, inr, refl, sym, ◌∙◌, ap, subst, arith}
use Rattle.std.specs.Str.{bytes_eq}
use Rattle.std.proofs.lemmas.Slice.Eq.{bytes_eq-Decides}
use Rattle.lbm_store.specs.declared.outside.IoEnd.{IoEnd}
use Rattle.lbm_store.specs.Outside.{Files, StoreState, SinkState, Writes, HasCause, SameBeside, Rose, GotFront, SomeFront, with, content, emptied, followed}
use Rattle.lbm_store.specs.Sinks.{WritesFile, content_of, other_files, replaced, sink_of}
use Rattle.lbm_store.proofs.Files.{cases, content-with, other_files-emptied}

pub content_of-emptied : (files : Option Files) (name : List ℕ) → content_of (emptied files name) name ≡ replaced files []
unfolding content_of emptied replaced
content_of-emptied None name = refl
content_of-emptied (Some files) name = ap Some (content-with files name [])

followed-replaced : (files : Option Files) (bytes : List ℕ) → followed (replaced files []) bytes ≡ replaced files bytes
unfolding followed replaced
followed-replaced None bytes = refl
followed-replaced (Some files) bytes = refl

value : Option (List ℕ) → List ℕ
value o = unwrap_or o []

-- what lies between nothing and these bytes is a front of them
front-of_replaced : (files : Option Files) (after : Option (List ℕ)) (bytes : List ℕ) → GotFront (replaced files []) after bytes
    → SomeFront bytes (λ front. after ≡ replaced files front)
unfolding followed replaced value
front-of_replaced None after bytes got = ([], bytes, refl, got.kept.1)
front-of_replaced (Some files) after bytes got =
    (got.kept.0, got.within.0, ap value (got.within.1 ∙ ap (λ w. followed w got.within.0) got.kept.1), got.kept.1)

start : (before made : StoreState) (name : List ℕ) → made.files ≡ emptied before.files name → content_of made.files name ≡ replaced before.files []
start before made name empty = ap (λ f. content_of f name) empty ∙ content_of-emptied before.files name

module _ {T : Type 0} (before made : StoreState) (name bytes : List ℕ)
    (empty : made.files ≡ emptied before.files name)
    (kept : made.write_faults name ≡ before.write_faults name)
    (others : SameBeside name before.write_faults made.write_faults)
    (reads : made.read_faults ≡ before.read_faults) where
  same_name : (after : StoreState) (result : Result T IoEnd) (loan : ℕ) → Writes (sink_of made name loan) (sink_of after name loan) result bytes → WritesFile before after result name bytes
  same_name after (Ok x) loan wrote = record {
    ok = wrote.ok ∙ ap (λ w. followed w bytes) (start before made name empty) ∙ followed-replaced before.files bytes;
    err = tt;
    others = ap (λ r. r.other_files) wrote.rest ∙ ap (λ f. other_files f name) empty ∙ other_files-emptied before.files name;
    cause = record { later = omega (arith, wrote.cause.later, kept); kept = wrote.cause.kept ∙ kept; failed = λ e. absurd (cc) };
    other_faults = ap (λ r. r.other_write_faults) wrote.rest ∙ others;
    read_faults = ap (λ r. r.read_faults) wrote.rest ∙ reads;
  }
  same_name after (Err e) loan wrote = record {
    ok = tt;
    err = inr (front-of_replaced before.files _ bytes (subst (λ w. GotFront w (content_of after.files name) bytes) (start before made name empty) wrote.err));
    others = ap (λ r. r.other_files) wrote.rest ∙ ap (λ f. other_files f name) empty ∙ other_files-emptied before.files name;
    cause = record {
      later = omega (arith, wrote.cause.later, kept);
      kept = tt;
      failed = λ h. subst (λ n. Rose n (after.write_faults name)) kept (wrote.cause.failed h);
    };
    other_faults = ap (λ r. r.other_write_faults) wrote.rest ∙ others;
    read_faults = ap (λ r. r.read_faults) wrote.rest ∙ reads;
  }

  -- a sink over the store that was so made, which still holds it, at the name that it was made with
  pub WritesFile-from_writes : (first : SinkState) (after : StoreState) (result : Result T IoEnd) (last : List ℕ) (loan last_loan : ℕ)
      → first ≡ sink_of made name loan → Writes first (sink_of after last last_loan) result bytes → WritesFile before after result name bytes
  WritesFile-from_writes first after result last loan last_loan was wrote =
      let name_is : last ≡ name = ap (λ r. r.name) wrote.rest ∙ ap (λ s. s.rest.name) was in
      let loan_is : last_loan ≡ loan = ap (λ r. r.loan) wrote.rest ∙ ap (λ s. s.rest.loan) was in
      same_name after result loan
      (subst (λ l. Writes (sink_of made name loan) (sink_of after name l) result bytes) loan_is
      (subst (λ n. Writes (sink_of made name loan) (sink_of after n last_loan) result bytes) name_is
      (subst (λ s. Writes s (sink_of after last last_loan) result bytes) was wrote)))

-- the name was not even made empty
pub WritesFile-cut : {T : Type 0} (before after : StoreState) (e : IoEnd) (name bytes : List ℕ)
    → (after.files ≡ before.files) ⊎ (after.files ≡ emptied before.files name)
    → HasCause {T = T} (before.write_faults name) (after.write_faults name) (Err e)
    → SameBeside name before.write_faults after.write_faults
    → after.read_faults ≡ before.read_faults
    → WritesFile {T = T} before after (Err e) name bytes
WritesFile-cut before after e name bytes files cause others reads = record {
  ok = tt;
  err = elim files as (λ _. (content_of after.files name ≡ content_of before.files name) ⊎ SomeFront bytes (λ front. content_of after.files name ≡ replaced before.files front)) [
    | inl same ↦ inl (ap (λ f. content_of f name) same)
    | inr made ↦ inr ([], bytes, refl, ap (λ f. content_of f name) made ∙ content_of-emptied before.files name)
  ];
  others = elim files as (λ _. other_files after.files name ≡ other_files before.files name) [
    | inl same ↦ ap (λ f. other_files f name) same
    | inr made ↦ ap (λ f. other_files f name) made ∙ other_files-emptied before.files name
  ];
  cause = cause;
  other_faults = others;
  read_faults = reads;
}

-- ---- where the files are told

-- files that are the same at all other names
pub told_after : (after : Option Files) (before : Files) (name : List ℕ) → other_files after name ≡ other_files (Some before) name
    → (now : Files) × (after ≡ Some now) × (with now name None ≡ with before name None)
unfolding other_files
told_after None before name e = absurd (cc)
told_after (Some now) before name e = (now, refl, ap (λ o. unwrap_or o (λ _. None)) e)

some-content : (o : Option (List ℕ)) (bytes : List ℕ) → unwrap_or o [] ≡ bytes → bytes ≢ [] → o ≡ Some bytes
some-content None bytes e some = absurd (some (sym e))
some-content (Some x) bytes e some = ap Some e

-- A name that holds some bytes is there.
pub with-whole : (before now : Files) (name bytes : List ℕ) → with now name None ≡ with before name None → content now name ≡ bytes → bytes ≢ []
    → now ≡ with before name (Some bytes)
unfolding with
with-whole before now name bytes same is some =
    let at : (other : List ℕ) → now other ≡ with before name (Some bytes) other = λ other. elim (cases (bytes_eq name other)) [
      | inl here ↦ subst (λ q. now q ≡ Some bytes) ((bytes_eq-Decides name other).0 here) (some-content (now name) bytes is some)
          ∙ sym (ap (λ b. cond b (Some bytes) (before other)) here)
      | inr away ↦ sym (ap (λ b. cond b None (now other)) away) ∙ ap (λ f. f other) same ∙ ap (λ b. cond b None (before other)) away
          ∙ sym (ap (λ b. cond b (Some bytes) (before other)) away)
    ] in
    λ i other. at other i

module _ (before after : Option Files) (name bytes : List ℕ) (files : Files)
    (told : before ≡ Some files)
    (others : other_files after name ≡ other_files before name) where
  -- the files after a file was written whole
  pub told-whole : content_of after name ≡ replaced before bytes → bytes ≢ []
      → (now : Files) × (after ≡ Some now) × (now ≡ with files name (Some bytes))
  unfolding content_of replaced value
  told-whole whole some =
      let t = told_after after files name (others ∙ ap (λ f. other_files f name) told) in
      let bytes_are : content t.0 name ≡ bytes =
      ap value (sym (ap (λ f. content_of f name) t.1) ∙ whole ∙ ap (λ f. replaced f bytes) told) in
      (t.0, t.1, with-whole files t.0 name bytes t.2 bytes_are some)

  -- the files after a write that an error cut short
  pub told-front : (content_of after name ≡ content_of before name) ⊎ SomeFront bytes (λ front. content_of after name ≡ replaced before front)
      → (now : Files) × (after ≡ Some now) × ((content now name ≡ content files name) ⊎ SomeFront bytes (λ front. content now name ≡ front))
      × (with now name None ≡ with files name None)
  unfolding content_of replaced value
  told-front front =
      let t = told_after after files name (others ∙ ap (λ f. other_files f name) told) in (
        t.0,
        t.1,
        elim front as (λ _. (content t.0 name ≡ content files name) ⊎ SomeFront bytes (λ front. content t.0 name ≡ front)) [
          | inl same ↦ inl (ap value (sym (ap (λ f. content_of f name) t.1) ∙ same ∙ ap (λ f. content_of f name) told))
          | inr p ↦ inr (p.0, p.1, p.2, ap value (sym (ap (λ f. content_of f name) t.1) ∙ p.3 ∙ ap (λ f. replaced f p.0) told))
        ],
        t.2,
      )
