-- Laws of reading a file piece by piece.
use Rattle.std.proofs.Common.{◌≡◌, ℕ, ◌<◌, ◌≤◌, List, [], ◌∷◌, ◌++◌, length, take, drop, refl, sym, ◌∙◌, ap, subst, inl, inr, ◌+◌, append_assoc, append-nil, length-append, arith}
use Rattle.std.proofs.lemmas.List.{take-append-drop}
use Rattle.std.proofs.Math.Seq.{drop-append_seam}
use Rattle.std.specs.Option.{ForSome}
use Rattle.lbm_store.specs.Outside.{Counts, StoreState, ReadsAt, Rose, SameBeside, content, with}
use Rattle.lbm_store.proofs.Files.{with-is, with-with}
use Rattle.lbm_answer.specs.Faults.{FaultAt}
use Rattle.lbm_answer.specs.Files.{HasRead}

-- counts that are the same at a name and beside it
pub same_counts : (name : List ℕ) (before now : Counts) → SameBeside name before now → now name ≡ before name → now ≡ before
same_counts name before now beside here =
    let back : with (with now name 0) name (before name) ≡ now = with-with now name 0 (before name) ∙ with-is now name (before name) here in
    let there : with (with before name 0) name (before name) ≡ before = with-with before name 0 (before name) ∙ with-is before name (before name) refl in
    sym back ∙ ap (λ (counts : Counts). with counts name (before name)) beside ∙ there

-- a store in which nothing has changed
pub same_store : (now before : StoreState) → now.files ≡ before.files → now.read_faults ≡ before.read_faults → now.write_faults ≡ before.write_faults → now ≡ before
same_store now before files read_faults write_faults = λ i. record { files = files i; read_faults = read_faults i; write_faults = write_faults i }

-- a fault is counted of a name, after calls that have counted none
pub fault_after : (name : List ℕ) (before now after : Counts) → now ≡ before → Rose (now name) (after name) → SameBeside name now after → FaultAt name before after
fault_after name before now after same rose others = subst (λ (counts : Counts). FaultAt name counts after) same (record { rose = rose; others = others })

-- ---- a file, piece by piece

pub HasRead-none : (store : StoreState) (name : List ℕ) → HasRead store store name []
HasRead-none store name = record {
  front = λ files told. (content files name, refl);
  files = refl;
  read_faults = refl;
  write_faults = refl;
}

-- the next piece, as it lies in the buffer
pub HasRead-more : (before now after : StoreState) (name bytes buffer piece : List ℕ) (at n : ℕ)
    → HasRead before now name bytes → at ≡ length bytes
    → ForSome now.files (λ files. ReadsAt (content files name) at n buffer)
    → piece ≡ take n buffer
    → after.files ≡ now.files → after.read_faults ≡ now.read_faults → after.write_faults ≡ now.write_faults
    → HasRead before after name (bytes ++ piece)
HasRead-more before now after name bytes buffer piece at n read place reads is files read_faults write_faults = record {
  front = λ f told.
      let front = read.front f told in
      let rest : drop at (content f name) ≡ front.0 =
      ap (λ k. drop k (content f name)) place ∙ ap (drop (length bytes)) front.1 ∙ drop-append_seam bytes front.0 in
      let got : piece ≡ take n front.0 = is ∙ (reads f (read.files ∙ told)).front ∙ ap (take n) rest in (
        drop n front.0,
        front.1 ∙ ap (λ t. bytes ++ t) (sym (take-append-drop n front.0)) ∙ sym (append_assoc bytes (take n front.0) (drop n front.0))
            ∙ ap (λ t. bytes ++ t ++ drop n front.0) (sym got),
      );
  files = files ∙ read.files;
  read_faults = read_faults ∙ read.read_faults;
  write_faults = write_faults ∙ read.write_faults;
}

module _ (before now : StoreState) (name bytes : List ℕ) (read : HasRead before now name bytes) where
  pub HasRead-same : now ≡ before
  HasRead-same = same_store now before read.files read.read_faults read.write_faults

  -- the next piece is empty, so all was read
  no_more : (rest : List ℕ) → length rest ≤ 0 → bytes ++ rest ≡ bytes
  no_more [] none = append-nil bytes
  no_more (x ∷ rest) none = absurd (omega arith)

  pub HasRead-whole : (buffer : List ℕ) (at n : ℕ) → at ≡ length bytes → 1 ≤ length buffer → n ≡ 0 → ForSome now.files (λ files. ReadsAt (content files name) at n buffer)
      → ForSome before.files (λ files. bytes ≡ content files name)
  HasRead-whole buffer at n place room none reads = λ f told.
      let front = read.front f told in
      let whole : length (content f name) ≡ length bytes + length front.0 = ap length front.1 ∙ length-append bytes front.0 in
      let end : length (content f name) ≤ at = elim ((reads f (read.files ∙ told)).some none) [
        | inl end ↦ end
        | inr full ↦ absurd (omega arith)
      ] in
      sym (front.1 ∙ no_more front.0 (omega arith))

  -- more was read than a limit
  pub HasRead-long : (limit : ℕ) → limit < length bytes → ForSome before.files (λ files. limit < length (content files name))
  HasRead-long limit long = λ f told.
      let front = read.front f told in
      let whole : length (content f name) ≡ length bytes + length front.0 = ap length front.1 ∙ length-append bytes front.0 in
      omega arith
