-- Laws of files that are written name by name.
use Rattle.std.proofs.Common.{◌≡◌, ℕ, List, [], ◌++◌, Bool, true, false, cond, Option, Some, None, unwrap_or, refl, sym, ◌∙◌, ap, Result, Ok, Err, OnOk, OnErr, ◌⊎◌, inl, inr}
use Rattle.std.specs.Str.{bytes_eq}
use Rattle.std.proofs.lemmas.Slice.Eq.{bytes_eq-Decides}
use Rattle.lbm_store.specs.Outside.{Files, StoreState, with, content, emptied, appended, followed, SomeFront, GotFront}
use Rattle.lbm_store.proofs.Written.{followed-again, followed-[]}
use Rattle.lbm_store.specs.Sinks.{other_files, content_of, rest_of}

pub bytes_eq-same : (name : List ℕ) → bytes_eq name name ≡ true
bytes_eq-same name = (bytes_eq-Decides name name).1 refl

pub with-same : {V : Type 0} (f : List ℕ → V) (name : List ℕ) (v : V) → with f name v name ≡ v
unfolding with
with-same f name v = ap (λ b. cond b v (f name)) (bytes_eq-same name)

pub cases : (b : Bool) → ((b ≡ true) ⊎ (b ≡ false))
cases true = inl refl
cases false = inr refl

cond-again : {V : Type 0} (b : Bool) (v w x : V) → cond b w (cond b v x) ≡ cond b w x
cond-again true v w x = refl
cond-again false v w x = refl

-- the last write at a name is the one that counts
pub with-with : {V : Type 0} (f : List ℕ → V) (name : List ℕ) (v w : V) → with (with f name v) name w ≡ with f name w
unfolding with
with-with f name v w = λ i other. cond-again (bytes_eq name other) v w (f other) i

-- a name that is given what it had
pub with-is : {V : Type 0} (f : List ℕ → V) (name : List ℕ) (v : V) → f name ≡ v → with f name v ≡ f
unfolding with
with-is f name v e =
    let at : (other : List ℕ) → cond (bytes_eq name other) v (f other) ≡ f other = λ other. elim (cases (bytes_eq name other)) [
      | inl here ↦ ap (λ b. cond b v (f other)) here ∙ sym e ∙ ap f ((bytes_eq-Decides name other).0 here)
      | inr away ↦ ap (λ b. cond b v (f other)) away
    ] in
    λ i other. at other i

pub content-with : (files : Files) (name bytes : List ℕ) → content (with files name (Some bytes)) name ≡ bytes
content-with files name bytes = ap (λ o. unwrap_or o []) (with-same files name (Some bytes))

pub content_of-appended : (files : Option Files) (name bytes : List ℕ) → content_of (appended files name bytes) name ≡ followed (content_of files name) bytes
unfolding content_of appended followed
content_of-appended None name bytes = refl
content_of-appended (Some files) name bytes = ap Some (content-with files name (content files name ++ bytes))

pub other_files-appended : (files : Option Files) (name bytes : List ℕ) → other_files (appended files name bytes) name ≡ other_files files name
unfolding other_files appended
other_files-appended None name bytes = refl
other_files-appended (Some files) name bytes = ap Some (with-with files name (Some (content files name ++ bytes)) None)

pub other_files-emptied : (files : Option Files) (name : List ℕ) → other_files (emptied files name) name ≡ other_files files name
unfolding other_files emptied
other_files-emptied None name = refl
other_files-emptied (Some files) name = ap Some (with-with files name (Some []) None)

-- what holds whichever way a call went
pub either : {T E P Q C : Type 0} (result : Result T E) → OnOk result P → OnErr result Q → (P → C) → (Q → C) → C
either (Ok x) p q f g = f p
either (Err e) p q f g = g q

-- what an append leaves of all else
module _ {T E : Type 0} (result : Result T E) (before after : StoreState) (name bytes : List ℕ) (loan : ℕ) where
  pub rest-append :
      OnOk result (after.files ≡ appended before.files name bytes)
      → OnErr result ((after.files ≡ before.files) ⊎ SomeFront bytes (λ front. after.files ≡ appended before.files name front))
      → after.read_faults ≡ before.read_faults
      → with after.write_faults name 0 ≡ with before.write_faults name 0
      → rest_of after name loan ≡ rest_of before name loan
  rest-append ok err reads writes =
      let same_files : other_files after.files name ≡ other_files before.files name = either result ok err
      (λ e. ap (λ f. other_files f name) e ∙ other_files-appended before.files name bytes)
      (elim [
        | inl e ↦ ap (λ f. other_files f name) e
        | inr p ↦ ap (λ f. other_files f name) p.3 ∙ other_files-appended before.files name p.0
      ]) in
      λ i. record { name = name; other_files = same_files i; read_faults = reads i; other_write_faults = writes i; loan = loan }

-- after an error the name has got a front of the bytes
pub GotFront-content : (before after : Option Files) (name bytes : List ℕ)
    → (after ≡ before) ⊎ SomeFront bytes (λ front. after ≡ appended before name front)
    → GotFront (content_of before name) (content_of after name) bytes
GotFront-content before after name bytes (inl e) =
    let same : content_of after name ≡ content_of before name = ap (λ f. content_of f name) e in
    record { kept = ([], same ∙ sym (followed-[] _)); within = (bytes, ap (λ w. followed w bytes) (sym same)) }
GotFront-content before after name bytes (inr p) =
    let got : content_of after name ≡ followed (content_of before name) p.0 =
    ap (λ f. content_of f name) p.3 ∙ content_of-appended before name p.0 in
    record {
      kept = (p.0, got);
      within = (p.1, ap (followed (content_of before name)) p.2 ∙ sym (followed-again _ p.0 p.1) ∙ ap (λ w. followed w p.1) (sym got));
    }
