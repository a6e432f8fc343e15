-- What the calls of the stores here leave is what a store's calls may leave.
use Rattle.std.proofs.Common.{◌≡◌, ℕ, ◌≤◌, ◌/◌, List, [], ◌++◌, length, take, drop, Some, Result, Ok, Err, inl, inr, refl, sym, ◌∙◌, ap, subst, arith}
use Rattle.std.specs.Prelude.{IfOk, MatchResult}
use Rattle.std.specs.Option.{ForSome}
use Rattle.lbm_store.specs.declared.outside.IoEnd.{IoEnd}
use Rattle.lbm_store.specs.declared.outside.IoEnd.TheVariants.{Failed, Memory}
use Rattle.std.proofs.lemmas.List.{take-append-drop}
use Rattle.std.proofs.lemmas.Result.{IfOk-at_ok}
use Rattle.lbm_store.specs.Outside.{Files, Counts, StoreState, HasCause, SameBeside, Reads, Creates, Appends, ReadsAt, content, emptied, appended, next_count, with_fault, untold_store, with}
use Rattle.lbm_store.specs.Memory.{MapState, MapReads, MapCreates, MapAppends, store_of}
use Rattle.lbm_store.proofs.Files.{with-same, with-with}

-- ---- counts

pub HasCause-ok : {T : Type 0} (x : T) (count : ℕ) → HasCause count count (Ok x)
HasCause-ok x count = record { later = omega arith; kept = refl; failed = λ e. absurd (cc) }

pub HasCause-memory : (T : Type 0) (count : ℕ) → HasCause {T = T} count count (Err Memory)
HasCause-memory T count = record { later = omega arith; kept = tt; failed = λ e. absurd (cc) }

pub HasCause-rise : (T : Type 0) (count : ℕ) → HasCause {T = T} count (next_count count) (Err Failed)
HasCause-rise T count = record { later = omega arith; kept = tt; failed = λ e. omega arith }

pub HasCause-risen : (T : Type 0) (counts : Counts) (name : List ℕ) → HasCause {T = T} (counts name) (with_fault counts name name) (Err Failed)
unfolding with_fault
HasCause-risen T counts name =
    subst (λ n. HasCause {T = T} (counts name) n (Err Failed)) (sym (with-same counts name (next_count (counts name)))) (HasCause-rise T (counts name))

pub SameBeside-risen : (counts : Counts) (name : List ℕ) → SameBeside name counts (with_fault counts name)
unfolding with_fault
SameBeside-risen counts name = with-with counts name (next_count (counts name)) 0

-- ---- one call, by what it answered

module _ (before : StoreState) (name : List ℕ) where
  pub Reads-ok : (at n : ℕ) (buffer : List ℕ) → n ≤ length buffer → ForSome before.files (λ files. ReadsAt (content files name) at n buffer)
      → Reads before before (Ok n) name at buffer
  Reads-ok at n buffer bound bytes = record {
    bound = bound;
    bytes = bytes;
    files = refl;
    cause = HasCause-ok n (before.read_faults name);
    others = refl;
    write_faults = refl;
  }

  pub Reads-memory : (at : ℕ) (buffer : List ℕ) → Reads before before (Err Memory) name at buffer
  Reads-memory at buffer = record {
    bound = tt;
    bytes = tt;
    files = refl;
    cause = HasCause-memory ℕ (before.read_faults name);
    others = refl;
    write_faults = refl;
  }

  pub Reads-failed : (at : ℕ) (buffer : List ℕ) → Reads before (record before { read_faults = with_fault before.read_faults name }) (Err Failed) name at buffer
  Reads-failed at buffer = record {
    bound = tt;
    bytes = tt;
    files = refl;
    cause = HasCause-risen ℕ before.read_faults name;
    others = SameBeside-risen before.read_faults name;
    write_faults = refl;
  }

  module _ {T : Type 0} (x : T) where
    pub Creates-ok : Creates before (record before { files = emptied before.files name }) (Ok x) name
    Creates-ok = record { ok = refl; err = tt; cause = HasCause-ok x (before.write_faults name); others = refl; read_faults = refl }

    pub Appends-ok : (bytes : List ℕ) → Appends before (record before { files = appended before.files name bytes }) (Ok x) name bytes
    Appends-ok bytes = record { ok = refl; err = tt; cause = HasCause-ok x (before.write_faults name); others = refl; read_faults = refl }

  module _ (T : Type 0) where
    pub Creates-memory : Creates {T = T} before before (Err Memory) name
    Creates-memory = record { ok = tt; err = inl refl; cause = HasCause-memory T (before.write_faults name); others = refl; read_faults = refl }

    pub Creates-failed : Creates {T = T} before (record before { write_faults = with_fault before.write_faults name }) (Err Failed) name
    Creates-failed = record {
      ok = tt;
      err = inl refl;
      cause = HasCause-risen T before.write_faults name;
      others = SameBeside-risen before.write_faults name;
      read_faults = refl;
    }

    pub Appends-memory : (bytes : List ℕ) → Appends {T = T} before before (Err Memory) name bytes
    Appends-memory bytes = record { ok = tt; err = inl refl; cause = HasCause-memory T (before.write_faults name); others = refl; read_faults = refl }

    -- nothing was added
    pub Appends-failed : (bytes : List ℕ) → Appends {T = T} before (record before { write_faults = with_fault before.write_faults name }) (Err Failed) name bytes
    Appends-failed bytes = record {
      ok = tt;
      err = inl refl;
      cause = HasCause-risen T before.write_faults name;
      others = SameBeside-risen before.write_faults name;
      read_faults = refl;
    }

    -- a front was added
    pub Appends-cut : (bytes front back : List ℕ) → bytes ≡ front ++ back
        → Appends {T = T} before (record before { files = appended before.files name front; write_faults = with_fault before.write_faults name }) (Err Failed) name bytes
    Appends-cut bytes front back parts = record {
      ok = tt;
      err = inr (front, back, parts, refl);
      cause = HasCause-risen T before.write_faults name;
      others = SameBeside-risen before.write_faults name;
      read_faults = refl;
    }

-- ---- the calls of a store that tells no bytes

-- what holds of the counts and the answer of a call whose failure is counted
counted : {T E : Type 0} (C : Counts → Result T IoEnd → Type 0) (before made after : Counts) (name : List ℕ) (came_to : Result T E) (result : Result T IoEnd)
    → made ≡ before
    → MatchResult came_to (λ x. result ≡ Ok x) (λ e. result ≡ Err Failed) → MatchResult came_to (λ x. after ≡ made) (λ e. after ≡ with_fault made name)
    → ((x : T) → came_to ≡ Ok x → C before (Ok x)) → C (with_fault before name) (Err Failed) → C after result
counted C before made after name (Ok x) result same answer counts ok failed =
    subst (C after) (sym answer) (subst (λ c. C c (Ok x)) (sym (counts ∙ same)) (ok x refl))
counted C before made after name (Err e) result same answer counts ok failed =
    subst (C after) (sym answer) (subst (λ c. C c (Err Failed)) (sym (counts ∙ ap (λ c. with_fault c name) same)) failed)

module _ {E : Type 0} (reads writes made after : Counts) (name : List ℕ) where
  pub Reads-counted : (at : ℕ) (buffer : List ℕ) (came_to : Result ℕ E) (result : Result ℕ IoEnd)
      → made ≡ reads → IfOk came_to (λ n. n ≤ length buffer)
      → MatchResult came_to (λ n. result ≡ Ok n) (λ e. result ≡ Err Failed) → MatchResult came_to (λ n. after ≡ made) (λ e. after ≡ with_fault made name)
      → Reads (untold_store reads writes) (untold_store after writes) result name at buffer
  Reads-counted at buffer came_to result same bound answer counts =
      let store = untold_store reads writes in
      counted (λ c r. Reads store (untold_store c writes) r name at buffer) reads made after name came_to result same answer counts
      (λ n is. Reads-ok store name at n buffer (IfOk-at_ok (λ n. n ≤ length buffer) is bound) (λ files told. absurd (cc)))
      (Reads-failed store name at buffer)

  module _ {T : Type 0} (came_to : Result T E) (result : Result T IoEnd)
      (same : made ≡ writes)
      (answer : MatchResult came_to (λ x. result ≡ Ok x) (λ e. result ≡ Err Failed))
      (counts : MatchResult came_to (λ x. after ≡ made) (λ e. after ≡ with_fault made name)) where
    pub Creates-counted : Creates (untold_store reads writes) (untold_store reads after) result name
    unfolding emptied
    Creates-counted =
        let store = untold_store reads writes in
        counted (λ c r. Creates store (untold_store reads c) r name) writes made after name came_to result same answer counts
        (λ x is. Creates-ok store name x) (Creates-failed store name T)

    pub Appends-counted : (bytes : List ℕ) → Appends (untold_store reads writes) (untold_store reads after) result name bytes
    unfolding appended
    Appends-counted bytes =
        let store = untold_store reads writes in
        counted (λ c r. Appends store (untold_store reads c) r name bytes) writes made after name came_to result same answer counts
        (λ x is. Appends-ok store name x bytes) (Appends-failed store name T bytes)

-- ---- the calls of the stores in memory

module _ {T : Type 0} (x : T) (store : StoreState) (files now : Files) (told : store.files ≡ Some files) (name : List ℕ) where
  pub Creates-told : now ≡ with files name (Some []) → Creates store (record store { files = Some now }) (Ok x) name
  unfolding emptied
  Creates-told is =
      let made : emptied store.files name ≡ Some now = ap (λ f. emptied f name) told ∙ ap Some (sym is) in
      subst (λ f. Creates store (record store { files = f }) (Ok x) name) made (Creates-ok store name x)

  pub Appends-told : (bytes : List ℕ) → now ≡ with files name (Some (content files name ++ bytes)) → Appends store (record store { files = Some now }) (Ok x) name bytes
  unfolding appended
  Appends-told bytes is =
      let made : appended store.files name bytes ≡ Some now = ap (λ f. appended f name bytes) told ∙ ap Some (sym is) in
      subst (λ f. Appends store (record store { files = f }) (Ok x) name bytes) made (Appends-ok store name x bytes)

some-same : {X : Type 0} {x y : X} → Some x ≡ Some y → x ≡ y
some-same is = cc

-- exactly what a call of the store in which chosen calls fail leaves is what a store's call may leave
pub Reads-from_map : (before after : MapState) (result : Result ℕ IoEnd) (name : List ℕ) (at : ℕ) (buffer : List ℕ) → MapReads before after result name at buffer
    → Reads (store_of before) (store_of after) result name at buffer
Reads-from_map before after (Ok count) name at buffer read =
    let bytes = read.3 in
    subst (λ s. Reads (store_of before) (store_of s) (Ok count) name at buffer) (sym read.4)
    (Reads-ok (store_of before) name at count buffer (omega (arith, read.2)) (λ files is. subst (λ f. ReadsAt (content f name) at count buffer) (some-same is) bytes))
Reads-from_map before after (Err Failed) name at buffer failed =
    subst (λ s. Reads (store_of before) (store_of s) (Err Failed) name at buffer) (sym failed.1) (Reads-failed (store_of before) name at buffer)
Reads-from_map before after (Err Memory) name at buffer same =
    subst (λ s. Reads (store_of before) (store_of s) (Err Memory) name at buffer) (sym same) (Reads-memory (store_of before) name at buffer)

pub Creates-from_map : (before after : MapState) (result : Result (Unit {0}) IoEnd) (name : List ℕ) → MapCreates before after result name
    → Creates (store_of before) (store_of after) result name
unfolding emptied
Creates-from_map before after (Ok done) name made =
    subst (λ s. Creates (store_of before) (store_of s) (Ok done) name) (sym made.1) (Creates-ok (store_of before) name done)
Creates-from_map before after (Err Failed) name failed =
    subst (λ s. Creates {T = Unit {0}} (store_of before) (store_of s) (Err Failed) name) (sym failed.1) (Creates-failed (store_of before) name (Unit {0}))
Creates-from_map before after (Err Memory) name same =
    subst (λ s. Creates {T = Unit {0}} (store_of before) (store_of s) (Err Memory) name) (sym same) (Creates-memory (store_of before) name (Unit {0}))

pub Appends-from_map : (before after : MapState) (result : Result (Unit {0}) IoEnd) (name bytes : List ℕ) → MapAppends before after result name bytes
    → Appends (store_of before) (store_of after) result name bytes
unfolding appended
Appends-from_map before after (Ok done) name bytes made =
    subst (λ s. Appends (store_of before) (store_of s) (Ok done) name bytes) (sym made.1) (Appends-ok (store_of before) name done bytes)
Appends-from_map before after (Err Failed) name bytes failed =
    let half = length bytes / 2 in
    subst (λ s. Appends {T = Unit {0}} (store_of before) (store_of s) (Err Failed) name bytes) (sym failed.1)
    (Appends-cut (store_of before) name (Unit {0}) bytes (take half bytes) (drop half bytes) (sym (take-append-drop half bytes)))
Appends-from_map before after (Err Memory) name bytes same =
    subst (λ s. Appends {T = Unit {0}} (store_of before) (store_of s) (Err Memory) name bytes) (sym same) (Appends-memory (store_of before) name (Unit {0}) bytes)
