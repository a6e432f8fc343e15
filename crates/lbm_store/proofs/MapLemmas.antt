-- Laws of maps under names.
use Rattle.std.proofs.Common.{◌≡◌, ℕ, ◌+◌, ◌-◌, ◌^◌, ◌<◌, min, Bool, true, false, cond, List, [], Option, Some, None, unwrap_or, option_map, ◌++◌, Result, Ok, Err, OnOk, OnErr, is_ok, refl, sym, ◌∙◌, ap, arith, String, Vec, Global, is_some}
use Rattle.std.specs.String.{string_cmp, string_bytes}
use Rattle.std.specs.Ordering.{nat_cmp}
use Rattle.std.specs.Cmp.Lexicographic.{slice_cmp}
use Rattle.std.specs.Str.{bytes_eq}
use Rattle.std.specs.BTreeMap.{BTreeMap, get_by_text, UpdatesBy, is_at}
use Rattle.std.specs.Map.{lookup}
use Rattle.std.proofs.lemmas.Map.Text.{btree_map_updates_text}
use Rattle.lbm_store.specs.declared.counts.FaultCounts.{FaultCounts}
use Rattle.lbm_store.specs.declared.named_files.NamedFiles.{NamedFiles}
use Rattle.std.specs.declared.alloc.AllocError.{AllocError}
use Rattle.lbm_store.specs.Outside.{content, no_faults, no_files, next_count, with_fault, with}
use Rattle.lbm_store.specs.Maps.{counts_of, files_of}
use Rattle.lbm_store.proofs.Files.{with-is}

-- a value is put under a name
abbrev PutsAt : {X : Type 0} → List ℕ → BTreeMap (String Global) X → BTreeMap (String Global) X → X → Type 0
PutsAt name m n x = UpdatesBy string_cmp (λ k. slice_cmp nat_cmp name (string_bytes k)) m n (Some x)

choice : {X Y : Type 0} (f : X → Y) (b : Bool) (x y : X) → f (cond b x y) ≡ cond b (f x) (f y)
choice f true x y = refl
choice f false x y = refl

pub not_some : {A : Type 0} (o : Option A) → is_some o ≡ false → o ≡ None
not_some None e = refl
not_some (Some x) e = absurd (cc)

-- ---- counts

pub counts_of-new : (m : FaultCounts) → m.counts.entries ≡ [] → counts_of m ≡ no_faults
unfolding counts_of
counts_of-new m e = λ i name. unwrap_or (lookup (is_at (λ k. slice_cmp nat_cmp name (string_bytes k))) (e i)) 0

pub counts_of-unchanged : (m n : FaultCounts) → n.counts.entries ≡ m.counts.entries → counts_of n ≡ counts_of m
unfolding counts_of
counts_of-unchanged m n e = λ i name. unwrap_or (lookup (is_at (λ k. slice_cmp nat_cmp name (string_bytes k))) (e i)) 0

counts_of-put : (m n : FaultCounts) (name : List ℕ) (count : ℕ) → PutsAt name m.counts n.counts count → counts_of n ≡ with (counts_of m) name count
unfolding counts_of with
counts_of-put m n name count puts =
    let value : Option ℕ → ℕ = λ o. unwrap_or o 0 in
    λ i other.
    (ap value (btree_map_updates_text name m.counts n.counts (Some count) puts other)
    ∙ choice value (bytes_eq name other) (Some count) (get_by_text m.counts other)) i

-- a name that was not there counts 0 as it did
pub counts_of-room : (m n : FaultCounts) (name : List ℕ) → PutsAt name m.counts n.counts 0 → get_by_text m.counts name ≡ None → counts_of n ≡ counts_of m
unfolding counts_of
counts_of-room m n name puts none = counts_of-put m n name 0 puts ∙ with-is (counts_of m) name 0 (ap (λ o. unwrap_or o 0) none)

pub counts_of-risen : (m n : FaultCounts) (name : List ℕ) (count next : ℕ)
    → Some count ≡ get_by_text m.counts name → count < 2 ^ 64 → next ≡ min (count + 1) (2 ^ 64 - 1) → PutsAt name m.counts n.counts next
    → counts_of n ≡ with_fault (counts_of m) name
unfolding counts_of with_fault
counts_of-risen m n name count next was fits is puts =
    let at : counts_of m name ≡ count = ap (λ o. unwrap_or o 0) (sym was) in
    let same : next ≡ next_count count = omega (arith, fits, is) in
    counts_of-put m n name next puts ∙ ap (with (counts_of m) name) (same ∙ ap next_count (sym at))

-- ---- files

pub files_of-new : (m : NamedFiles) → m.files.entries ≡ [] → files_of m ≡ no_files
unfolding files_of
files_of-new m e = λ i name. option_map (λ v. v.items) (lookup (is_at (λ k. slice_cmp nat_cmp name (string_bytes k))) (e i))

pub files_of-unchanged : (m n : NamedFiles) → n.files.entries ≡ m.files.entries → files_of n ≡ files_of m
unfolding files_of
files_of-unchanged m n e = λ i name. option_map (λ v. v.items) (lookup (is_at (λ k. slice_cmp nat_cmp name (string_bytes k))) (e i))

pub files_of-put : (m n : NamedFiles) (name : List ℕ) (held : Vec ℕ Global) → PutsAt name m.files n.files held
    → files_of n ≡ with (files_of m) name (Some held.items)
unfolding files_of with
files_of-put m n name held puts =
    let bytes : Option (Vec ℕ Global) → Option (List ℕ) = option_map (λ v. v.items) in
    λ i other.
    (ap bytes (btree_map_updates_text name m.files n.files (Some held) puts other)
    ∙ choice bytes (bytes_eq name other) (Some held) (get_by_text m.files other)) i

pub files_of-at : (m : NamedFiles) (name : List ℕ) (held : Vec ℕ Global) → Some held ≡ get_by_text m.files name → files_of m name ≡ Some held.items
unfolding files_of
files_of-at m name held was = ap (option_map (λ v. v.items)) (sym was)

pub files_of-none : (m : NamedFiles) (name : List ℕ) → get_by_text m.files name ≡ None → files_of m name ≡ None
unfolding files_of
files_of-none m name none = ap (option_map (λ v. v.items)) none

module _ (m n : NamedFiles) (name : List ℕ) (held now : Vec ℕ Global) (bytes : List ℕ)
    (was : Some held ≡ get_by_text m.files name) (puts : PutsAt name m.files n.files now) where
  -- bytes were added behind those that were there
  pub files_of-appended : (result : Result (Unit {0}) AllocError) → now.items ≡ cond (is_ok result) (held.items ++ bytes) held.items
      → OnOk result (files_of n ≡ with (files_of m) name (Some (content (files_of m) name ++ bytes)))
  files_of-appended (Err e) is = tt
  files_of-appended (Ok x) is =
      files_of-put m n name now puts ∙ ap (λ b. with (files_of m) name (Some b)) (is ∙ ap (λ o. unwrap_or o [] ++ bytes) (sym (files_of-at m name held was)))

  -- or there was no room for them
  pub files_of-full : (result : Result (Unit {0}) AllocError) → now.items ≡ cond (is_ok result) (held.items ++ bytes) held.items
      → OnErr result (files_of n ≡ files_of m)
  files_of-full (Ok x) is = tt
  files_of-full (Err e) is = files_of-put m n name now puts ∙ with-is (files_of m) name (Some now.items) (files_of-at m name held was ∙ ap Some (sym is))

-- bytes were put under a name that was not there
pub files_of-made : (m n : NamedFiles) (name : List ℕ) (same : BTreeMap (String Global) (Vec ℕ Global)) (bytes : List ℕ) (result : Result (Unit {0}) AllocError)
    → None ≡ get_by_text m.files name → same ≡ m.files
    → OnOk result (files_of n ≡ with (files_of (record m { files = same })) name (Some bytes))
    → OnOk result (files_of n ≡ with (files_of m) name (Some (content (files_of m) name ++ bytes)))
files_of-made m n name same bytes (Err e) none is put = tt
files_of-made m n name same bytes (Ok x) none is put =
    put ∙ ap (λ f. with (files_of (record m { files = f })) name (Some bytes)) is
    ∙ ap (λ o. with (files_of m) name (Some (unwrap_or o [] ++ bytes))) (sym (files_of-none m name (sym none)))
