-- The first of the faults that a file has, and readings that are refused for it.
use Rattle.std.proofs.Common.{◌≡◌, ◌⊎◌, ◌↔◌, ℕ, ◌+◌, ◌<◌, ◌≤◌, cond, eqb, Bool, true, false, List, [], ◌∷◌, get_or, Option, Some, None, Result, Ok, Err, IsOk, ok_or, refl, sym, ap, ◌∙◌, subst, arith, inl, inr, Ordering, Less, Equal, Greater, nat_cmp}
use Rattle.std.specs.Ordering.{ordering_then, ordering_reverse, MatchOrdering}
use Rattle.std.specs.Cmp.Lexicographic.{slice_cmp}
use Rattle.std.proofs.lemmas.Bool.{cases_eq}
use Rattle.std.proofs.lemmas.Cmp.{ranked, nat_list_cmp_total}
use Rattle.std.proofs.lemmas.Map.Lookups.{exact_bytes}
use Rattle.lbm_case.specs.declared.key.Key.{Key}
use Rattle.lbm_case.specs.declared.key.Key.TheVariants.{Set, Omega, Map, Layers, Density, Digit, Momentum, Force, OmegaMinus, Wall}
use Rattle.lbm_case.specs.declared.fault.CaseFault.{CaseFault}
use Rattle.lbm_case.specs.declared.fault.CaseFault.TheVariants.{NotToml, UnknownKey, MissingKey, WrongKind, BadNumber, BadSet, EmptyMap, Ragged, BadChar, TooLarge}
use Rattle.lbm_model.specs.Refusals.{◌>>=◌, demand}
use Rattle.lbm_case.specs.Refusals.{refuse}
use Rattle.lbm_case.specs.Causes.{number_of, line_of, detail_of, IsFirstOf}

-- ---- a key by its number, and a fault by its line and detail

abbrev pub key_at : ℕ → Key
key_at n =
    cond (eqb n 0) Set (cond (eqb n 1) Omega (cond (eqb n 2) Map (cond (eqb n 3) Layers (cond (eqb n 4) Density
    (cond (eqb n 5) Digit (cond (eqb n 6) Momentum (cond (eqb n 7) Force (cond (eqb n 8) OmegaMinus Wall))))))))

key_at-number : (key : Key) → key_at (number_of key) ≡ key
key_at-number Set = refl
key_at-number Omega = refl
key_at-number Map = refl
key_at-number Layers = refl
key_at-number Density = refl
key_at-number Digit = refl
key_at-number Momentum = refl
key_at-number Force = refl
key_at-number OmegaMinus = refl
key_at-number Wall = refl

pub same_number : (j k : Key) → number_of j ≡ number_of k → j ≡ k
same_number j k same = sym (key_at-number j) ∙ (ap key_at same ∙ key_at-number k)

pub number_small : (key : Key) → number_of key < 10
number_small Set = omega arith
number_small Omega = omega arith
number_small Map = omega arith
number_small Layers = omega arith
number_small Density = omega arith
number_small Digit = omega arith
number_small Momentum = omega arith
number_small Force = omega arith
number_small OmegaMinus = omega arith
number_small Wall = omega arith

abbrev pub fault_at : ℕ → List ℕ → CaseFault
fault_at n d =
    cond (eqb n 1) NotToml (cond (eqb n 2) (UnknownKey d) (cond (eqb n 3) (MissingKey (key_at (get_or d 0 0)))
    (cond (eqb n 4) (WrongKind (key_at (get_or d 0 0))) (cond (eqb n 5) (BadNumber (key_at (get_or d 0 0)))
    (cond (eqb n 6) BadSet (cond (eqb n 7) EmptyMap (cond (eqb n 8) (Ragged (get_or d 0 0))
    (cond (eqb n 9) (BadChar (get_or d 0 0) (get_or d 1 0)) TooLarge))))))))

fault_at-place : (f : CaseFault) → fault_at (line_of f) (detail_of f) ≡ f
fault_at-place NotToml = refl
fault_at-place (UnknownKey name) = refl
fault_at-place (MissingKey key) = ap MissingKey (key_at-number key)
fault_at-place (WrongKind key) = ap WrongKind (key_at-number key)
fault_at-place (BadNumber key) = ap BadNumber (key_at-number key)
fault_at-place BadSet = refl
fault_at-place EmptyMap = refl
fault_at-place (Ragged r) = refl
fault_at-place (BadChar r c) = refl
fault_at-place TooLarge = refl

line_small : (f : CaseFault) → line_of f ≤ 10
line_small NotToml = omega arith
line_small (UnknownKey name) = omega arith
line_small (MissingKey key) = omega arith
line_small (WrongKind key) = omega arith
line_small (BadNumber key) = omega arith
line_small BadSet = omega arith
line_small EmptyMap = omega arith
line_small (Ragged r) = omega arith
line_small (BadChar r c) = omega arith
line_small TooLarge = omega arith

at_line : (n : ℕ) (f : CaseFault) → line_of f ≡ n → fault_at n (detail_of f) ≡ f
at_line n f on_line = subst (λ k. fault_at k (detail_of f) ≡ f) on_line (fault_at-place f)

-- ---- their order

cases_Ordering : (o : Ordering) → (o ≡ Less) ⊎ ((o ≡ Equal) ⊎ (o ≡ Greater))
cases_Ordering Less = inl refl
cases_Ordering Equal = inr (inl refl)
cases_Ordering Greater = inr (inr refl)

then_less : (o p : Ordering) → ordering_then o p ≡ Less → (o ≡ Less) ⊎ ((o ≡ Equal) × (p ≡ Less))
then_less Less p less = inl refl
then_less Equal p less = inr (refl, less)
then_less Greater p less = absurd cc

nat_less : (x y : ℕ) → nat_cmp x y ≡ Less → x < y
nat_less x y less = subst (λ r. MatchOrdering r (x < y) (x ≡ y) (y < x)) less (ranked x y (nat_cmp x y) refl)

nat_same : (x y : ℕ) → nat_cmp x y ≡ Equal → x ≡ y
nat_same x y same = subst (λ r. MatchOrdering r (x < y) (x ≡ y) (y < x)) same (ranked x y (nat_cmp x y) refl)

first_less : (x y : ℕ) (xs ys : List ℕ) → slice_cmp nat_cmp (x ∷ xs) (y ∷ ys) ≡ Less → (x < y) ⊎ ((x ≡ y) × (slice_cmp nat_cmp xs ys ≡ Less))
first_less x y xs ys less = elim (then_less (nat_cmp x y) (slice_cmp nat_cmp xs ys) less) [
  | inl before ↦ inl (nat_less x y before)
  | inr rest ↦ inr (nat_same x y rest.0, rest.1)
]

pub one_less : (x y : ℕ) → slice_cmp nat_cmp (x ∷ []) (y ∷ []) ≡ Less → x < y
one_less x y less = elim (first_less x y [] [] less) [
  | inl before ↦ before
  | inr rest ↦ absurd (let never : Equal ≡ Less = rest.1 in cc)
]

pub two_less : (a b c d : ℕ) → slice_cmp nat_cmp (a ∷ b ∷ []) (c ∷ d ∷ []) ≡ Less → (a < c) ⊎ ((a ≡ c) × (b < d))
two_less a b c d less = elim (first_less a c (b ∷ []) (d ∷ []) less) [
  | inl before ↦ inl before
  | inr rest ↦ inr (rest.0, one_less b d rest.1)
]

-- no name comes before itself
pub not_before_itself : (xs : List ℕ) → slice_cmp nat_cmp xs xs ≡ Less → ⊥
not_before_itself xs less = let other = nat_list_cmp_total.antisymm xs xs in let turned : slice_cmp nat_cmp xs xs ≡ Greater = other ∙ ap ordering_reverse less in cc

same_place : (a b : CaseFault) → slice_cmp nat_cmp (line_of a ∷ detail_of a) (line_of b ∷ detail_of b) ≡ Equal → a ≡ b
same_place a b equal =
    let places : line_of a ∷ detail_of a ≡ line_of b ∷ detail_of b = exact_bytes _ _ equal in
    let lines : line_of a ≡ line_of b = cc in
    let details : detail_of a ≡ detail_of b = cc in
    sym (fault_at-place a) ∙ (ap (λ n. fault_at n (detail_of a)) lines ∙ (ap (fault_at (line_of b)) details ∙ fault_at-place b))

-- so there is one first fault
pub one_first : (Has : CaseFault → Type 0) (a b : CaseFault) → IsFirstOf Has a → IsFirstOf Has b → a ≡ b
one_first Has a b a_first b_first =
    let place : CaseFault → List ℕ = λ f. line_of f ∷ detail_of f in
    elim (cases_Ordering (slice_cmp nat_cmp (line_of a ∷ detail_of a) (line_of b ∷ detail_of b))) [
      | inl less ↦ absurd (b_first.first a a_first.holds less)
      | inr (inl equal) ↦ same_place a b equal
      | inr (inr more) ↦ absurd (a_first.first b b_first.holds (nat_list_cmp_total.antisymm (place b) (place a) ∙ ap ordering_reverse more))
    ]

-- ---- line by line

-- no fault on the first n lines
pub record Clear (Has : CaseFault → Type 0) (n : ℕ) : Type 0 where
  pub past : (f : CaseFault) → Has f → n < line_of f

pub clear_line : (Has : CaseFault → Type 0) (n : ℕ) → Clear Has n → ((d : List ℕ) → Has (fault_at (n + 1) d) → ⊥) → Clear Has (n + 1)
clear_line Has n clear none = record {
  past = λ f has. elim (cases_eq (line_of f) (n + 1)) [
    | inl here ↦ absurd (none (detail_of f) (subst Has (sym (at_line (n + 1) f here)) has))
    | inr other ↦ (let past : n < line_of f = clear.past f has in omega arith)
  ];
}

pub clear_of_all : (Has : CaseFault → Type 0) → Clear Has 10 → (f : CaseFault) → Has f → ⊥
clear_of_all Has clear f has = let past : 10 < line_of f = clear.past f has in let few = line_small f in absurd (omega arith)

pub first_on_line : (Has : CaseFault → Type 0) (n : ℕ) (f : CaseFault) → Clear Has n → line_of f ≡ n + 1 → Has f
    → ((d : List ℕ) → Has (fault_at (n + 1) d) → slice_cmp nat_cmp (detail_of (fault_at (n + 1) d)) (detail_of f) ≡ Less → ⊥) → IsFirstOf Has f
first_on_line Has n f clear on_line has before = record {
  holds = has;
  first = λ g other less. elim (first_less (line_of g) (line_of f) (detail_of g) (detail_of f) less) [
    | inl earlier ↦ (let past : n < line_of g = clear.past g other in absurd (omega arith))
    | inr same ↦ (let here = at_line (n + 1) g (same.0 ∙ on_line) in
        before (detail_of g) (subst Has (sym here) other) (subst (λ h. slice_cmp nat_cmp (detail_of h) (detail_of f) ≡ Less) (sym here) same.1))
  ];
}

-- ---- readings

-- what is read has the property, and what is refused is refused for the first fault
pub record Answers {A : Type 0} (Has : CaseFault → Type 0) (P : A → Type 0) (reading : Result A CaseFault) : Type 0 where
  pub refused : (f : CaseFault) → reading ≡ Err f → IsFirstOf Has f
  pub read : (x : A) → reading ≡ Ok x → P x

pub refused_for : {A : Type 0} (Has : CaseFault → Type 0) (P : A → Type 0) (f : CaseFault) → IsFirstOf Has f → Answers Has P (Err f)
refused_for Has P f is_first = record {
  refused = λ g given. let same : f ≡ g = cc in subst (IsFirstOf Has) same is_first;
  read = λ x given. absurd cc;
}

pub read_as : {A : Type 0} (Has : CaseFault → Type 0) (P : A → Type 0) (x : A) → P x → Answers Has P (Ok x)
read_as Has P x holds = record {
  refused = λ f given. absurd cc;
  read = λ y given. let same : x ≡ y = cc in subst P same holds;
}

pub then_read : {A B : Type 0} (Has : CaseFault → Type 0) (P : A → Type 0) (Q : B → Type 0) (step : Result A CaseFault) (f : A → Result B CaseFault)
    → Answers Has P step → ((x : A) → P x → Answers Has Q (f x)) → Answers Has Q (step >>= f)
then_read Has P Q (Ok x) f answers more = more x (answers.read x refl)
then_read Has P Q (Err fault) f answers more = refused_for Has Q fault (answers.refused fault refl)

pub ok_or_answers : {A : Type 0} (Has : CaseFault → Type 0) (o : Option A) (f : CaseFault) → (o ≡ None → IsFirstOf Has f) → Answers Has (λ x. o ≡ Some x) (ok_or o f)
ok_or_answers Has None f is_first = refused_for Has _ f (is_first refl)
ok_or_answers Has (Some x) f is_first = read_as Has _ x refl

pub refuse_answers : {A : Type 0} (Has : CaseFault → Type 0) (make : A → CaseFault) (o : Option A) → ((x : A) → o ≡ Some x → IsFirstOf Has (make x))
    → Answers Has (λ u. o ≡ None) (refuse make o)
refuse_answers Has make None is_first = read_as Has _ tt refl
refuse_answers Has make (Some x) is_first = refused_for Has _ (make x) (is_first x refl)

pub demand_answers : (Has : CaseFault → Type 0) (b : Bool) (f : CaseFault) → (b ≡ false → IsFirstOf Has f) → Answers Has (λ u. b ≡ true) (demand b f)
demand_answers Has true f is_first = read_as Has _ tt refl
demand_answers Has false f is_first = refused_for Has _ f (is_first refl)

-- so a reading is refused exactly for the first fault, and gives a value exactly where there is none
abbrev pub IsFaultless : (CaseFault → Type 0) → Type 0
IsFaultless Has = (f : CaseFault) → Has f → ⊥

pub refused_exactly : {A : Type 0} (Has : CaseFault → Type 0) (reading : Result A CaseFault) → Answers Has (λ x. IsFaultless Has) reading → (f : CaseFault) → (reading ≡ Err f) ↔ IsFirstOf Has f
refused_exactly Has (Ok x) answers f = (answers.refused f, λ is_first. absurd (answers.read x refl f is_first.holds))
refused_exactly Has (Err g) answers f = (answers.refused f, λ is_first. ap Err (one_first Has g f (answers.refused g refl) is_first))

pub read_exactly : {A : Type 0} (Has : CaseFault → Type 0) (reading : Result A CaseFault) → Answers Has (λ x. IsFaultless Has) reading → IsOk reading ↔ IsFaultless Has
read_exactly Has (Ok x) answers = (λ ok. answers.read x refl, λ none. refl)
read_exactly Has (Err f) answers = (λ ok. absurd cc, λ none. absurd (none f (answers.refused f refl).holds))
