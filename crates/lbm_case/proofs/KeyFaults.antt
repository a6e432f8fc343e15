-- The keys that a document has and lacks.
use Rattle.std.proofs.Common.{◌≡◌, ◌≢◌, ◌⊎◌, ℕ, zero, suc, ◌<◌, Bool, true, false, not, List, [], ◌∷◌, length, get_or, Option, Some, None, is_none, find, filter, Contains, refl, sym, ap, ◌∙◌, subst, arith, lit<, inl, inr, Less, nat_cmp, bytes_eq}
use Rattle.std.specs.Ordering.{is_lt}
use Rattle.std.specs.Option.{option_map_or}
use Rattle.std.specs.Cmp.Lexicographic.{slice_cmp}
use Rattle.std.proofs.lemmas.Bool.{cases_Bool, both_ways, not-true, cond-true, cond-false}
use Rattle.std.proofs.lemmas.Option.{none-some, same_Some}
use Rattle.std.proofs.lemmas.Cmp.{nat_list_cmp_total}
use Rattle.std.proofs.lemmas.Slice.Eq.{bytes_eq-Decides}
use Rattle.toml.specs.Data.{Data, Members}
use Rattle.lbm_case.specs.declared.key.Key.{Key}
use Rattle.lbm_case.specs.declared.key.Key.TheVariants.{Set, Omega, Map, Layers, Density, Digit, Momentum, Force, OmegaMinus, Wall}
use Rattle.lbm_case.specs.declared.fault.CaseFault.TheVariants.{UnknownKey, MissingKey}
use Rattle.lbm_case.specs.Keys.{name_of, all_keys, required_keys, is_known}
use Rattle.lbm_case.specs.Refusals.{refuse}
use Rattle.lbm_case.specs.Settings.{names_in, lesser, least, unknown_key, missing_key, value_at}
use Rattle.lbm_case.specs.Causes.{number_of, IsUnknown, IsRequired, HasFault, IsFirstOf}
use Rattle.lbm_case.proofs.Places.{any_at, any_none}
use Rattle.lbm_case.proofs.Ranges.{find-None}
use Rattle.lbm_case.proofs.FaultOrder.{Clear, Answers, clear_line, first_on_line, refuse_answers, one_less, not_before_itself, number_small, key_at}

-- ---- the least of the names that pass a test

contains_here : (x : List ℕ) (xs : List (List ℕ)) → Contains (x ∷ xs) x
contains_here x xs = (0, omega arith, refl)

contains_more : (y : List ℕ) (xs : List (List ℕ)) (x : List ℕ) → Contains xs x → Contains (y ∷ xs) x
contains_more y xs x among = (suc among.0, (let within = among.1 in omega arith), among.2)

contains_at : (y : List ℕ) (xs : List (List ℕ)) (x : List ℕ) (k : ℕ) → k < length (y ∷ xs) → get_or (y ∷ xs) k x ≡ x → (y ≡ x) ⊎ Contains xs x
contains_at y xs x zero within is = inl is
contains_at y xs x (suc k) within is = inr (k, omega arith, is)

contains_cases : (y : List ℕ) (xs : List (List ℕ)) (x : List ℕ) → Contains (y ∷ xs) x → (y ≡ x) ⊎ Contains xs x
contains_cases y xs x among = contains_at y xs x among.0 among.1 among.2

not_in_none : (x : List ℕ) → Contains [] x → ⊥
not_in_none x among = let within = among.1 in absurd (omega arith)

lesser_cases : (x y m : List ℕ) → lesser x y ≡ m → ((x ≡ m) × (slice_cmp nat_cmp x y ≡ Less)) ⊎ ((y ≡ m) × (is_lt (slice_cmp nat_cmp x y) ≡ false))
lesser_cases x y m is = elim (cases_Bool (is_lt (slice_cmp nat_cmp x y))) [
  | inl less ↦ inl (sym (cond-true _ _ _ less) ∙ is, is_less (slice_cmp nat_cmp x y) less)
  | inr other ↦ inr (sym (cond-false _ _ _ other) ∙ is, other)
]
  where
    is_less : (o : _) → is_lt o ≡ true → o ≡ Less
    is_less o less = grind arith

pick_cases : (x : List ℕ) (o : Option (List ℕ)) (m : List ℕ) → option_map_or (lesser x) o x ≡ m → (x ≡ m) ⊎ (o ≡ Some m)
pick_cases x None m is = inl is
pick_cases x (Some y) m is = elim (lesser_cases x y m is) [ inl first ↦ inl first.0 | inr second ↦ inr (ap Some second.0) ]

least_kept : (p : List ℕ → Bool) (xs : List (List ℕ)) (m : List ℕ) → least (filter p xs) ≡ Some m → Contains xs m × (p m ≡ true)
least_kept p [] m found = absurd (none-some _ found)
least_kept p (x ∷ xs) m found = elim (cases_Bool (p x)) [
  | inl passes ↦ elim (pick_cases x (least (filter p xs)) m (same_Some _ _ (rw passes at found))) [
    | inl same ↦ (subst (Contains (x ∷ xs)) same (contains_here x xs), ap p (sym same) ∙ passes)
    | inr later ↦ (let more = least_kept p xs m later in (contains_more x xs m more.0, more.1))
  ]
  | inr fails ↦ (let more = least_kept p xs m (rw fails at found) in (contains_more x xs m more.0, more.1))
]

least_none : (p : List ℕ → Bool) (xs : List (List ℕ)) → least (filter p xs) ≡ None → (x : List ℕ) → Contains xs x → p x ≡ false
least_none p [] none x among = absurd (not_in_none x among)
least_none p (y ∷ ys) none x among = elim (cases_Bool (p y)) [
  | inl passes ↦ absurd (none-some _ (sym (rw passes at none)))
  | inr fails ↦ elim (contains_cases y ys x among) [ inl same ↦ ap p (sym same) ∙ fails | inr more ↦ least_none p ys (rw fails at none) x more ]
]

-- the first of two is not above what is picked, and what is not below the second is not below it either
not_below_first : (y : List ℕ) (o : Option (List ℕ)) (m : List ℕ) → option_map_or (lesser y) o y ≡ m → slice_cmp nat_cmp y m ≡ Less → ⊥
not_below_first y None m is less = not_before_itself y (rw (← is) at less)
not_below_first y (Some n) m is less = elim (lesser_cases y n m is) [
  | inl first ↦ not_before_itself y (subst (λ x. slice_cmp nat_cmp y x ≡ Less) (sym first.0) less)
  | inr second ↦ both_ways _ second.1 (ap is_lt (subst (λ x. slice_cmp nat_cmp y x ≡ Less) (sym second.0) less))
]

not_below_picked : (y : List ℕ) (o : Option (List ℕ)) (m x : List ℕ) → option_map_or (lesser y) o y ≡ m → o ≢ None → ((n : List ℕ) → o ≡ Some n → slice_cmp nat_cmp x n ≡ Less → ⊥) → slice_cmp nat_cmp x m ≡ Less → ⊥
not_below_picked y None m x is some above less = some refl
not_below_picked y (Some n) m x is some above less = elim (lesser_cases y n m is) [
  | inl first ↦ above n refl (nat_list_cmp_total.trans x y n (subst (λ z. slice_cmp nat_cmp x z ≡ Less) (sym first.0) less) first.1)
  | inr second ↦ above n refl (subst (λ z. slice_cmp nat_cmp x z ≡ Less) (sym second.0) less)
]

least_below : (p : List ℕ → Bool) (xs : List (List ℕ)) (m : List ℕ) → least (filter p xs) ≡ Some m → (x : List ℕ) → Contains xs x → p x ≡ true → slice_cmp nat_cmp x m ≡ Less → ⊥
least_below p [] m found x among passes less = not_in_none x among
least_below p (y ∷ ys) m found x among passes less = elim (cases_Bool (p y)) [
  | inl kept ↦ (let is = same_Some _ _ (rw kept at found) in elim (contains_cases y ys x among) [
    | inl same ↦ not_below_first y (least (filter p ys)) m is (subst (λ z. slice_cmp nat_cmp z m ≡ Less) (sym same) less)
    | inr more ↦ not_below_picked y (least (filter p ys)) m x is (λ none. both_ways _ (least_none p ys none x more) passes) (λ n later. least_below p ys n later x more passes) less
  ])
  | inr fails ↦ elim (contains_cases y ys x among) [
    | inl same ↦ both_ways _ (ap p (sym same) ∙ fails) passes
    | inr more ↦ least_below p ys m (rw fails at found) x more passes less
  ]
]

-- ---- the ten keys

pub key_in : (key : Key) → get_or all_keys (number_of key) Set ≡ key
unfolding all_keys
key_in Set = refl
key_in Omega = refl
key_in Map = refl
key_in Layers = refl
key_in Density = refl
key_in Digit = refl
key_in Momentum = refl
key_in Force = refl
key_in OmegaMinus = refl
key_in Wall = refl

pub length-all_keys : length all_keys ≡ 10
unfolding all_keys
length-all_keys = refl

pub numbered : (i : ℕ) → i < 10 → number_of (get_or all_keys i Set) ≡ i
unfolding all_keys
numbered zero less = refl
numbered (suc zero) less = refl
numbered (suc (suc zero)) less = refl
numbered (suc (suc (suc zero))) less = refl
numbered (suc (suc (suc (suc zero)))) less = refl
numbered (suc (suc (suc (suc (suc zero))))) less = refl
numbered (suc (suc (suc (suc (suc (suc zero)))))) less = refl
numbered (suc (suc (suc (suc (suc (suc (suc zero))))))) less = refl
numbered (suc (suc (suc (suc (suc (suc (suc (suc zero)))))))) less = refl
numbered (suc (suc (suc (suc (suc (suc (suc (suc (suc zero))))))))) less = refl
numbered (suc (suc (suc (suc (suc (suc (suc (suc (suc (suc i)))))))))) less = absurd (omega arith)

known_key : (name : List ℕ) (key : Key) → name ≡ name_of key → is_known name ≡ true
known_key name key same =
    let within : number_of key < length all_keys = (let few = number_small key in rw length-all_keys few) in
    any_at (λ k. bytes_eq name (name_of k)) all_keys (number_of key) Set within (rw (key_in key) ((bytes_eq-Decides name (name_of key)).1 same))

unknown_name : (name : List ℕ) → ((key : Key) → name ≢ name_of key) → is_known name ≡ false
unknown_name name other =
    any_none (λ k. bytes_eq name (name_of k)) all_keys Set
    (λ i within. elim (cases_Bool (bytes_eq name (name_of (get_or all_keys i Set)))) [
      | inl same ↦ absurd (other _ ((bytes_eq-Decides name (name_of (get_or all_keys i Set))).0 same))
      | inr differs ↦ differs
    ])

-- ---- a key that is none of the ten

unknown_is : (table : Members) (name : List ℕ) → unknown_key table ≡ Some name → IsUnknown table name
unknown_is table name found =
    let kept = least_kept (λ n. not (is_known n)) (names_in table) name found in
    (kept.0, λ key same. both_ways _ (not-true _ kept.1) (known_key name key same))

pub unknown_answers : (table : Members) → Clear (HasFault table) 1 → Answers (HasFault table) (λ u. unknown_key table ≡ None) (refuse UnknownKey (unknown_key table))
unknown_answers table clear =
    refuse_answers (HasFault table) UnknownKey (unknown_key table)
    (λ name found. first_on_line (HasFault table) 1 (UnknownKey name) clear refl (unknown_is table name found)
    (λ d has less. least_below (λ n. not (is_known n)) (names_in table) name found d has.0 (ap not (unknown_name d has.1)) less))

pub all_known : (table : Members) → Clear (HasFault table) 1 → unknown_key table ≡ None → Clear (HasFault table) 2
all_known table clear none =
    clear_line (HasFault table) 1 clear
    (λ d has. both_ways _ (least_none (λ n. not (is_known n)) (names_in table) none d has.0) (ap not (unknown_name d has.1)))

-- ---- a key that has to be there

-- what a search finds is the first that passes
pub find_first : {X : Type 0} (p : X → Bool) (xs : List X) (d x : X) → find p xs ≡ Some x
    → (i : ℕ) × (i < length xs) × (get_or xs i d ≡ x) × (p x ≡ true) × ((k : ℕ) → k < i → p (get_or xs k d) ≡ false)
find_first p [] d x found = absurd (none-some _ found)
find_first p (y ∷ ys) d x found = elim (cases_Bool (p y)) [
  | inl passes ↦ (let same = same_Some _ _ (sym (cond-true _ _ _ passes) ∙ found) in (0, omega arith, same, ap p (sym same) ∙ passes, λ k less. absurd (omega arith)))
  | inr fails ↦ (let more = find_first p ys d x (sym (cond-false _ _ _ fails) ∙ found) in (suc more.0, (let within = more.1 in omega arith), more.2, more.3, before y ys fails more.0 more.4))
]
  where
    before : (y : _) (ys : List _) → p y ≡ false → (i : ℕ) → ((k : ℕ) → k < i → p (get_or ys k d) ≡ false) → (k : ℕ) → k < suc i → p (get_or (y ∷ ys) k d) ≡ false
    before y ys fails i rest zero less = fails
    before y ys fails i rest (suc k) less = rest k (omega arith)

absent_is : (o : Option Data) → is_none o ≡ true → o ≡ None
absent_is None is = refl
absent_is (Some x) is = absurd cc

required_at : (i : ℕ) → i < 3 → IsRequired (get_or required_keys i Set) × (number_of (get_or required_keys i Set) ≡ i)
unfolding required_keys
required_at zero less = (inl refl, refl)
required_at (suc zero) less = (inr (inl refl), refl)
required_at (suc (suc zero)) less = (inr (inr refl), refl)
required_at (suc (suc (suc i))) less = absurd (omega arith)

length-required_keys : length required_keys ≡ 3
unfolding required_keys
length-required_keys = refl

required_in : (key : Key) → IsRequired key → (number_of key < 3) × (get_or required_keys (number_of key) Set ≡ key)
unfolding required_keys
required_in key (inl same) = rw same (lit< tt, refl)
required_in key (inr (inl same)) = rw same (lit< tt, refl)
required_in key (inr (inr same)) = rw same (lit< tt, refl)

missing_first : (table : Members) → Clear (HasFault table) 2 → (key : Key) → missing_key table ≡ Some key → IsFirstOf (HasFault table) (MissingKey key)
missing_first table clear key found =
    let (i, within, is, absent, before) = find_first (λ k. is_none (value_at k table)) required_keys Set key found in
    let few : i < 3 = rw length-required_keys at within in
    let at = required_at i few in
    let number : number_of key ≡ i = ap number_of (sym is) ∙ at.1 in
    first_on_line (HasFault table) 2 (MissingKey key) clear refl (subst IsRequired is at.0, absent_is _ absent)
    (λ d has less. let there = required_in _ has.0 in
    let earlier : number_of (key_at (get_or d 0 0)) < number_of key = one_less _ _ less in
    both_ways _ (before _ (omega arith)) (ap (λ k. is_none (value_at k table)) there.1 ∙ ap is_none has.1))

pub missing_answers : (table : Members) → Clear (HasFault table) 2 → Answers (HasFault table) (λ u. missing_key table ≡ None) (refuse MissingKey (missing_key table))
missing_answers table clear = refuse_answers (HasFault table) MissingKey (missing_key table) (missing_first table clear)

pub none_missing : (table : Members) → missing_key table ≡ None → (key : Key) → IsRequired key → value_at key table ≢ None
none_missing table none key is_required absent =
    let there = required_in key is_required in
    both_ways _ (find-None (λ k. is_none (value_at k table)) required_keys (number_of key) Set none (rw length-required_keys there.0)) (ap (λ k. is_none (value_at k table)) there.1 ∙ ap is_none absent)

pub all_there : (table : Members) → Clear (HasFault table) 2 → missing_key table ≡ None → Clear (HasFault table) 3
all_there table clear none = clear_line (HasFault table) 2 clear (λ d has. none_missing table none _ has.0 has.1)
