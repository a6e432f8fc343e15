-- The table of a case file beside the map that holds it.
use Rattle.std.proofs.Common.{◌≡◌, ℕ, Bool, not, List, [], ◌∷◌, map, Option, Some, None, is_some, is_none, option_map, find, filter, inl, inr, Less, String, Global, string_bytes, refl, ap, ◌∙◌}
use Rattle.std.specs.List.{AllByRecursion}
use Rattle.std.specs.List.Sorted.{IsStrictlySortedBy}
use Rattle.std.specs.Option.{option_map_or}
use Rattle.std.specs.String.{string_cmp}
use Rattle.std.proofs.lemmas.Bool.{cases_Bool, cond_both}
use Rattle.std.proofs.lemmas.Option.{none-some, same_Some}
use Rattle.std.specs.Map.{keys_of, lookup}
use Rattle.std.specs.BTreeMap.{is_at}
use Rattle.std.specs.Cmp.Lexicographic.{slice_cmp}
use Rattle.std.specs.Ordering.{nat_cmp, is_lt}
use Rattle.toml.specs.declared.value.Value.{Value}
use Rattle.toml.specs.Data.{get_member}
use Rattle.toml.specs.View.{view, members_view}
use Rattle.toml.proofs.Views.{Entry, view-lookup}
use Rattle.lbm_case.specs.Keys.{is_known}
use Rattle.lbm_case.specs.Settings.{names_in, lesser, least, unknown_key}

absent : (o : Option Value) → not (is_some o) ≡ is_none (option_map view o)
absent None = refl
absent (Some v) = refl

-- nothing stands at a name that the map does not find
pub absent-lookup : (name : List ℕ) (es : List Entry) → not (is_some (lookup (is_at (λ k. slice_cmp nat_cmp name (string_bytes k))) es)) ≡ is_none (get_member name (members_view es))
absent-lookup name es = absent _ ∙ ap is_none (view-lookup name es)

pub names_in-view : (es : List Entry) → names_in (members_view es) ≡ map string_bytes (keys_of es)
names_in-view [] = refl
names_in-view (e ∷ es) = ap (λ names. string_bytes e.0 ∷ names) (names_in-view es)

-- the first of some names that is no key
abbrev pub first_unknown : List (String Global) → Option (List ℕ)
first_unknown names = find (λ name. not (is_known name)) (map string_bytes names)

-- the first of names that ascend is the least
lesser_above : (name a m : List ℕ) → slice_cmp nat_cmp name a ≡ Less → slice_cmp nat_cmp name m ≡ Less → slice_cmp nat_cmp name (lesser a m) ≡ Less
lesser_above name a m first other = cond_both (is_lt (slice_cmp nat_cmp a m)) a m (λ x. slice_cmp nat_cmp name x ≡ Less) (λ _. first) (λ _. other)

pick_above : (name a : List ℕ) (o : Option (List ℕ)) (other : List ℕ) → slice_cmp nat_cmp name a ≡ Less → ((m : List ℕ) → o ≡ Some m → slice_cmp nat_cmp name m ≡ Less)
    → option_map_or (lesser a) o a ≡ other → slice_cmp nat_cmp name other ≡ Less
pick_above name a None other first others is = rw (← is) first
pick_above name a (Some m) other first others is = rw (← is) (lesser_above name a m first (others m refl))

above : (p : List ℕ → Bool) (name : List ℕ) (ks : List (String Global)) (other : List ℕ) → AllByRecursion (λ k. slice_cmp nat_cmp name (string_bytes k) ≡ Less) ks
    → least (filter p (map string_bytes ks)) ≡ Some other → slice_cmp nat_cmp name other ≡ Less
above p name [] other below given = absurd (none-some _ given)
above p name (k ∷ ks) other below given =
    let more : (m : List ℕ) → least (filter p (map string_bytes ks)) ≡ Some m → slice_cmp nat_cmp name m ≡ Less = λ m is. above p name ks m below.1 is in
    elim (cases_Bool (p (string_bytes k))) [
      | inl passes ↦ pick_above name (string_bytes k) (least (filter p (map string_bytes ks))) other below.0 more (same_Some _ _ (rw passes at given))
      | inr fails ↦ more other (rw fails at given)
    ]

keeps_first : (a : List ℕ) (o : Option (List ℕ)) → ((m : List ℕ) → o ≡ Some m → slice_cmp nat_cmp a m ≡ Less) → option_map_or (lesser a) o a ≡ a
keeps_first a None above = refl
keeps_first a (Some m) above = rw (above m refl) refl

least_is_first : (p : List ℕ → Bool) (ks : List (String Global)) → IsStrictlySortedBy string_cmp ks → least (filter p (map string_bytes ks)) ≡ find p (map string_bytes ks)
unfolding IsStrictlySortedBy
least_is_first p [] sorted = refl
least_is_first p (k ∷ ks) sorted = elim (cases_Bool (p (string_bytes k))) [
  | inl passes ↦ rw passes (ap Some (keeps_first (string_bytes k) (least (filter p (map string_bytes ks))) (λ m is. above p (string_bytes k) ks m sorted.0 is)))
  | inr fails ↦ rw fails (least_is_first p ks sorted.1)
]

pub first_unknown-keys : (es : List Entry) → IsStrictlySortedBy string_cmp (keys_of es) → unknown_key (members_view es) ≡ first_unknown (keys_of es)
first_unknown-keys es sorted =
    ap (λ names. least (filter (λ name. not (is_known name)) names)) (names_in-view es) ∙ least_is_first (λ name. not (is_known name)) (keys_of es) sorted
