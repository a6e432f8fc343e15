-- The forms of values beside the values that have them.
use Rattle.std.proofs.Common.{◌≡◌, ℕ, suc, ◌+◌, ◌<◌, Bool, true, false, ◌&&◌, cond, eqb, List, [], ◌∷◌, ◌++◌, length, take, drop, set, get_or, ℤ, Option, Some, None, is_some, option_map, option_and_then, refl, ap, sym, ◌∙◌, append_assoc, append-nil, ◌≤◌, inl, inr}
use Rattle.std.specs.List.{list_all}
use Rattle.std.proofs.lemmas.Bool.{cases_Bool, eq-eqb, ne_eqb}
use Rattle.std.proofs.lemmas.List.{take_more_set, take_all, drop_all}
use Rattle.toml.specs.declared.value.Value.{Value}
use Rattle.toml.specs.Data.{Data, as_integer, as_str, array, string}
use Rattle.toml.specs.View.{view, items_view}
use Rattle.toml.proofs.Views.{items_view-drop}
use Rattle.lbm_case.specs.Settings.{each_in, integers_in, texts_in}
use Rattle.lbm_case.specs.Views.{text_of, texts_view}

-- these numbers before those
abbrev pub before : List ℤ → Option (List ℤ) → Option (List ℤ)
before front = option_map (λ xs. front ++ xs)

longer : (o : Option ℤ) (r : Option (List ℤ)) (n : ℕ) → ((xs : List ℤ) → r ≡ Some xs → length xs ≡ n) → (xs : List ℤ) → option_and_then (λ x. option_map (λ ys. x ∷ ys) r) o ≡ Some xs → length xs ≡ suc n
longer None r n h xs e = cc
longer (Some x) None n h xs e = cc
longer (Some x) (Some ys) n h xs e = let k : length ys ≡ n = h ys refl in let same : x ∷ ys ≡ xs = cc in rw (← same, k)

each_in-length : (vs : List Value) (xs : List ℤ) → each_in as_integer (items_view vs) ≡ Some xs → length xs ≡ length vs
each_in-length [] xs e = let same : [] ≡ xs = cc in rw (← same)
each_in-length (v ∷ vs) xs e = longer (as_integer (view v)) (each_in as_integer (items_view vs)) (length vs) (each_in-length vs) xs e

of_length : (n m : ℕ) (o : Option (List ℤ)) → ((xs : List ℤ) → o ≡ Some xs → length xs ≡ m) → option_and_then (λ xs. cond (eqb (length xs) n) (Some xs) None) o ≡ cond (eqb m n) o None
of_length n m None h = elim (cases_Bool (eqb m n)) [ inl e ↦ rw e | inr e ↦ rw e ]
of_length n m (Some xs) h = rw (h xs refl)

-- an array of exactly n items, each of them an integer
integers_in-view : (n : ℕ) (vs : List Value) → integers_in n (array (items_view vs)) ≡ cond (eqb (length vs) n) (each_in as_integer (items_view vs)) None
integers_in-view n vs = of_length n (length vs) (each_in as_integer (items_view vs)) (each_in-length vs)

pub integers_in-other_length : (n : ℕ) (vs : List Value) → (length vs ≡ n → ⊥) → integers_in n (array (items_view vs)) ≡ None
integers_in-other_length n vs other = integers_in-view n vs ∙ rw (ne_eqb _ _ other) refl

pub integers_in-same_length : (n : ℕ) (vs : List Value) → length vs ≡ n → integers_in n (array (items_view vs)) ≡ each_in as_integer (items_view vs)
integers_in-same_length n vs same = integers_in-view n vs ∙ rw (eq-eqb _ _ same) refl

-- before any item, at an item that is no integer, at one that is, and after all items
pub before_none : (r : Option (List ℤ)) → before [] r ≡ r
before_none None = refl
before_none (Some xs) = refl

pub before_other : (front : List ℤ) (vs : List Value) (i : ℕ) (v : Value) → i < length vs → v ≡ get_or vs i v → as_integer (view v) ≡ None
    → before front (each_in as_integer (items_view (drop i vs))) ≡ None
before_other front vs i v within at none = rw (items_view-drop vs i v within, ← at, none) refl

before-before : (front : List ℤ) (x : ℤ) (r : Option (List ℤ)) → before front (option_map (λ xs. x ∷ xs) r) ≡ before (front ++ x ∷ []) r
before-before front x None = refl
before-before front x (Some xs) = ap Some (sym (append_assoc front (x ∷ []) xs))

pub before_integer : (ns : List ℤ) (vs : List Value) (i : ℕ) (v : Value) (x : ℤ) → i < length ns → i < length vs → v ≡ get_or vs i v → as_integer (view v) ≡ Some x
    → before (take (i + 1) (set ns i x)) (each_in as_integer (items_view (drop (i + 1) vs))) ≡ before (take i ns) (each_in as_integer (items_view (drop i vs)))
before_integer ns vs i v x room within at some = rw (take_more_set ns i x room, items_view-drop vs i v within, ← at, some) (sym (before-before (take i ns) x _))

pub before_all : (ns : List ℤ) (vs : List Value) (n : ℕ) → length ns ≤ n → length vs ≤ n → before (take n ns) (each_in as_integer (items_view (drop n vs))) ≡ Some ns
before_all ns vs n short few = rw (take_all n ns short, drop_all n vs few, append-nil) refl

-- an array of texts
all_texts : (d : Data) (r : Option (List (List ℕ))) (ts : List (List ℕ)) (b : Bool) → r ≡ cond b (Some ts) None
    → option_and_then (λ x. option_map (λ xs. x ∷ xs) r) (as_str d) ≡ cond (is_some (as_str d) && b) (Some (text_of d ∷ ts)) None
all_texts (string t) r ts true e = rw e
all_texts (string t) r ts false e = rw e
all_texts _ r ts b e = refl

pub texts_in-view : (vs : List Value) → texts_in (array (items_view vs)) ≡ cond (list_all (λ v. is_some (as_str (view v))) vs) (Some (texts_view vs)) None
texts_in-view [] = refl
texts_in-view (v ∷ vs) = all_texts (view v) _ (texts_view vs) _ (texts_in-view vs)
