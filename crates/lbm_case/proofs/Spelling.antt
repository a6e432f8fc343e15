-- What a value spells, and what is read of it.
use Rattle.std.proofs.Common.{◌≡◌, ℕ, List, [], ◌∷◌, map, length, ◌==◌, cond, ℤ, Option, Some, None, option_map, option_and_then, refl, sym, ap, ◌∙◌, arith}
use Rattle.std.proofs.lemmas.Bool.{eqb-true, eq-eqb}
use Rattle.std.proofs.lemmas.Option.{none-some, same_Some}
use Rattle.toml.specs.Data.{Data, string, integer, array, Items, no_items, item, as_integer, as_str, as_array}
use Rattle.toml.specs.View.{items_of}
use Rattle.lbm_case.specs.Settings.{each_in, integers_in, texts_in, set_in}
use Rattle.lbm_case.specs.Causes.{integers, texts, IsText, IsInteger, IsTexts, IsPair, IsTriple}
use Rattle.lbm_case.proofs.TextSizes.{chosen, stepped, mapped}

pub as_integer_is : (d : Data) (n : ℤ) → as_integer d ≡ Some n → d ≡ integer n
as_integer_is (integer m) n given = ap integer (same_Some _ _ given)
as_integer_is _ n given = absurd (none-some _ given)

pub as_str_is : (d : Data) (text : List ℕ) → as_str d ≡ Some text → d ≡ string text
as_str_is (string s) text given = ap string (same_Some _ _ given)
as_str_is _ text given = absurd (none-some _ given)

as_array_is : (d : Data) (ds : Items) → as_array d ≡ Some ds → d ≡ array ds
as_array_is (array es) ds given = ap array (same_Some _ _ given)
as_array_is _ ds given = absurd (none-some _ given)

-- the items of an array, each read by a form that tells what it was made of
each_in_is : {A : Type 0} (form : Data → Option A) (make : A → Data) → ((d : Data) (x : A) → form d ≡ Some x → d ≡ make x) → (ds : Items) (xs : List A) → each_in form ds ≡ Some xs → ds ≡ items_of (map make xs)
each_in_is form make is no_items xs given = let same = same_Some _ _ given in rw (← same) refl
each_in_is form make is (item d ds) xs given =
    stepped (λ x. option_map (λ ys. x ∷ ys) (each_in form ds)) (form d) xs
    (λ x here. mapped (λ ys. x ∷ ys) (each_in form ds) xs
    (λ ys more same.
    let first : d ≡ make x = is d x here in
    let rest : ds ≡ items_of (map make ys) = each_in_is form make is ds ys more in
    rw (← same) (rw (← first, ← rest) refl)))
    given

each_in_made : {A : Type 0} (form : Data → Option A) (make : A → Data) → ((x : A) → form (make x) ≡ Some x) → (xs : List A) → each_in form (items_of (map make xs)) ≡ Some xs
each_in_made form make is [] = refl
each_in_made form make is (x ∷ xs) = rw (is x, each_in_made form make is xs) refl

pub texts_in_is : (d : Data) (ts : List (List ℕ)) → texts_in d ≡ Some ts → d ≡ texts ts
texts_in_is d ts given =
    stepped (each_in as_str) (as_array d) ts
    (λ ds whole each. as_array_is d ds whole ∙ ap array (each_in_is as_str string as_str_is ds ts each))
    given

pub texts_in_texts : (ts : List (List ℕ)) → texts_in (texts ts) ≡ Some ts
texts_in_texts ts = each_in_made as_str string (λ x. refl) ts

pub integers_in_is : (n : ℕ) (d : Data) (ns : List ℤ) → integers_in n d ≡ Some ns → (d ≡ integers ns) × (length ns ≡ n)
integers_in_is n d ns given =
    stepped (λ xs. cond (length xs == n) (Some xs) None) (option_and_then (each_in as_integer) (as_array d)) ns
    (λ xs read kept. chosen (length xs == n) (Some xs) None (Some ns)
    (λ long same. stepped (each_in as_integer) (as_array d) xs
    (λ ds whole each. rw (← same_Some _ _ same) (as_array_is d ds whole ∙ ap array (each_in_is as_integer integer as_integer_is ds xs each), eqb-true _ _ long))
    read)
    (λ _ none. absurd (none-some _ none))
    kept)
    given

pub integers_in_integers : (n : ℕ) (ns : List ℤ) → length ns ≡ n → integers_in n (integers ns) ≡ Some ns
integers_in_integers n ns long = rw (each_in_made as_integer integer (λ x. refl) ns, eq-eqb (length ns) n long) refl

-- what is spelled determines what it spells
pub same_texts : (ts us : List (List ℕ)) → texts ts ≡ texts us → ts ≡ us
same_texts ts us same = same_Some _ _ (sym (texts_in_texts ts) ∙ (ap texts_in same ∙ texts_in_texts us))

pub same_integers : (ns ms : List ℤ) → length ns ≡ length ms → integers ns ≡ integers ms → ns ≡ ms
same_integers ns ms long same =
    same_Some _ _ (sym (integers_in_integers (length ms) ns long) ∙ (ap (integers_in (length ms)) same ∙ integers_in_integers (length ms) ms refl))

pub same_integer : (n m : ℤ) → integer n ≡ integer m → n ≡ m
same_integer n m same = cc

pub same_string : (s t : List ℕ) → string s ≡ string t → s ≡ t
same_string s t same = cc

-- the forms of the kinds
pub pair_of : (ns : List ℤ) → length ns ≡ 2 → (p : ℤ) × (q : ℤ) × (ns ≡ p ∷ q ∷ [])
pair_of [] long = absurd (omega arith)
pair_of (p ∷ []) long = absurd (omega arith)
pair_of (p ∷ q ∷ []) long = (p, q, refl)
pair_of (p ∷ q ∷ r ∷ ns) long = absurd (omega arith)

pub triple_of : (ns : List ℤ) → length ns ≡ 3 → (x : ℤ) × (y : ℤ) × (z : ℤ) × (ns ≡ x ∷ y ∷ z ∷ [])
triple_of [] long = absurd (omega arith)
triple_of (x ∷ []) long = absurd (omega arith)
triple_of (x ∷ y ∷ []) long = absurd (omega arith)
triple_of (x ∷ y ∷ z ∷ []) long = (x, y, z, refl)
triple_of (x ∷ y ∷ z ∷ u ∷ ns) long = absurd (omega arith)

pub no_text : (d : Data) → set_in d ≡ None → IsText d → ⊥
no_text d none text = none-some _ (sym none ∙ ap set_in text.1)

pub no_integer : (d : Data) → as_integer d ≡ None → IsInteger d → ⊥
no_integer d none known = none-some _ (sym none ∙ ap as_integer known.1)

pub no_texts : (d : Data) → texts_in d ≡ None → IsTexts d → ⊥
no_texts d none known = none-some _ (sym none ∙ (ap texts_in known.1 ∙ texts_in_texts known.0))

pub no_pair : (d : Data) → integers_in 2 d ≡ None → IsPair d → ⊥
no_pair d none known = none-some _ (sym none ∙ (ap (integers_in 2) known.2 ∙ integers_in_integers 2 (known.0 ∷ known.1 ∷ []) refl))

pub no_triple : (d : Data) → integers_in 3 d ≡ None → IsTriple d → ⊥
no_triple d none known = none-some _ (sym none ∙ (ap (integers_in 3) known.3 ∙ integers_in_integers 3 (known.0 ∷ known.1 ∷ known.2 ∷ []) refl))
