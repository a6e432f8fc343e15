-- The values of another kind, and what a document whose values are of their kinds is read as.
use Rattle.std.proofs.Common.{◌≡◌, ◌≢◌, ◌⊎◌, ℕ, ◌+◌, ◌<◌, List, length, get_or, ℤ, pos, Option, Some, None, Ok, ok_or, option_and_then, refl, sym, ap, ◌∙◌, subst, arith, inl, inr}
use Rattle.std.proofs.lemmas.Bool.{cases_eq}
use Rattle.std.proofs.lemmas.Option.{none-some, same_Some}
use Rattle.toml.specs.Data.{Data, string, integer, Members, as_integer, as_str}
use Rattle.lbm_space.specs.Stencil.{part}
use Rattle.lbm_model.specs.Sets.{set_named}
use Rattle.lbm_model.specs.declared.sets.SetKind.{SetKind}
use Rattle.lbm_case.specs.declared.key.Key.{Key}
use Rattle.lbm_case.specs.declared.key.Key.TheVariants.{Set, Omega, Map, Layers, Density, Digit, Momentum, Force, OmegaMinus, Wall}
use Rattle.lbm_case.specs.declared.fault.CaseFault.TheVariants.{WrongKind}
use Rattle.lbm_case.specs.Settings.{Settings, value_at, set_in, texts_in, integers_in, required, optional, zero_vector, settings_of}
use Rattle.lbm_case.specs.Causes.{number_of, integers, texts, IsInteger, IsTriple, IsOfKind, IsRequired, HasFault, IsFirstOf}
use Rattle.lbm_case.proofs.TextSizes.{mapped}
use Rattle.lbm_case.proofs.FaultOrder.{Clear, Answers, clear_line, first_on_line, then_read, read_as, refused_for, one_less, key_at, same_number, number_small}
use Rattle.lbm_case.proofs.Spelling.{as_integer_is, as_str_is, texts_in_is, integers_in_is, pair_of, triple_of, no_text, no_integer, no_texts, no_pair, no_triple}

-- ---- the keys so far

-- what stands at a key is of its kind
abbrev IsGood : Members → Key → Type 0
IsGood table key = (value : Data) → value_at key table ≡ Some value → IsOfKind key value

record AreGood (table : Members) (n : ℕ) : Type 0 where
  at : (key : Key) → number_of key < n → IsGood table key

one_more : (table : Members) (key : Key) → AreGood table (number_of key) → IsGood table key → AreGood table (number_of key + 1)
one_more table key good here = record {
  at = λ j less. elim (cases_eq (number_of j) (number_of key)) [
    | inl same ↦ subst (IsGood table) (sym (same_number j key same)) here
    | inr other ↦ good.at j (omega arith)
  ];
}

wrong_first : (table : Members) (key : Key) → Clear (HasFault table) 3 → AreGood table (number_of key) → (value : Data) → value_at key table ≡ Some value → (IsOfKind key value → ⊥)
    → IsFirstOf (HasFault table) (WrongKind key)
wrong_first table key clear good value at other =
    first_on_line (HasFault table) 3 (WrongKind key) clear refl (value, at, other)
    (λ d has less. let earlier : number_of (key_at (get_or d 0 0)) < number_of key = one_less _ _ less in has.2 (good.at _ earlier has.0 has.1))

-- ---- a form reads exactly the values of a kind, and Means says what it reads of them

record IsFormOf {A : Type 0} (form : Data → Option A) (key : Key) (Means : Data → A → Type 0) : Type 0 where
  none : (value : Data) → form value ≡ None → IsOfKind key value → ⊥
  some : (value : Data) (x : A) → form value ≡ Some x → Means value x
  kind : (value : Data) (x : A) → Means value x → IsOfKind key value

-- what is read at a key, and that its value is of its kind
pub record IsRead {A : Type 0} (Means : Data → A → Type 0) (key : Key) (table : Members) (x : A) : Type 0 where
  pub value : Data
  pub at : value_at key table ≡ Some value
  pub means : Means value x

abbrev pub IsReadOr : {A : Type 0} → (Data → A → Type 0) → A → Key → Members → A → Type 0
IsReadOr Means default key table x = IsRead Means key table x ⊎ ((value_at key table ≡ None) × (x ≡ default))

record IsGoodRead {A : Type 0} (P : A → Type 0) (table : Members) (n : ℕ) (x : A) : Type 0 where
  is : P x
  good : AreGood table n

good_at : {A : Type 0} (form : Data → Option A) (key : Key) (Means : Data → A → Type 0) (table : Members) → IsFormOf form key Means
    → (o : Option Data) → value_at key table ≡ o → (value : Data) (x : A) → o ≡ Some value → form value ≡ Some x → IsGood table key
good_at form key Means table is o at value x there read v here =
    let same : value ≡ v = same_Some _ _ (sym there ∙ (sym at ∙ here)) in
    subst (IsOfKind key) same (is.kind value x (is.some value x read))

-- a value that is there, read by its form
value_answers : {A : Type 0} (form : Data → Option A) (key : Key) (Means : Data → A → Type 0) (P : A → Type 0) (table : Members) → IsFormOf form key Means
    → Clear (HasFault table) 3 → AreGood table (number_of key) → (value : Data) → value_at key table ≡ Some value → ((x : A) → IsRead Means key table x → P x)
    → (o : Option A) → form value ≡ o → Answers (HasFault table) (IsGoodRead P table (number_of key + 1)) (ok_or o (WrongKind key))
value_answers form key Means P table is clear good value at give None read =
    refused_for (HasFault table) _ (WrongKind key) (wrong_first table key clear good value at (is.none value read))
value_answers form key Means P table is clear good value at give (Some x) read =
    read_as (HasFault table) _ x (record {
      is = give x (record { value = value; at = at; means = is.some value x read });
      good = one_more table key good (good_at form key Means table is (value_at key table) refl value x at read);
    })

required_at : {A : Type 0} (form : Data → Option A) (key : Key) (Means : Data → A → Type 0) (table : Members) → IsFormOf form key Means
    → Clear (HasFault table) 3 → AreGood table (number_of key) → (o : Option Data) → value_at key table ≡ o → o ≢ None
    → Answers (HasFault table) (IsGoodRead (IsRead Means key table) table (number_of key + 1)) (ok_or (option_and_then form o) (WrongKind key))
required_at form key Means table is clear good None at there = absurd (there refl)
required_at form key Means table is clear good (Some value) at there =
    value_answers form key Means (IsRead Means key table) table is clear good value at (λ x read. read) (form value) refl

required_answers : {A : Type 0} (form : Data → Option A) (key : Key) (Means : Data → A → Type 0) (table : Members) → IsFormOf form key Means
    → Clear (HasFault table) 3 → AreGood table (number_of key) → value_at key table ≢ None
    → Answers (HasFault table) (IsGoodRead (IsRead Means key table) table (number_of key + 1)) (required form key table)
required_answers form key Means table is clear good there = required_at form key Means table is clear good (value_at key table) refl there

optional_at : {A : Type 0} (form : Data → Option A) (default : A) (key : Key) (Means : Data → A → Type 0) (table : Members) → IsFormOf form key Means
    → Clear (HasFault table) 3 → AreGood table (number_of key) → (o : Option Data) → value_at key table ≡ o
    → Answers (HasFault table) (IsGoodRead (IsReadOr Means default key table) table (number_of key + 1))
    (elim o [ None ↦ Ok default | Some value ↦ ok_or (form value) (WrongKind key) ])
optional_at form default key Means table is clear good None at =
    read_as (HasFault table) _ default (record {
      is = inr (at, refl);
      good = one_more table key good (λ value there. absurd (none-some _ (sym at ∙ there)));
    })
optional_at form default key Means table is clear good (Some value) at =
    value_answers form key Means (IsReadOr Means default key table) table is clear good value at (λ x read. inl read) (form value) refl

optional_answers : {A : Type 0} (form : Data → Option A) (default : A) (key : Key) (Means : Data → A → Type 0) (table : Members) → IsFormOf form key Means
    → Clear (HasFault table) 3 → AreGood table (number_of key)
    → Answers (HasFault table) (IsGoodRead (IsReadOr Means default key table) table (number_of key + 1)) (optional form default key table)
optional_answers form default key Means table is clear good = optional_at form default key Means table is clear good (value_at key table) refl

-- ---- the forms

abbrev pub IsNamed : Data → Option SetKind → Type 0
IsNamed value set = (name : List ℕ) × (value ≡ string name) × (set ≡ set_named name)

abbrev pub SpellsInteger : Data → ℤ → Type 0
SpellsInteger value n = value ≡ integer n

abbrev pub SpellsTexts : Data → List (List ℕ) → Type 0
SpellsTexts value lines = value ≡ texts lines

abbrev pub SpellsIntegers : ℕ → Data → List ℤ → Type 0
SpellsIntegers n value numbers = (value ≡ integers numbers) × (length numbers ≡ n)

set_form : IsFormOf set_in Set IsNamed
set_form = record {
  none = no_text;
  some = λ value set read. mapped set_named (as_str value) set (λ name text is. (name, as_str_is value name text, sym is)) read;
  kind = λ value set named. (named.0, named.1);
}

rate_form : IsFormOf (integers_in 2) Omega (SpellsIntegers 2)
rate_form = record {
  none = no_pair;
  some = λ value numbers read. integers_in_is 2 value numbers read;
  kind = λ value numbers spells. let two = pair_of numbers spells.1 in (two.0, two.1, spells.0 ∙ ap integers two.2);
}

rows_form : IsFormOf texts_in Map SpellsTexts
rows_form = record {
  none = no_texts;
  some = λ value lines read. texts_in_is value lines read;
  kind = λ value lines spells. (lines, spells);
}

-- an integer, and three of them, at a key whose kind that is
integer_form : (key : Key) → ((value : Data) → IsOfKind key value → IsInteger value) → ((value : Data) → IsInteger value → IsOfKind key value) → IsFormOf as_integer key SpellsInteger
integer_form key from to = record {
  none = λ value none kind. no_integer value none (from value kind);
  some = as_integer_is;
  kind = λ value n spells. to value (n, spells);
}

vector_form : (key : Key) → ((value : Data) → IsOfKind key value → IsTriple value) → ((value : Data) → IsTriple value → IsOfKind key value) → IsFormOf (integers_in 3) key (SpellsIntegers 3)
vector_form key from to = record {
  none = λ value none kind. no_triple value none (from value kind);
  some = λ value numbers read. integers_in_is 3 value numbers read;
  kind = λ value numbers spells. let three = triple_of numbers spells.1 in to value (three.0, three.1, three.2, spells.0 ∙ ap integers three.3);
}

-- ---- all keys

-- what the settings of a document are
pub record IsReadFrom (table : Members) (s : Settings) : Type 0 where
  pub set : IsRead IsNamed Set table s.set
  pub rate : IsRead (SpellsIntegers 2) Omega table s.rate
  pub rows : IsRead SpellsTexts Map table s.rows
  pub layers : IsReadOr SpellsInteger (pos 1) Layers table s.layers
  pub density : IsReadOr SpellsInteger (pos 884736) Density table s.density
  pub digit : IsReadOr SpellsInteger (pos 0) Digit table s.digit
  pub momentum : IsReadOr (SpellsIntegers 3) zero_vector Momentum table s.momentum
  pub force : IsReadOr (SpellsIntegers 3) zero_vector Force table s.force
  pub rate_minus : IsReadOr SpellsInteger (part s.rate 0) OmegaMinus table s.rate_minus
  pub wall : IsReadOr (SpellsIntegers 3) zero_vector Wall table s.wall
  pub kinds : (key : Key) (value : Data) → value_at key table ≡ Some value → IsOfKind key value

pub settings_answers : (table : Members) → Clear (HasFault table) 3 → ((key : Key) → IsRequired key → value_at key table ≢ None) → Answers (HasFault table) (IsReadFrom table) (settings_of table)
unfolding settings_of
settings_answers table clear there =
    let Has = HasFault table in
    let none : AreGood table 0 = record { at = λ key less. absurd (omega arith) } in
    then_read Has _ _ (required set_in Set table) _ (required_answers set_in Set IsNamed table set_form clear none (there Set (inl refl))) (λ set is_set.
    then_read Has _ _ (required (integers_in 2) Omega table) _ (required_answers (integers_in 2) Omega (SpellsIntegers 2) table rate_form clear is_set.good (there Omega (inr (inl refl)))) (λ rate is_rate.
    then_read Has _ _ (required texts_in Map table) _ (required_answers texts_in Map SpellsTexts table rows_form clear is_rate.good (there Map (inr (inr refl)))) (λ rows is_rows.
    then_read Has _ _ (optional as_integer (pos 1) Layers table) _ (optional_answers as_integer (pos 1) Layers SpellsInteger table (integer_form Layers (λ v k. k) (λ v k. k)) clear is_rows.good) (λ layers is_layers.
    then_read Has _ _ (optional as_integer (pos 884736) Density table) _ (optional_answers as_integer (pos 884736) Density SpellsInteger table (integer_form Density (λ v k. k) (λ v k. k)) clear is_layers.good) (λ density is_density.
    then_read Has _ _ (optional as_integer (pos 0) Digit table) _ (optional_answers as_integer (pos 0) Digit SpellsInteger table (integer_form Digit (λ v k. k) (λ v k. k)) clear is_density.good) (λ digit is_digit.
    then_read Has _ _ (optional (integers_in 3) zero_vector Momentum table) _ (optional_answers (integers_in 3) zero_vector Momentum (SpellsIntegers 3) table (vector_form Momentum (λ v k. k) (λ v k. k)) clear is_digit.good) (λ momentum is_momentum.
    then_read Has _ _ (optional (integers_in 3) zero_vector Force table) _ (optional_answers (integers_in 3) zero_vector Force (SpellsIntegers 3) table (vector_form Force (λ v k. k) (λ v k. k)) clear is_momentum.good) (λ force is_force.
    then_read Has _ _ (optional as_integer (part rate 0) OmegaMinus table) _ (optional_answers as_integer (part rate 0) OmegaMinus SpellsInteger table (integer_form OmegaMinus (λ v k. k) (λ v k. k)) clear is_force.good) (λ rate_minus is_rate_minus.
    then_read Has _ _ (optional (integers_in 3) zero_vector Wall table) _ (optional_answers (integers_in 3) zero_vector Wall (SpellsIntegers 3) table (vector_form Wall (λ v k. k) (λ v k. k)) clear is_rate_minus.good) (λ wall is_wall.
    read_as Has _ _ (record {
      set = is_set.is;
      rate = is_rate.is;
      rows = is_rows.is;
      layers = is_layers.is;
      density = is_density.is;
      digit = is_digit.is;
      momentum = is_momentum.is;
      force = is_force.is;
      rate_minus = is_rate_minus.is;
      wall = is_wall.is;
      kinds = λ key value at. is_wall.good.at key (number_small key) value at;
    })))))))))))

pub all_of_kind : (table : Members) (s : Settings) → Clear (HasFault table) 3 → IsReadFrom table s → Clear (HasFault table) 4
all_of_kind table s clear is = clear_line (HasFault table) 3 clear (λ d has. has.2 (is.kinds _ has.0 has.1))
