-- The numbers that are out of their ranges.
use Rattle.std.proofs.Common.{◌≡◌, ℕ, ◌<◌, ◌≤◌, Bool, true, false, not, ◌&&◌, if◌then◌else◌, List, [], ◌∷◌, get_or, Option, Some, None, find, ℤ, pos, unsigned_abs, T, refl, sym, ap, ◌∙◌, subst, arith, inl, inr, bytes_eq}
use Rattle.std.proofs.lemmas.Bool.{cases_Bool, both_ways, not-true, not-false, and_parts, and_from, or_cases, or_left, or_right, leb-true, le-leb}
use Rattle.std.proofs.lemmas.Bool.Decides.{Decides-int_eq}
use Rattle.std.proofs.lemmas.Int.{ints}
use Rattle.std.proofs.lemmas.Option.{none-some, same_Some}
use Rattle.std.proofs.lemmas.Slice.Eq.{bytes_eq-Decides}
use Rattle.toml.specs.Data.{Data, string, Members}
use Rattle.lbm_space.specs.Stencil.{part}
use Rattle.lbm_model.specs.Sets.{set_named, name_of as set_name}
use Rattle.lbm_model.specs.declared.sets.SetKind.{SetKind}
use Rattle.lbm_model.specs.declared.sets.SetKind.TheVariants.{D2Q9, D3Q19, D3Q15, D3Q27}
use Rattle.lbm_case.specs.declared.key.Key.{Key}
use Rattle.lbm_case.specs.declared.key.Key.TheVariants.{Set, Omega, Map, Layers, Density, Digit, Momentum, Force, OmegaMinus, Wall}
use Rattle.lbm_case.specs.declared.fault.CaseFault.TheVariants.{BadNumber}
use Rattle.lbm_case.specs.Keys.{all_keys}
use Rattle.lbm_case.specs.Refusals.{refuse}
use Rattle.lbm_case.specs.Settings.{Settings, value_at, zero_vector}
use Rattle.lbm_case.specs.Numbers.{is_plane, is_between, is_rate, is_vector, is_in_range, bad_number}
use Rattle.lbm_case.specs.Causes.{number_of, integers, NamesSet, IsBetween, IsRate, IsVector, IsIntegerBetween, IsInRange, HasFault, IsFirstOf}
use Rattle.lbm_case.proofs.TextSizes.{chosen}
use Rattle.lbm_case.proofs.Ranges.{in_range_at, at_most, below}
use Rattle.lbm_case.proofs.FaultOrder.{Clear, Answers, clear_line, first_on_line, refuse_answers, one_less, key_at}
use Rattle.lbm_case.proofs.KeyFaults.{key_in, length-all_keys, numbered, find_first}
use Rattle.lbm_case.proofs.Spelling.{same_integer, same_integers, same_string, pair_of, triple_of}
use Rattle.lbm_case.proofs.KindFaults.{IsReadOr, SpellsInteger, SpellsIntegers, IsReadFrom}

-- ---- the tests, and what they test

passed_test : (b : Bool) → T b → b ≡ true
passed_test true t = refl
passed_test false t = absurd t

pub between_from : (low high n : ℤ) → is_between low high n ≡ true → IsBetween low high n
between_from low high n passed = let parts = and_parts _ _ passed in (at_most low n parts.0, at_most n high parts.1)

pub between_test : (low high n : ℤ) → IsBetween low high n → is_between low high n ≡ true
between_test low high n is = and_from _ _ (passed_test _ is.0.le) (passed_test _ is.1.le)

rate_from : (n q : ℤ) → is_rate n q ≡ true → IsRate n q
rate_from n q passed = let parts = and_parts _ _ passed in (between_from _ _ n parts.0, below _ _ parts.1)

rate_test : (n q : ℤ) → IsRate n q → is_rate n q ≡ true
rate_test n q is = and_from _ _ (between_test _ _ n is.0) (passed_test _ is.1.lt)

-- ---- what is read

pub read_there : {A : Type 0} (Means : Data → A → Type 0) (default : A) (key : Key) (table : Members) (x : A) → IsReadOr Means default key table x → (value : Data) → value_at key table ≡ Some value → Means value x
read_there Means default key table x (inl read) value there = subst (λ v. Means v x) (same_Some _ _ (sym read.at ∙ there)) read.means
read_there Means default key table x (inr absent) value there = absurd (none-some _ (sym absent.0 ∙ there))

pub read_absent : {A : Type 0} (Means : Data → A → Type 0) (default : A) (key : Key) (table : Members) (x : A) → IsReadOr Means default key table x → value_at key table ≡ None → x ≡ default
read_absent Means default key table x (inl read) none = absurd (none-some _ (sym none ∙ read.at))
read_absent Means default key table x (inr absent) none = absent.1

-- ---- the velocity set

pub written_named : (set : SetKind) → set_named (set_name set) ≡ Some set
written_named D2Q9 = refl
written_named D3Q19 = refl
written_named D3Q15 = refl
written_named D3Q27 = refl

-- what is found passes the test
find_passes : {X : Type 0} (p : X → Bool) (xs : List X) (x : X) → find p xs ≡ Some x → p x ≡ true
find_passes p [] x found = absurd (none-some _ found)
find_passes p (y ∷ ys) x found =
    chosen (p y) (Some y) (find p ys) (Some x) (λ passed same. ap p (sym (same_Some _ _ same)) ∙ passed) (λ _ rest. find_passes p ys x rest) found

pub named_is : (name : List ℕ) (set : SetKind) → set_named name ≡ Some set → name ≡ set_name set
named_is name set named = (bytes_eq-Decides name (set_name set)).0 (find_passes (λ s. bytes_eq name (set_name s)) (D2Q9 ∷ D3Q19 ∷ D3Q15 ∷ D3Q27 ∷ []) set named)

pub names_set : (table : Members) (s : Settings) → IsReadFrom table s → (set : SetKind) → s.set ≡ Some set → NamesSet table set
names_set table s is set named =
    let name = is.set.means.0 in
    let same : name ≡ set_name set = named_is name set (sym is.set.means.2 ∙ named) in
    is.set.at ∙ ap Some (is.set.means.1 ∙ ap string same)

pub set_named_by : (table : Members) (s : Settings) → IsReadFrom table s → (set : SetKind) → NamesSet table set → s.set ≡ Some set
set_named_by table s is set names =
    let name = is.set.means.0 in
    let same : name ≡ set_name set = same_string _ _ (sym is.set.means.1 ∙ same_Some _ _ (sym is.set.at ∙ names)) in
    is.set.means.2 ∙ (ap set_named same ∙ written_named set)

plane_is : (o : Option SetKind) → is_plane o ≡ true → o ≡ Some D2Q9
plane_is (Some D2Q9) plane = refl
plane_is (Some D3Q19) plane = absurd cc
plane_is (Some D3Q15) plane = absurd cc
plane_is (Some D3Q27) plane = absurd cc
plane_is None plane = absurd cc

names_plane : (table : Members) (s : Settings) → IsReadFrom table s → is_plane s.set ≡ true → NamesSet table D2Q9
names_plane table s is plane = names_set table s is D2Q9 (plane_is s.set plane)

plane_named : (table : Members) (s : Settings) → IsReadFrom table s → NamesSet table D2Q9 → is_plane s.set ≡ true
plane_named table s is names = ap is_plane (set_named_by table s is D2Q9 names)

-- ---- vectors

vector_from : (plane : Bool) (size : ℕ) (x y z : ℤ) → is_vector plane size (x ∷ y ∷ z ∷ []) ≡ true
    → (unsigned_abs x ≤ size) × (unsigned_abs y ≤ size) × (unsigned_abs z ≤ size) × (plane ≡ true → z ≡ pos 0)
vector_from plane size x y z passed =
    let both = and_parts _ _ passed in
    let first = and_parts _ _ both.0 in
    let second = and_parts _ _ first.1 in
    let third = and_parts _ _ second.1 in (
      leb-true _ _ first.0,
      leb-true _ _ second.0,
      leb-true _ _ third.0,
      λ flat. elim (or_cases _ _ both.1) [
        | inl other ↦ absurd (both_ways _ (not-true _ other) flat)
        | inr none ↦ (Decides-int_eq z (pos 0)).0 none
      ],
    )

vector_test : (plane : Bool) (size : ℕ) (x y z : ℤ) → unsigned_abs x ≤ size → unsigned_abs y ≤ size → unsigned_abs z ≤ size → (plane ≡ true → z ≡ pos 0) → is_vector plane size (x ∷ y ∷ z ∷ []) ≡ true
vector_test plane size x y z small_x small_y small_z flat =
    and_from _ _
    (and_from _ _ (le-leb _ _ small_x) (and_from _ _ (le-leb _ _ small_y) (and_from _ _ (le-leb _ _ small_z) refl)))
    (elim (cases_Bool plane) [
      | inl is ↦ or_right _ _ ((Decides-int_eq z (pos 0)).1 (flat is))
      | inr other ↦ or_left _ _ (ap not other)
    ])

no_vector : (plane : Bool) (size : ℕ) → is_vector plane size zero_vector ≡ true
no_vector plane size = vector_test plane size (pos 0) (pos 0) (pos 0) (omega arith) (omega arith) (omega arith) (λ is. refl)

-- ---- a key whose test says what its range is

-- of a value that is there the test passes exactly where it is in range, and it passes where none is there
record IsTested (table : Members) (s : Settings) (key : Key) : Type 0 where
  sound : is_in_range s key ≡ true → (value : Data) → value_at key table ≡ Some value → IsInRange table key value
  whole : (value : Data) → value_at key table ≡ Some value → IsInRange table key value → is_in_range s key ≡ true

between_tested : (low high default n : ℤ) (key : Key) (table : Members) → IsReadOr SpellsInteger default key table n
    → (is_between low high n ≡ true → (value : Data) → value_at key table ≡ Some value → IsIntegerBetween low high value)
    × ((value : Data) → value_at key table ≡ Some value → IsIntegerBetween low high value → is_between low high n ≡ true)
between_tested low high default n key table read = (
  λ passed value there m spells. subst (IsBetween low high) (same_integer n m (sym (read_there SpellsInteger default key table n read value there) ∙ spells)) (between_from low high n passed),
  λ value there known. between_test low high n (known n (read_there SpellsInteger default key table n read value there)),
)

vector_tested : (size : ℕ) (default u : List ℤ) (key : Key) (table : Members) (s : Settings) → IsReadFrom table s → IsReadOr (SpellsIntegers 3) default key table u
    → (is_vector (is_plane s.set) size u ≡ true → (value : Data) → value_at key table ≡ Some value → IsVector table size value)
    × ((value : Data) → value_at key table ≡ Some value → IsVector table size value → is_vector (is_plane s.set) size u ≡ true)
vector_tested size default u key table s is read = (
  λ passed value there x y z spells.
      let means = read_there (SpellsIntegers 3) default key table u read value there in
      let same : u ≡ x ∷ y ∷ z ∷ [] = same_integers u (x ∷ y ∷ z ∷ []) means.1 (sym means.0 ∙ spells) in
      let known = vector_from (is_plane s.set) size x y z (subst (λ v. is_vector (is_plane s.set) size v ≡ true) same passed) in
      (known.0, known.1, known.2, λ names. known.3 (plane_named table s is names)),
  λ value there known.
      let means = read_there (SpellsIntegers 3) default key table u read value there in
      let three = triple_of u means.1 in
      let parts = known three.0 three.1 three.2 (means.0 ∙ ap integers three.3) in
      subst (λ v. is_vector (is_plane s.set) size v ≡ true) (sym three.3) (vector_test (is_plane s.set) size three.0 three.1 three.2 parts.0 parts.1 parts.2 (λ plane. parts.3 (names_plane table s is plane))),
)

layers_sound : (plane : Bool) (n : ℤ) → is_between (pos 1) (if plane then pos 1 else pos 4096) n ≡ true → IsBetween (pos 1) (pos 4096) n × (plane ≡ true → n ≡ pos 1)
layers_sound true n passed = let known = between_from (pos 1) (pos 1) n passed in let low = known.0 in let high = known.1 in ((low, omega (arith, ints)), λ plane. omega (arith, ints))
layers_sound false n passed = (between_from (pos 1) (pos 4096) n passed, λ plane. absurd cc)

layers_whole : (plane : Bool) (n : ℤ) → IsBetween (pos 1) (pos 4096) n → (plane ≡ true → n ≡ pos 1) → is_between (pos 1) (if plane then pos 1 else pos 4096) n ≡ true
layers_whole true n known one = rw (one refl) refl
layers_whole false n known one = between_test (pos 1) (pos 4096) n known

rate_of : (table : Members) (s : Settings) → IsReadFrom table s → (p q : ℤ) → value_at Omega table ≡ Some (integers (p ∷ q ∷ [])) → s.rate ≡ p ∷ q ∷ []
rate_of table s is p q there = same_integers s.rate (p ∷ q ∷ []) is.rate.means.1 (sym is.rate.means.0 ∙ same_Some _ _ (sym is.rate.at ∙ there))

tested : (table : Members) (s : Settings) → IsReadFrom table s → (key : Key) → IsTested table s key
tested table s is Set = record { sound = λ passed value there. tt; whole = λ value there known. refl }
tested table s is Omega = record {
  sound = λ passed value there p q spells.
      let same : s.rate ≡ p ∷ q ∷ [] = rate_of table s is p q (there ∙ ap Some spells) in
      let parts = and_parts _ _ (subst (λ r. (is_between (pos 1) (pos 1024) (part r 1) && is_rate (part r 0) (part r 1)) ≡ true) same passed) in
      (between_from _ _ q parts.0, rate_from p q parts.1);
  whole = λ value there known.
      let two = pair_of s.rate is.rate.means.1 in
      let spelled : value ≡ integers (two.0 ∷ two.1 ∷ []) = same_Some _ _ (sym there ∙ is.rate.at) ∙ (is.rate.means.0 ∙ ap integers two.2) in
      let parts = known two.0 two.1 spelled in
      subst (λ r. (is_between (pos 1) (pos 1024) (part r 1) && is_rate (part r 0) (part r 1)) ≡ true) (sym two.2) (and_from _ _ (between_test _ _ two.1 parts.0) (rate_test two.0 two.1 parts.1));
}
tested table s is Map = record { sound = λ passed value there. tt; whole = λ value there known. refl }
tested table s is Layers = record {
  sound = λ passed value there n spells.
      let same : s.layers ≡ n = same_integer _ _ (sym (read_there SpellsInteger (pos 1) Layers table s.layers is.layers value there) ∙ spells) in
      let known = layers_sound (is_plane s.set) n (subst (λ m. is_between (pos 1) (if is_plane s.set then pos 1 else pos 4096) m ≡ true) same passed) in
      (known.0, λ names. known.1 (plane_named table s is names));
  whole = λ value there known.
      let parts = known s.layers (read_there SpellsInteger (pos 1) Layers table s.layers is.layers value there) in
      layers_whole (is_plane s.set) s.layers parts.0 (λ plane. parts.1 (names_plane table s is plane));
}
tested table s is Density = let known = between_tested (pos 442368) (pos 1769472) (pos 884736) s.density Density table is.density in record { sound = known.0; whole = known.1 }
tested table s is Digit = let known = between_tested (pos 0) (pos 200000) (pos 0) s.digit Digit table is.digit in record { sound = known.0; whole = known.1 }
tested table s is Momentum = let known = vector_tested 884736 zero_vector s.momentum Momentum table s is is.momentum in record { sound = known.0; whole = known.1 }
tested table s is Force = let known = vector_tested 1024 zero_vector s.force Force table s is is.force in record { sound = known.0; whole = known.1 }
tested table s is OmegaMinus = record {
  sound = λ passed value there m p q spells omega_is.
      let same : s.rate_minus ≡ m = same_integer _ _ (sym (read_there SpellsInteger (part s.rate 0) OmegaMinus table s.rate_minus is.rate_minus value there) ∙ spells) in
      let rate = rate_of table s is p q omega_is in
      rate_from m q (subst (λ n. is_rate n q ≡ true) same (subst (λ r. is_rate s.rate_minus (part r 1) ≡ true) rate passed));
  whole = λ value there known.
      let two = pair_of s.rate is.rate.means.1 in
      let spelled = is.rate.at ∙ ap Some (is.rate.means.0 ∙ ap integers two.2) in
      let minus = known s.rate_minus two.0 two.1 (read_there SpellsInteger (part s.rate 0) OmegaMinus table s.rate_minus is.rate_minus value there) spelled in
      subst (λ r. is_rate s.rate_minus (part r 1) ≡ true) (sym two.2) (rate_test s.rate_minus two.1 minus);
}
tested table s is Wall = let known = vector_tested 1024 zero_vector s.wall Wall table s is is.wall in record { sound = known.0; whole = known.1 }

-- a key that is absent is in range: the second rate where the first one is
absent_in_range : (table : Members) (s : Settings) → IsReadFrom table s → (key : Key) → value_at key table ≡ None → ((j : Key) → number_of j < number_of key → is_in_range s j ≡ true) → is_in_range s key ≡ true
absent_in_range table s is Set none earlier = refl
absent_in_range table s is Omega none earlier = absurd (none-some _ (sym none ∙ is.rate.at))
absent_in_range table s is Map none earlier = refl
absent_in_range table s is Layers none earlier = rw (read_absent SpellsInteger (pos 1) Layers table s.layers is.layers none) (layers_whole (is_plane s.set) (pos 1) (record { le = tt }, record { le = tt }) (λ plane. refl))
absent_in_range table s is Density none earlier = rw (read_absent SpellsInteger (pos 884736) Density table s.density is.density none) refl
absent_in_range table s is Digit none earlier = rw (read_absent SpellsInteger (pos 0) Digit table s.digit is.digit none) refl
absent_in_range table s is Momentum none earlier = rw (read_absent (SpellsIntegers 3) zero_vector Momentum table s.momentum is.momentum none) (no_vector (is_plane s.set) 884736)
absent_in_range table s is Force none earlier = rw (read_absent (SpellsIntegers 3) zero_vector Force table s.force is.force none) (no_vector (is_plane s.set) 1024)
absent_in_range table s is OmegaMinus none earlier =
    rw (read_absent SpellsInteger (part s.rate 0) OmegaMinus table s.rate_minus is.rate_minus none) (and_parts _ _ (earlier Omega (omega arith))).1
absent_in_range table s is Wall none earlier = rw (read_absent (SpellsIntegers 3) zero_vector Wall table s.wall is.wall none) (no_vector (is_plane s.set) 1024)

-- ---- the first key out of range

out_of_range : (table : Members) (s : Settings) → IsReadFrom table s → (key : Key) → is_in_range s key ≡ false → ((j : Key) → number_of j < number_of key → is_in_range s j ≡ true)
    → (o : Option Data) → value_at key table ≡ o → HasFault table (BadNumber key)
out_of_range table s is key fails earlier None none = absurd (both_ways _ fails (absent_in_range table s is key none earlier))
out_of_range table s is key fails earlier (Some value) there = (value, there, λ known. both_ways _ fails ((tested table s is key).whole value there known))

bad_first : (table : Members) (s : Settings) → Clear (HasFault table) 4 → IsReadFrom table s → (key : Key) → bad_number s ≡ Some key → IsFirstOf (HasFault table) (BadNumber key)
bad_first table s clear is key found =
    let (i, within, at, fails, before) = find_first (λ k. not (is_in_range s k)) all_keys Set key found in
    let few : i < 10 = rw length-all_keys at within in
    let number : number_of key ≡ i = ap number_of (sym at) ∙ numbered i few in
    let earlier : (j : Key) → number_of j < number_of key → is_in_range s j ≡ true = λ j less. not-false _ (ap (λ k. not (is_in_range s k)) (sym (key_in j)) ∙ before (number_of j) (omega arith)) in
    first_on_line (HasFault table) 4 (BadNumber key) clear refl (out_of_range table s is key (not-true _ fails) earlier (value_at key table) refl)
    (λ d has less. let before_it : number_of (key_at (get_or d 0 0)) < number_of key = one_less _ _ less in has.2 ((tested table s is _).sound (earlier _ before_it) has.0 has.1))

pub bad_answers : (table : Members) (s : Settings) → Clear (HasFault table) 4 → IsReadFrom table s → Answers (HasFault table) (λ u. bad_number s ≡ None) (refuse BadNumber (bad_number s))
bad_answers table s clear is = refuse_answers (HasFault table) BadNumber (bad_number s) (bad_first table s clear is)

pub all_in_range : (table : Members) (s : Settings) → Clear (HasFault table) 4 → IsReadFrom table s → bad_number s ≡ None → Clear (HasFault table) 5
all_in_range table s clear is none = clear_line (HasFault table) 4 clear (λ d has. has.2 ((tested table s is _).sound (in_range_at s none _) has.0 has.1))
