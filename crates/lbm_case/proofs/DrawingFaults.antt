-- The faults of a drawing.
use Rattle.std.proofs.Common.{◌≡◌, ◌≢◌, ◌⊎◌, if◌then◌else◌, ℕ, ◌%◌, ◌<◌, ◌≤◌, Bool, true, false, not, ◌||◌, ◌==◌, List, [], map, length, get_or, nat_lt, chars, Option, Some, None, option_map, option_and_then, pos, unsigned_abs, refl, sym, ap, ◌∙◌, subst, arith, inl, inr, Equal, Less, ok_or}
use Rattle.std.specs.List.{position, list_any}
use Rattle.std.specs.Option.{option_or}
use Rattle.std.proofs.lemmas.Bool.{cases_Bool, both_ways, not-true, not-false, and_parts, and_from, or_right, leb-true, le-leb, ltb-true, ltb-false, eqb-true, eqb-false, ne_eqb, cond-true, cond-false}
use Rattle.std.proofs.lemmas.Int.{ints}
use Rattle.std.proofs.lemmas.List.Quantifiers.{position-Some}
use Rattle.std.proofs.lemmas.Option.{none-some, same_Some, cond_some}
use Rattle.toml.specs.Data.{integer, Members}
use Rattle.lbm_space.specs.Torus.{Torus, IsSpace}
use Rattle.lbm_model.specs.Sets.{stencil_of}
use Rattle.lbm_model.specs.Sets.{set_named}
use Rattle.lbm_model.specs.declared.sets.SetKind.{SetKind}
use Rattle.lbm_case.specs.declared.key.Key.TheVariants.{Layers}
use Rattle.lbm_case.specs.declared.fault.CaseFault.TheVariants.{BadSet, EmptyMap, Ragged, BadChar, TooLarge}
use Rattle.lbm_model.specs.Refusals.{demand}
use Rattle.lbm_case.specs.Refusals.{refuse}
use Rattle.lbm_case.specs.Settings.{Settings}
use Rattle.lbm_case.specs.Numbers.{bad_number}
use Rattle.lbm_case.specs.Drawing.{dot, hash, equals, is_digit, is_strange, row, width, other_row, undivided, ragged, strange_place, box_of}
use Rattle.lbm_case.specs.CaseOf.{drawing_of, box_drawn, space_drawn}
use Rattle.lbm_case.specs.Causes.{HasRows, HasLayers, IsCell, IsOtherRow, IsStrangeAt, HasFault, IsFirstOf}
use Rattle.lbm_case.proofs.TextSizes.{stepped, mapped}
use Rattle.lbm_case.proofs.Places.{any_at, position_none_at, list_any-nowhere}
use Rattle.lbm_case.proofs.Boxes.{IsSpace-from_is_space, is_space-from_IsSpace, two_or_three}
use Rattle.lbm_case.proofs.Even.{no_other}
use Rattle.lbm_case.proofs.Ranges.{layers_within}
use Rattle.lbm_case.proofs.FaultOrder.{Clear, Answers, clear_line, first_on_line, ok_or_answers, refuse_answers, demand_answers, one_less, two_less}
use Rattle.lbm_case.proofs.Spelling.{same_integer, same_string, same_texts}
use Rattle.lbm_case.proofs.KindFaults.{IsReadFrom, SpellsInteger}
use Rattle.lbm_case.proofs.RangeFaults.{read_there, read_absent, written_named, names_set, set_named_by}

-- two faults without a detail are one
no_detail : Equal ≡ Less → ⊥
no_detail less = cc

-- ---- the velocity set

bad_set_first : (table : Members) (s : Settings) → Clear (HasFault table) 5 → IsReadFrom table s → s.set ≡ None → IsFirstOf (HasFault table) BadSet
bad_set_first table s clear is none =
    first_on_line (HasFault table) 5 BadSet clear refl
    (is.set.means.0, is.set.at ∙ ap Some is.set.means.1, λ set same. none-some _ (sym none ∙ (is.set.means.2 ∙ (ap set_named same ∙ written_named set))))
    (λ d has less. no_detail less)

pub set_answers : (table : Members) (s : Settings) → Clear (HasFault table) 5 → IsReadFrom table s → Answers (HasFault table) (λ set. s.set ≡ Some set) (ok_or s.set BadSet)
set_answers table s clear is = ok_or_answers (HasFault table) s.set BadSet (bad_set_first table s clear is)

pub set_is_known : (table : Members) (s : Settings) (set : SetKind) → Clear (HasFault table) 5 → IsReadFrom table s → s.set ≡ Some set → Clear (HasFault table) 6
set_is_known table s set clear is named =
    clear_line (HasFault table) 5 clear
    (λ d has. has.2 set (same_string _ _ (same_Some _ _ (sym has.1 ∙ names_set table s is set named))))

-- ---- the rows and layers of a document

pub has_rows : (table : Members) (s : Settings) → IsReadFrom table s → HasRows table (drawing_of s)
has_rows table s is = (s.rows, is.rows.at ∙ ap Some is.rows.means, refl)

same_rows : (table : Members) (s : Settings) → IsReadFrom table s → (rows : List (List ℕ)) → HasRows table rows → rows ≡ drawing_of s
same_rows table s is rows has = has.2 ∙ ap (map chars) (same_texts _ _ (same_Some _ _ (sym has.1 ∙ (is.rows.at ∙ ap Some is.rows.means))))

has_layers : (table : Members) (s : Settings) → IsReadFrom table s → bad_number s ≡ None → HasLayers table (unsigned_abs s.layers)
has_layers table s is ranged =
    let within = layers_within s ranged in
    let natural : s.layers ≡ pos (unsigned_abs s.layers) = omega (arith, ints) in
    elim is.layers [
      | inl read ↦ inl (read.at ∙ ap Some (read.means ∙ ap integer natural))
      | inr absent ↦ inr (absent.0, ap unsigned_abs absent.1)
    ]

same_layers : (table : Members) (s : Settings) → IsReadFrom table s → (n : ℕ) → HasLayers table n → n ≡ unsigned_abs s.layers
same_layers table s is n (inl there) = ap unsigned_abs (same_integer _ _ (read_there SpellsInteger (pos 1) Layers table s.layers is.layers _ there))
same_layers table s is n (inr absent) = absent.1 ∙ ap unsigned_abs (sym (read_absent SpellsInteger (pos 1) Layers table s.layers is.layers absent.0))

-- ---- an empty map

empty_first : (table : Members) (s : Settings) → Clear (HasFault table) 6 → IsReadFrom table s → nat_lt 0 (width (drawing_of s)) ≡ false → IsFirstOf (HasFault table) EmptyMap
empty_first table s clear is none =
    let no_column : width (drawing_of s) ≤ 0 = ltb-false _ _ none in
    first_on_line (HasFault table) 6 EmptyMap clear refl (drawing_of s, has_rows table s is, omega arith) (λ d has less. no_detail less)

pub width_answers : (table : Members) (s : Settings) → Clear (HasFault table) 6 → IsReadFrom table s → Answers (HasFault table) (λ u. nat_lt 0 (width (drawing_of s)) ≡ true) (demand (nat_lt 0 (width (drawing_of s))) EmptyMap)
width_answers table s clear is = demand_answers (HasFault table) (nat_lt 0 (width (drawing_of s))) EmptyMap (empty_first table s clear is)

pub not_empty : (table : Members) (s : Settings) → Clear (HasFault table) 6 → IsReadFrom table s → nat_lt 0 (width (drawing_of s)) ≡ true → Clear (HasFault table) 7
not_empty table s clear is some =
    clear_line (HasFault table) 6 clear
    (λ d has.
    let same : width has.0 ≡ width (drawing_of s) = ap width (same_rows table s is has.0 has.1) in
    let none = has.2 in
    let columns : 0 < width (drawing_of s) = ltb-true _ _ some in
    absurd (omega arith))

-- ---- ragged rows

-- the rows before the first that is not as long as row 0 are as long, and all are where there is none
record IsFirstOther (rows : List (List ℕ)) (r : ℕ) : Type 0 where
  other : IsOtherRow rows r
  before : (k : ℕ) → k < r → length (row rows k) ≡ width rows

first_other : (rows : List (List ℕ)) (r : ℕ) → other_row rows ≡ Some r → IsFirstOther rows r
unfolding other_row
first_other rows r found =
    let (within, here, before) = position-Some (λ cs. not (length cs == width rows)) rows r [] found in
    record {
      other = (within, eqb-false _ _ (not-true _ here));
      before = λ k less. eqb-true _ _ (not-false _ (before k less));
    }

no_other_row : (rows : List (List ℕ)) → other_row rows ≡ None → (r : ℕ) → IsOtherRow rows r → ⊥
unfolding other_row
no_other_row rows none r other = both_ways _ (position_none_at (λ cs. not (length cs == width rows)) rows none r [] other.0) (ap not (ne_eqb _ _ other.1))

ragged_cases : (o : Option ℕ) (n layers r : ℕ) → option_or o (if n % layers == 0 then None else Some n) ≡ Some r → (o ≡ Some r) ⊎ ((o ≡ None) × (r ≡ n) × (n % layers ≢ 0))
ragged_cases (Some k) n layers r found = inl found
ragged_cases None n layers r found = elim (cases_Bool (n % layers == 0)) [
  | inl divides ↦ absurd (none-some _ (sym (cond-true _ _ _ divides) ∙ found))
  | inr rest ↦ inr (refl, sym (same_Some _ _ (sym (cond-false _ _ _ rest) ∙ found)), eqb-false _ _ rest)
]

ragged_first : (table : Members) (s : Settings) → Clear (HasFault table) 7 → IsReadFrom table s → bad_number s ≡ None → (r : ℕ) → ragged (unsigned_abs s.layers) (drawing_of s) ≡ Some r → IsFirstOf (HasFault table) (Ragged r)
ragged_first table s clear is ranged r found = elim (ragged_cases (other_row (drawing_of s)) (length (drawing_of s)) (unsigned_abs s.layers) r found) [
  | inl other ↦ (let first = first_other (drawing_of s) r other in
      first_on_line (HasFault table) 7 (Ragged r) clear refl (drawing_of s, has_rows table s is, inl first.other)
      (λ d has less.
      let earlier : get_or d 0 0 < r = one_less _ _ less in
      let same = same_rows table s is has.0 has.1 in
      let inside = first.other.0 in
      elim has.2 [
        | inl differs ↦ (subst (λ rows. IsOtherRow rows (get_or d 0 0)) same differs).1 (first.before _ earlier)
        | inr undivided ↦ (let last : get_or d 0 0 ≡ length (drawing_of s) = undivided.0 ∙ ap length same in absurd (omega arith))
      ]))
  | inr divided ↦
      first_on_line (HasFault table) 7 (Ragged r) clear refl
      (drawing_of s, has_rows table s is, inr (divided.1, unsigned_abs s.layers, has_layers table s is ranged, subst (λ n. n % unsigned_abs s.layers ≢ 0) (sym divided.1) divided.2))
      (λ d has less.
      let earlier : get_or d 0 0 < r = one_less _ _ less in
      let same = same_rows table s is has.0 has.1 in
      let last = divided.1 in
      elim has.2 [
        | inl differs ↦ no_other_row (drawing_of s) divided.0 (get_or d 0 0) (subst (λ rows. IsOtherRow rows (get_or d 0 0)) same differs)
        | inr undivided ↦ (let other : get_or d 0 0 ≡ length (drawing_of s) = undivided.0 ∙ ap length same in absurd (omega arith))
      ])
]

pub ragged_answers : (table : Members) (s : Settings) → Clear (HasFault table) 7 → IsReadFrom table s → bad_number s ≡ None
    → Answers (HasFault table) (λ u. ragged (unsigned_abs s.layers) (drawing_of s) ≡ None) (refuse Ragged (ragged (unsigned_abs s.layers) (drawing_of s)))
ragged_answers table s clear is ranged = refuse_answers (HasFault table) Ragged (ragged (unsigned_abs s.layers) (drawing_of s)) (ragged_first table s clear is ranged)

pub rows_are_even : (table : Members) (s : Settings) → Clear (HasFault table) 7 → IsReadFrom table s → ragged (unsigned_abs s.layers) (drawing_of s) ≡ None → Clear (HasFault table) 8
rows_are_even table s clear is none =
    let even = no_other (other_row (drawing_of s)) (length (drawing_of s)) (unsigned_abs s.layers) none in
    clear_line (HasFault table) 7 clear
    (λ d has.
    let same = same_rows table s is has.0 has.1 in
    elim has.2 [
      | inl differs ↦ no_other_row (drawing_of s) even.0 (get_or d 0 0) (subst (λ rows. IsOtherRow rows (get_or d 0 0)) same differs)
      | inr undivided ↦ undivided.3 (subst (λ n. n % undivided.1 ≡ 0) (sym (undivided.0 ∙ ap length same)) (subst (λ n. length (drawing_of s) % n ≡ 0) (sym (same_layers table s is undivided.1 undivided.2)) even.1))
    ])

-- ---- characters

cell_test : (c : ℕ) → IsCell c → is_strange c ≡ false
cell_test c (inl same) = rw same refl
cell_test c (inr (inl same)) = rw same refl
cell_test c (inr (inr (inl same))) = rw same refl
cell_test c (inr (inr (inr digit))) =
    let is : is_digit c ≡ true = and_from _ _ (le-leb _ _ digit.0) (le-leb _ _ digit.1) in
    ap not (or_right _ _ is)

cell_from : (c : ℕ) → is_strange c ≡ false → IsCell c
cell_from c known = elim (cases_Bool (is_digit c)) [
  | inl digit ↦ (let parts = and_parts _ _ digit in inr (inr (inr (leb-true _ _ parts.0, leb-true _ _ parts.1))))
  | inr other ↦ elim (cases_Bool (c == dot)) [
    | inl same ↦ inl (eqb-true _ _ same)
    | inr not_dot ↦ elim (cases_Bool (c == hash)) [
      | inl same ↦ inr (inl (eqb-true _ _ same))
      | inr not_hash ↦ elim (cases_Bool (c == equals)) [
        | inl same ↦ inr (inr (inl (eqb-true _ _ same)))
        | inr not_equals ↦ absurd (both_ways _ known (strange (c == dot) (c == hash) (c == equals) (is_digit c) not_dot not_hash not_equals other))
      ]
    ]
  ]
]
  where
    strange : (x y z w : Bool) → x ≡ false → y ≡ false → z ≡ false → w ≡ false → not (x || y || z || w) ≡ true
    strange x y z w no_x no_y no_z no_w = rw (no_x, no_y, no_z, no_w) refl

strange_is : (c : ℕ) → (IsCell c → ⊥) → is_strange c ≡ true
strange_is c other = elim (cases_Bool (is_strange c)) [ inl is ↦ is | inr known ↦ absurd (other (cell_from c known)) ]

record IsFirstStrange (rows : List (List ℕ)) (r c : ℕ) : Type 0 where
  here : IsStrangeAt rows r c
  rows_before : (k : ℕ) → k < r → list_any is_strange (row rows k) ≡ false
  columns_before : (k : ℕ) → k < c → is_strange (get_or (row rows r) k 0) ≡ false

found_strange : (rows : List (List ℕ)) (r c : ℕ) → position (list_any is_strange) rows ≡ Some r → position is_strange (row rows r) ≡ Some c → IsFirstStrange rows r c
found_strange rows r c in_row in_column =
    let (below, any, rows_before) = position-Some (list_any is_strange) rows r [] in_row in
    let (within, here, columns_before) = position-Some is_strange (row rows r) c 0 in_column in
    record {
      here = (below, within, λ cell. both_ways _ (cell_test _ cell) here);
      rows_before = rows_before;
      columns_before = columns_before;
    }

first_strange : (rows : List (List ℕ)) (at : ℕ × ℕ) → strange_place rows ≡ Some at → IsFirstStrange rows at.0 at.1
first_strange rows at found =
    stepped (λ r. option_map {U = ℕ × ℕ} (λ x. (r, x)) (position is_strange (row rows r))) (position (list_any is_strange) rows) at
    (λ r in_row. mapped {B = ℕ × ℕ} (λ x. (r, x)) (position is_strange (row rows r)) at
    (λ c in_column is. subst (λ (p : ℕ × ℕ). IsFirstStrange rows p.0 p.1) is (found_strange rows r c in_row in_column)))
    found

any_strange : (rows : List (List ℕ)) (r c : ℕ) → IsStrangeAt rows r c → list_any is_strange (row rows r) ≡ true
any_strange rows r c at = any_at is_strange (row rows r) c 0 at.1 (strange_is _ at.2)

no_strange : (rows : List (List ℕ)) → strange_place rows ≡ None → (r c : ℕ) → IsStrangeAt rows r c → ⊥
no_strange rows none r c at = in_row (position (list_any is_strange) rows) refl none
  where
    in_column : (k : ℕ) → position (list_any is_strange) rows ≡ Some k → (o : Option ℕ) → position is_strange (row rows k) ≡ o → option_map {U = ℕ × ℕ} (λ x. (k, x)) o ≡ None → ⊥
    in_column k found (Some x) is some = none-some _ (sym some)
    in_column k found None is some = both_ways _ (list_any-nowhere is_strange (row rows k) is) (position-Some (list_any is_strange) rows k [] found).1

    in_row : (o : Option ℕ) → position (list_any is_strange) rows ≡ o → option_and_then (λ k. option_map {U = ℕ × ℕ} (λ x. (k, x)) (position is_strange (row rows k))) o ≡ None → ⊥
    in_row None is some = both_ways _ (position_none_at (list_any is_strange) rows is r [] at.0) (any_strange rows r c at)
    in_row (Some k) is some = in_column k is (position is_strange (row rows k)) refl some

strange_first : (table : Members) (s : Settings) → Clear (HasFault table) 8 → IsReadFrom table s → (at : ℕ × ℕ) → strange_place (drawing_of s) ≡ Some at → IsFirstOf (HasFault table) (BadChar at.0 at.1)
strange_first table s clear is at found =
    let first = first_strange (drawing_of s) at found in
    first_on_line (HasFault table) 8 (BadChar at.0 at.1) clear refl (drawing_of s, has_rows table s is, first.here)
    (λ d has less.
    let strange : IsStrangeAt (drawing_of s) (get_or d 0 0) (get_or d 1 0) = subst (λ rows. IsStrangeAt rows (get_or d 0 0) (get_or d 1 0)) (same_rows table s is has.0 has.1) has.2 in
    elim (two_less (get_or d 0 0) (get_or d 1 0) at.0 at.1 less) [
      | inl above ↦ both_ways _ (first.rows_before _ above) (any_strange (drawing_of s) _ _ strange)
      | inr beside ↦ both_ways _ (first.columns_before _ beside.1) (strange_is _ (subst (λ r. IsStrangeAt (drawing_of s) r (get_or d 1 0)) beside.0 strange).2)
    ])

pub strange_answers : (table : Members) (s : Settings) → Clear (HasFault table) 8 → IsReadFrom table s
    → Answers (HasFault table) (λ u. strange_place (drawing_of s) ≡ None) (refuse (λ at. BadChar at.0 at.1) (strange_place (drawing_of s)))
strange_answers table s clear is = refuse_answers (HasFault table) (λ at. BadChar at.0 at.1) (strange_place (drawing_of s)) (strange_first table s clear is)

pub all_cells : (table : Members) (s : Settings) → Clear (HasFault table) 8 → IsReadFrom table s → strange_place (drawing_of s) ≡ None → Clear (HasFault table) 9
all_cells table s clear is none =
    clear_line (HasFault table) 8 clear
    (λ d has. no_strange (drawing_of s) none (get_or d 0 0) (get_or d 1 0) (subst (λ rows. IsStrangeAt rows (get_or d 0 0) (get_or d 1 0)) (same_rows table s is has.0 has.1) has.2))

-- ---- the size

large_first : (table : Members) (s : Settings) (set : SetKind) → Clear (HasFault table) 9 → IsReadFrom table s → bad_number s ≡ None → s.set ≡ Some set → space_drawn set s ≡ None → IsFirstOf (HasFault table) TooLarge
large_first table s set clear is ranged named none =
    first_on_line (HasFault table) 9 TooLarge clear refl (
      set,
      names_set table s is set named,
      drawing_of s,
      has_rows table s is,
      unsigned_abs s.layers,
      has_layers table s is ranged,
      λ allowed. none-some _ (sym none ∙ cond-true _ _ _ (is_space-from_IsSpace (box_drawn set s) allowed)),
    )
    (λ d has less. no_detail less)

pub size_answers : (table : Members) (s : Settings) (set : SetKind) → Clear (HasFault table) 9 → IsReadFrom table s → bad_number s ≡ None → s.set ≡ Some set
    → Answers (HasFault table) (λ box. space_drawn set s ≡ Some box) (ok_or (space_drawn set s) TooLarge)
size_answers table s set clear is ranged named = ok_or_answers (HasFault table) (space_drawn set s) TooLarge (large_first table s set clear is ranged named)

pub size_is_allowed : (table : Members) (s : Settings) (set : SetKind) (box : Torus) → Clear (HasFault table) 9 → IsReadFrom table s → s.set ≡ Some set → space_drawn set s ≡ Some box → Clear (HasFault table) 10
size_is_allowed table s set box clear is named drawn =
    let allowed : IsSpace (box_drawn set s) = IsSpace-from_is_space (box_drawn set s) (two_or_three set) (cond_some _ _ _ drawn).0 in
    clear_line (HasFault table) 9 clear
    (λ d has.
    let same_set : has.0 ≡ set = same_Some _ _ (sym (set_named_by table s is has.0 has.1) ∙ named) in
    let rows = same_rows table s is has.2 has.3 in
    let layers = same_layers table s is has.4 has.5 in
    has.6 (subst (λ k. IsSpace (box_of (stencil_of k).dimension has.4 has.2)) (sym same_set)
    (subst (λ r. IsSpace (box_of (stencil_of set).dimension has.4 r)) (sym rows)
    (subst (λ n. IsSpace (box_of (stencil_of set).dimension n (drawing_of s))) (sym layers) allowed))))
