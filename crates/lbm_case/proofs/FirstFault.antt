-- A file is refused for its first fault.
use Rattle.std.proofs.Common.{◌≡◌, ℕ, ◌<◌, List, ◌∷◌, nat_lt, unsigned_abs, Option, Some, None, Result, ok_or, refl, subst, arith, IsSomeAnd, Less, nat_cmp}
use Rattle.std.specs.Cmp.Lexicographic.{slice_cmp}
use Rattle.toml.specs.Data.{Members}
use Rattle.lbm_model.specs.Case.{FlowCase}
use Rattle.lbm_case.specs.declared.fault.CaseFault.{CaseFault}
use Rattle.lbm_case.specs.declared.fault.CaseFault.TheVariants.{NotToml, UnknownKey, MissingKey, WrongKind, BadNumber, BadSet, EmptyMap, Ragged, BadChar, TooLarge}
use Rattle.lbm_model.specs.Refusals.{◌>>=◌, demand}
use Rattle.lbm_case.specs.Refusals.{refuse}
use Rattle.lbm_case.specs.Settings.{Settings, unknown_key, missing_key, settings_of}
use Rattle.lbm_case.specs.Numbers.{bad_number}
use Rattle.lbm_case.specs.Drawing.{width, ragged, strange_place}
use Rattle.lbm_case.specs.CaseOf.{table_of, drawing_of, space_drawn, case_drawn, settings_in, case_in, case_of}
use Rattle.lbm_case.specs.Causes.{IsUnknown, HasFault, HasFaultIn, IsFirstOf, line_of, detail_of}
use Rattle.lbm_case.specs.Laws.{RefusesFirstFault, AcceptsFaultless, RefusesLeastUnknownKey}
use Rattle.lbm_case.proofs.FaultOrder.{Clear, Answers, IsFaultless, refused_for, then_read, read_as, clear_of_all, refused_exactly, read_exactly, not_before_itself}
use Rattle.lbm_case.proofs.KeyFaults.{unknown_answers, all_known, missing_answers, none_missing, all_there}
use Rattle.lbm_case.proofs.KindFaults.{IsReadFrom, settings_answers, all_of_kind}
use Rattle.lbm_case.proofs.RangeFaults.{bad_answers, all_in_range}
use Rattle.lbm_case.proofs.DrawingFaults.{set_answers, set_is_known, width_answers, not_empty, ragged_answers, rows_are_even, strange_answers, all_cells, size_answers, size_is_allowed}

-- a document is no fault of its own
is_document : (table : Members) → Clear (HasFault table) 1
is_document table = record { past = past }
  where
    past : (f : CaseFault) → HasFault table f → 1 < line_of f
    past NotToml has = absurd has
    past (UnknownKey name) has = omega arith
    past (MissingKey key) has = omega arith
    past (WrongKind key) has = omega arith
    past (BadNumber key) has = omega arith
    past BadSet has = omega arith
    past EmptyMap has = omega arith
    past (Ragged r) has = omega arith
    past (BadChar r c) has = omega arith
    past TooLarge has = omega arith

-- what is known of the settings of a document before its drawing is read
record IsSettled (table : Members) (s : Settings) : Type 0 where
  is : IsReadFrom table s
  ranged : bad_number s ≡ None
  clear : Clear (HasFault table) 5

settings_in_answers : (table : Members) → Answers (HasFault table) (IsSettled table) (settings_in table)
unfolding settings_in
settings_in_answers table =
    let Has = HasFault table in
    let first = is_document table in
    then_read Has _ _ (refuse UnknownKey (unknown_key table)) _ (unknown_answers table first) (λ u known.
    let second = all_known table first known in
    then_read Has _ _ (refuse MissingKey (missing_key table)) _ (missing_answers table second) (λ u complete.
    let third = all_there table second complete in
    then_read Has _ _ (settings_of table) _ (settings_answers table third (none_missing table complete)) (λ s is.
    let fourth = all_of_kind table s third is in
    then_read Has _ _ (refuse BadNumber (bad_number s)) _ (bad_answers table s fourth is) (λ u ranged.
    read_as Has _ s (record { is = is; ranged = ranged; clear = all_in_range table s fourth is ranged })))))

case_in_answers : (table : Members) (s : Settings) → IsSettled table s → Answers (HasFault table) (λ case. IsFaultless (HasFault table)) (case_in s)
unfolding case_in
case_in_answers table s settled =
    let Has = HasFault table in
    let is = settled.is in
    let ranged = settled.ranged in
    then_read Has _ _ (ok_or s.set BadSet) _ (set_answers table s settled.clear is) (λ set named.
    let sixth = set_is_known table s set settled.clear is named in
    then_read Has _ _ (demand (nat_lt 0 (width (drawing_of s))) EmptyMap) _ (width_answers table s sixth is) (λ u some.
    let seventh = not_empty table s sixth is some in
    then_read Has _ _ (refuse Ragged (ragged (unsigned_abs s.layers) (drawing_of s))) _ (ragged_answers table s seventh is ranged) (λ u even.
    let eighth = rows_are_even table s seventh is even in
    then_read Has _ _ (refuse (λ at. BadChar at.0 at.1) (strange_place (drawing_of s))) _ (strange_answers table s eighth is) (λ u clear.
    let ninth = all_cells table s eighth is clear in
    then_read Has _ _ (ok_or (space_drawn set s) TooLarge) _ (size_answers table s set ninth is ranged named) (λ box drawn.
    read_as Has _ (case_drawn set box s) (clear_of_all Has (size_is_allowed table s set box ninth is named drawn)))))))

abbrev reading : Members → Result FlowCase CaseFault
reading table = settings_in table >>= case_in

reading_answers : (table : Members) → Answers (HasFault table) (λ case. IsFaultless (HasFault table)) (reading table)
reading_answers table = then_read (HasFault table) _ _ (settings_in table) _ (settings_in_answers table) (λ s settled. case_in_answers table s settled)

-- the reading of a file
answers_of : (document : Option Members) → Answers (HasFaultIn document) (λ case. IsFaultless (HasFaultIn document)) (ok_or document NotToml >>= reading)
answers_of None = refused_for (HasFaultIn None) _ NotToml (record {
  holds = refl;
  first = λ other same less. let same : other ≡ NotToml = same in not_before_itself (line_of NotToml ∷ detail_of NotToml) (subst (λ f. slice_cmp nat_cmp (line_of f ∷ detail_of f) (line_of NotToml ∷ detail_of NotToml) ≡ Less) same less);
})
answers_of (Some table) = reading_answers table

case_answers : (bytes : List ℕ) → Answers (HasFaultIn (table_of bytes)) (λ case. IsFaultless (HasFaultIn (table_of bytes))) (case_of bytes)
unfolding case_of
case_answers bytes = answers_of (table_of bytes)

pub refuses_first_fault : RefusesFirstFault
refuses_first_fault bytes fault = refused_exactly (HasFaultIn (table_of bytes)) (case_of bytes) (case_answers bytes) fault

pub accepts_faultless : AcceptsFaultless
accepts_faultless bytes = read_exactly (HasFaultIn (table_of bytes)) (case_of bytes) (case_answers bytes)

-- the least unknown key
least_unknown : (document : Option Members) (name : List ℕ) → IsFirstOf (HasFaultIn document) (UnknownKey name)
    → IsSomeAnd document (λ table. IsUnknown table name × ((other : List ℕ) → IsUnknown table other → slice_cmp nat_cmp other name ≡ Less → ⊥))
least_unknown None name is_first = let never : UnknownKey name ≡ NotToml = is_first.holds in absurd cc
least_unknown (Some table) name is_first = (is_first.holds, λ other unknown less. is_first.first (UnknownKey other) unknown less)

pub refuses_least_unknown_key : RefusesLeastUnknownKey
refuses_least_unknown_key bytes name refused = least_unknown (table_of bytes) name ((refuses_first_fault bytes (UnknownKey name)).0 refused)
