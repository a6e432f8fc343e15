-- The rows of a case file of at most 33,554,432 bytes are numbered in 32 bits, and so are their columns.
use Rattle.std.proofs.Common.{◌≡◌, ℕ, zero, suc, ◌+◌, ◌-◌, ◌*◌, ◌≤◌, List, [], ◌∷◌, map, length, Some, None, option_map, option_and_then, Ok, ok_or, arith}
use Rattle.std.specs.Str.{chars, chars_after, continuation_len, lead_bits, is_utf8}
use Rattle.std.proofs.lemmas.List.{length-map}
use Rattle.std.proofs.lemmas.Option.{none-some, same_Some}
use Rattle.toml.specs.Data.{Data, Items, no_items, item, Members, string, array, as_str, as_array}
use Rattle.toml.specs.Parse.{parse_document}
use Rattle.lbm_case.specs.declared.key.Key.TheVariants.{Map}
use Rattle.lbm_case.specs.declared.fault.CaseFault.TheVariants.{NotToml}
use Rattle.lbm_case.specs.Keys.{name_of}
use Rattle.lbm_case.specs.Settings.{each_in, texts_in, value_at, required}
use Rattle.lbm_case.specs.Views.{IsSmall}
use Rattle.lbm_case.specs.Drawing.{row}
use Rattle.lbm_case.specs.CaseOf.{table_of}
use Rattle.lbm_case.proofs.Readings.{found}
use Rattle.lbm_case.proofs.DataSizes.{size, items_size, members_size}
use Rattle.lbm_case.proofs.TextSizes.{chosen, stepped, mapped}
use Rattle.lbm_case.proofs.TableSizes.{parse_document_short, get_member_short}

-- a text has at most as many characters as bytes
chars_after_few : (n c : ℕ) (bs : List ℕ) → length (chars_after n c bs) ≤ length bs + 1
chars_after_few zero c [] = omega arith
chars_after_few zero c (b ∷ bs) = omega (arith, chars_after_few (continuation_len b) (lead_bits b) bs)
chars_after_few (suc n) c [] = omega arith
chars_after_few (suc n) c (b ∷ bs) = omega (arith, chars_after_few n (c * 64 + (b - 128)) bs)

chars_few : (bs : List ℕ) → length (chars bs) ≤ length bs
unfolding chars
chars_few [] = omega arith
chars_few (b ∷ bs) = omega (arith, chars_after_few (continuation_len b) (lead_bits b) bs)

-- how long some texts are together, where each counts as one byte longer
abbrev texts_size : List (List ℕ) → ℕ
texts_size [] = 0
texts_size (t ∷ ts) = 1 + length t + texts_size ts

few_texts : (ts : List (List ℕ)) → length ts ≤ texts_size ts
few_texts [] = omega arith
few_texts (t ∷ ts) = omega (arith, few_texts ts)

short_row : (ts : List (List ℕ)) (r : ℕ) → length (row (map chars ts) r) ≤ texts_size ts
short_row [] r = omega arith
short_row (t ∷ ts) zero = omega (arith, chars_few t)
short_row (t ∷ ts) (suc r) = omega (arith, short_row ts r)

as_str_size : (d : Data) (t : List ℕ) → as_str d ≡ Some t → 1 + length t ≤ size d
as_str_size (string s) t given = let same : s ≡ t = same_Some _ _ given in rw same (omega arith)
as_str_size _ t given = absurd (none-some _ given)

each_in_size : (ds : Items) (ts : List (List ℕ)) → each_in as_str ds ≡ Some ts → texts_size ts ≤ items_size ds
each_in_size no_items ts given = let same : [] ≡ ts = same_Some _ _ given in rw (← same) (omega arith)
each_in_size (item d ds) ts given =
    stepped (λ t. option_map (λ us. t ∷ us) (each_in as_str ds)) (as_str d) ts
    (λ t here. mapped (λ us. t ∷ us) (each_in as_str ds) ts
    (λ us more is. let first = as_str_size d t here in let others = each_in_size ds us more in rw (← is) (omega arith)))
    given

as_array_size : (d : Data) (ds : Items) → as_array d ≡ Some ds → items_size ds ≤ size d
as_array_size (array es) ds given = let same : es ≡ ds = same_Some _ _ given in rw same (omega arith)
as_array_size _ ds given = absurd (none-some _ given)

texts_in_size : (d : Data) (ts : List (List ℕ)) → texts_in d ≡ Some ts → texts_size ts ≤ size d
texts_in_size d ts given =
    stepped (each_in as_str) (as_array d) ts
    (λ ds is each. let whole = as_array_size d ds is in let texts = each_in_size ds ts each in omega arith)
    given

rows_size : (ms : Members) (ts : List (List ℕ)) → required texts_in Map ms ≡ Ok ts → texts_size ts ≤ members_size ms
rows_size ms ts given =
    stepped texts_in (value_at Map ms) ts
    (λ d is texts. let whole = get_member_short (name_of Map) ms d is in let rows = texts_in_size d ts texts in omega arith)
    (found (option_and_then texts_in (value_at Map ms)) ts _ given)

table_size : (bytes : List ℕ) (ms : Members) → ok_or (table_of bytes) NotToml ≡ Ok ms → members_size ms ≤ length bytes
table_size bytes ms given =
    chosen (is_utf8 bytes) (parse_document bytes) None (Some ms)
    (λ _ read. parse_document_short bytes ms read)
    (λ _ none. absurd (none-some _ none))
    (found (table_of bytes) ms NotToml given)

pub small_rows : (bytes : List ℕ) (ms : Members) (ts : List (List ℕ)) → length bytes ≤ 33554432 → ok_or (table_of bytes) NotToml ≡ Ok ms → required texts_in Map ms ≡ Ok ts → IsSmall (map chars ts)
small_rows bytes ms ts few read rows =
    let table = table_size bytes ms read in
    let texts = rows_size ms ts rows in
    record {
      few = rw (length-map ts chars) (omega (arith, few_texts ts));
      short = λ r. omega (arith, short_row ts r);
    }
