-- A text that a document quotes is shorter than what writes it.
use Rattle.std.proofs.Common.{◌≡◌, ℕ, zero, suc, ◌+◌, ◌<◌, ◌≤◌, Bool, true, false, ◌&&◌, ◌==◌, nat_lt, cond, List, [], ◌∷◌, ◌++◌, length, drop, get_or, Option, Some, None, option_map, option_and_then, refl, ap, ◌∙◌, encode_utf8, is_some, unwrap_or, arith}
use Rattle.std.proofs.lemmas.Bool.{eqb-true, ltb-true, cond_both}
use Rattle.std.proofs.lemmas.Bool.Decides.{nat_tests}
use Rattle.std.proofs.lemmas.List.{length-drop, length-append}
use Rattle.std.proofs.lemmas.Str.{length-encode, len_utf8_bounds, len_utf8_ascii}
use Rattle.std.proofs.lemmas.Option.{none-some, same_Some}
use Rattle.std.specs.List.{prefix_len}
use Rattle.toml_parser.specs.Lexical.{first, is_ws, starts_newline, split_while, skip_ws, skip_from, skip_turn, is_bare}
use Rattle.toml_parser.specs.Strings.{simple_escape, hex_len, hex_escape, escape_char, escape, is_plain, at_delims, special, prepend, after_piece, body, trim_newline, one_line, quoted, starts_string, simple_key, key_after}
use Rattle.toml_parser.specs.Strings.{Key}
use Rattle.toml_parser.specs.Numbers.{unquoted}
use Rattle.toml_parser.specs.declared.scalar.Scalar.{Scalar}
use Rattle.toml_parser.specs.declared.scalar.Scalar.TheVariants.{Boolean, Integer, Float, Datetime}
use Rattle.toml_parser.specs.Reading.{piece_bytes}
use Rattle.toml.specs.Data.{Data, string}
use Rattle.toml.specs.Parse.{atom, scalar_data, read_map}
use Rattle.lbm_case.proofs.DataSizes.{size}
use Rattle.toml_parser.proofs.LexicalLemmas.{within_from_byte}

-- what gave an answer: a choice, a step after another, and an answer seen otherwise
pub chosen : {A P : Type 0} (b : Bool) (x y z : A) → (b ≡ true → x ≡ z → P) → (b ≡ false → y ≡ z → P) → cond b x y ≡ z → P
chosen true x y z first_way other_way given = first_way refl given
chosen false x y z first_way other_way given = other_way refl given

pub stepped : {A B P : Type 0} (f : A → Option B) (o : Option A) (y : B) → ((x : A) → o ≡ Some x → f x ≡ Some y → P) → option_and_then f o ≡ Some y → P
stepped f None y more given = absurd (none-some _ given)
stepped f (Some x) y more given = more x refl given

pub mapped : {A B P : Type 0} (f : A → B) (o : Option A) (y : B) → ((x : A) → o ≡ Some x → f x ≡ y → P) → option_map f o ≡ Some y → P
mapped f None y more given = absurd (none-some _ given)
mapped f (Some x) y more given = more x refl (same_Some _ _ given)

some_byte : (text : List ℕ) → 0 < first text → 0 < length text
some_byte text some = within_from_byte text 0 some

few_bytes : (c : ℕ) → length (encode_utf8 c) ≤ 4
few_bytes c = omega (arith, length-encode c, len_utf8_bounds c)

one_byte : (c : ℕ) → c < 128 → length (encode_utf8 c) ≡ 1
one_byte c ascii = length-encode c ∙ len_utf8_ascii c ascii

simple_is_ascii : (c d : ℕ) → simple_escape c ≡ Some d → d < 128
simple_is_ascii c d given = grind (arith, nat_tests)

some_digits : (c : ℕ) → 0 < hex_len c → (2 ≤ hex_len c) × (0 < c)
some_digits c some = grind (arith, nat_tests)

-- an escape of n digits
hex_short : (n : ℕ) (text : List ℕ) (c : ℕ) (rest : List ℕ) → 2 ≤ n → hex_escape n text ≡ Some (c, rest) → length (encode_utf8 c) + length rest ≤ length text + 2
unfolding hex_escape
hex_short n text c rest two given = grind (arith, nat_tests, few_bytes, length-drop)

hex_char_short : (text : List ℕ) (c : ℕ) (rest : List ℕ) → nat_lt 0 (hex_len (first text)) ≡ true → hex_escape (hex_len (first text)) (drop 1 text) ≡ Some (c, rest) → length (encode_utf8 c) + length rest ≤ length text + 1
hex_char_short text c rest digits given =
    let known = some_digits (first text) (ltb-true _ _ digits) in
    let some = some_byte text known.1 in
    let short = hex_short (hex_len (first text)) (drop 1 text) c rest known.0 given in
    omega (arith, length-drop 1 text)

simple_char_short : (text : List ℕ) (c : ℕ) (rest : List ℕ) → option_map {U = ℕ × List ℕ} (λ c. (c, drop 1 text)) (simple_escape (first text)) ≡ Some (c, rest) → length (encode_utf8 c) + length rest ≤ length text + 1
simple_char_short text c rest given = mapped {B = ℕ × List ℕ} (λ c. (c, drop 1 text)) (simple_escape (first text)) (c, rest)
    (λ d letter is.
    let same : d ≡ c = ap (λ p. p.0) is in
    let left : drop 1 text ≡ rest = ap (λ p. p.1) is in
    let one = one_byte d (simple_is_ascii (first text) d letter) in
    rw (← same, ← left) (omega (arith, length-drop 1 text)))
    given

escape_char_short : (text : List ℕ) (c : ℕ) (rest : List ℕ) → escape_char text ≡ Some (c, rest) → length (encode_utf8 c) + length rest ≤ length text + 1
unfolding escape_char
escape_char_short text c rest given =
    chosen (nat_lt 0 (hex_len (first text))) (hex_escape (hex_len (first text)) (drop 1 text)) (option_map {U = ℕ × List ℕ} (λ c. (c, drop 1 text)) (simple_escape (first text))) (Some (c, rest))
    (hex_char_short text c rest) (λ _. simple_char_short text c rest) given

-- white space that is skipped
pub skip_ws_short : (text : List ℕ) → length (skip_ws text) ≤ length text
unfolding skip_ws
skip_ws_short text = omega (arith, length-drop (prefix_len is_ws text) text)

pub skip_from_short : (comments inside : Bool) (text : List ℕ) → length (skip_from comments inside text) ≤ length text
unfolding skip_from
skip_from_short comments inside [] = omega arith
skip_from_short comments inside (c ∷ cs) =
    let more = skip_from_short comments (unwrap_or (skip_turn comments inside c (first cs)) false) cs in
    cond_both (is_some (skip_turn comments inside c (first cs))) _ (c ∷ cs) (λ rest. length rest ≤ suc (length cs)) (λ _. omega arith) (λ _. omega arith)

escape_short : (multi : Bool) (text bytes rest : List ℕ) → escape multi text ≡ Some (bytes, rest) → length bytes + length rest ≤ length text + 1
unfolding escape
escape_short multi text bytes rest given = grind (arith, nat_tests, escape_char_short, skip_from_short)

at_delims_short : (delim : ℕ) (text : List ℕ) (piece : Option (List ℕ)) (rest : List ℕ) → 0 < length text → at_delims delim text ≡ Some (piece, rest) → length (piece_bytes piece) + length rest ≤ length text
at_delims_short delim text piece rest some given = grind (arith, nat_tests, length-drop)

newline_byte : (text : List ℕ) → starts_newline text ≡ true → 0 < length text
newline_byte text newline = some_byte text (grind (arith, nat_tests))

-- a piece of a string that is no plain byte
ending_short : (delim : ℕ) (multi : Bool) (text : List ℕ) (piece : Option (List ℕ)) (rest : List ℕ) → 0 < length text → cond {A = Option (Option (List ℕ) × List ℕ)} multi (at_delims delim text) (Some (None, drop 1 text)) ≡ Some (piece, rest)
    → length (piece_bytes piece) + length rest ≤ length text
ending_short delim true text piece rest some given = at_delims_short delim text piece rest some given
ending_short delim false text piece rest some given = grind (arith, length-drop)

escaped_short : (multi : Bool) (text : List ℕ) (piece : Option (List ℕ)) (rest : List ℕ) → 0 < length text → option_map {U = Option (List ℕ) × List ℕ} (λ p. (Some p.0, p.1)) (escape multi (drop 1 text)) ≡ Some (piece, rest)
    → length (piece_bytes piece) + length rest ≤ length text
escaped_short multi text piece rest some given = grind (arith, escape_short, length-drop)

newline_short : (multi : Bool) (text : List ℕ) (piece : Option (List ℕ)) (rest : List ℕ) → cond {A = Option (Option (List ℕ) × List ℕ)} (multi && starts_newline text) (Some (Some (first text ∷ []), drop 1 text)) None ≡ Some (piece, rest)
    → length (piece_bytes piece) + length rest ≤ length text
newline_short multi text piece rest given = grind (arith, nat_tests, newline_byte, length-drop)

special_short : (delim : ℕ) (multi : Bool) (text : List ℕ) (piece : Option (List ℕ)) (rest : List ℕ) → 0 < delim → special delim multi text ≡ Some (piece, rest) → length (piece_bytes piece) + length rest ≤ length text
unfolding special
special_short delim multi text piece rest some given =
    chosen (first text == delim) (cond {A = Option (Option (List ℕ) × List ℕ)} multi (at_delims delim text) (Some (None, drop 1 text)))
    (cond {A = Option (Option (List ℕ) × List ℕ)} (first text == 92) (option_map {U = Option (List ℕ) × List ℕ} (λ p. (Some p.0, p.1)) (escape multi (drop 1 text))) (cond {A = Option (Option (List ℕ) × List ℕ)} (multi && starts_newline text) (Some (Some (first text ∷ []), drop 1 text)) None))
    (Some (piece, rest))
    (λ ends. ending_short delim multi text piece rest (some_byte text (let same : first text ≡ delim = eqb-true _ _ ends in omega arith)))
    (λ _. chosen (first text == 92) (option_map {U = Option (List ℕ) × List ℕ} (λ p. (Some p.0, p.1)) (escape multi (drop 1 text))) (cond {A = Option (Option (List ℕ) × List ℕ)} (multi && starts_newline text) (Some (Some (first text ∷ []), drop 1 text)) None)
    (Some (piece, rest))
    (λ escapes. escaped_short multi text piece rest (some_byte text (let same : first text ≡ 92 = eqb-true _ _ escapes in omega arith)))
    (λ _. newline_short multi text piece rest))
    given

plain_byte : (delim : ℕ) (multi : Bool) (c : ℕ) → is_plain delim multi c ≡ true → 0 < c
plain_byte delim multi c plain = grind (arith, nat_tests)

-- a string goes on after a piece of it
plain_short : (delim : ℕ) (multi : Bool) (n : ℕ) (text bytes rest : List ℕ) → ((text bytes rest : List ℕ) → body delim multi n text ≡ Some (bytes, rest) → length bytes + length rest ≤ length text)
    → is_plain delim multi (first text) ≡ true → prepend (first text ∷ []) (body delim multi n (drop 1 text)) ≡ Some (bytes, rest) → length bytes + length rest ≤ length text
plain_short delim multi n text bytes rest more plain given =
    let some = some_byte text (plain_byte delim multi (first text) plain) in
    mapped {B = List ℕ × List ℕ} (λ p. ((first text ∷ []) ++ p.0, p.1)) (body delim multi n (drop 1 text)) (bytes, rest)
    (λ p read is.
    let whole : first text ∷ p.0 ≡ bytes = ap (λ q. q.0) is in
    let left : p.1 ≡ rest = ap (λ q. q.1) is in
    let short = more (drop 1 text) p.0 p.1 read in
    rw (← whole, ← left) (omega (arith, length-drop 1 text)))
    given

piece_short : (delim : ℕ) (multi : Bool) (n : ℕ) (text bytes rest : List ℕ) → ((text bytes rest : List ℕ) → body delim multi n text ≡ Some (bytes, rest) → length bytes + length rest ≤ length text)
    → (piece : Option (List ℕ)) (after : List ℕ) → length (piece_bytes piece) + length after ≤ length text → after_piece (body delim multi n) piece after ≡ Some (bytes, rest) → length bytes + length rest ≤ length text
piece_short delim multi n text bytes rest more None after short given = grind arith
piece_short delim multi n text bytes rest more (Some piece) after short given =
    mapped {B = List ℕ × List ℕ} (λ p. (piece ++ p.0, p.1)) (body delim multi n after) (bytes, rest)
    (λ p read is.
    let whole : piece ++ p.0 ≡ bytes = ap (λ q. q.0) is in
    let left : p.1 ≡ rest = ap (λ q. q.1) is in
    let next = more after p.0 p.1 read in
    rw (← whole, ← left) (omega (arith, length-append piece p.0)))
    given

body_short : (delim : ℕ) (multi : Bool) (n : ℕ) (text bytes rest : List ℕ) → 0 < delim → body delim multi n text ≡ Some (bytes, rest) → length bytes + length rest ≤ length text
unfolding body
body_short delim multi zero text bytes rest some given = absurd (none-some _ given)
body_short delim multi (suc n) text bytes rest some given =
    let more : (text bytes rest : List ℕ) → body delim multi n text ≡ Some (bytes, rest) → length bytes + length rest ≤ length text = λ text bytes rest. body_short delim multi n text bytes rest some in
    chosen (is_plain delim multi (first text)) (prepend (first text ∷ []) (body delim multi n (drop 1 text))) (option_and_then (λ p. after_piece (body delim multi n) p.0 p.1) (special delim multi text)) (Some (bytes, rest))
    (plain_short delim multi n text bytes rest more)
    (λ _. stepped (λ p. after_piece (body delim multi n) p.0 p.1) (special delim multi text) (bytes, rest) (λ p read. piece_short delim multi n text bytes rest more p.0 p.1 (special_short delim multi text p.0 p.1 some read)))
    given

string_byte : (text : List ℕ) → starts_string text ≡ true → 0 < first text
string_byte text starts = grind (arith, nat_tests)

trim_newline_short : (text : List ℕ) → length (trim_newline text) ≤ length text
trim_newline_short text = grind (arith, nat_tests, length-drop)

-- a string, whose delimiter counts as a byte of it
one_line_short : (text bytes rest : List ℕ) → starts_string text ≡ true → one_line text ≡ Some (bytes, rest) → 1 + length bytes + length rest ≤ length text
unfolding one_line
one_line_short text bytes rest starts given =
    let delim = string_byte text starts in
    let some = some_byte text delim in
    let short = body_short (first text) false (length text) (drop 1 text) bytes rest delim given in
    omega (arith, length-drop 1 text)

quoted_short : (text bytes rest : List ℕ) → starts_string text ≡ true → quoted text ≡ Some (bytes, rest) → 1 + length bytes + length rest ≤ length text
unfolding quoted
quoted_short text bytes rest starts given =
    let delim = string_byte text starts in
    let some = some_byte text delim in
    chosen (get_or text 1 0 == first text && get_or text 2 0 == first text) (body (first text) true (length text) (trim_newline (drop 3 text))) (one_line text) (Some (bytes, rest))
    (λ _ multi. let short = body_short (first text) true (length text) (trim_newline (drop 3 text)) bytes rest delim multi in omega (arith, trim_newline_short (drop 3 text), length-drop 3 text))
    (λ _. one_line_short text bytes rest starts)
    given

-- a word
unquoted_short : (text : List ℕ) (d : Scalar) (rest : List ℕ) → unquoted text ≡ Some (d, rest) → length rest ≤ length text
unfolding unquoted
unquoted_short text d rest given = grind (arith, nat_tests, length-drop)

size-scalar_data : (d : Scalar) → size (scalar_data d) ≡ 0
size-scalar_data (Boolean b) = refl
size-scalar_data (Integer z) = refl
size-scalar_data (Float x) = refl
size-scalar_data (Datetime dt) = refl

-- a string or a word, with what it stands for
pub atom_short : (text : List ℕ) (d : Data) (rest : List ℕ) → atom text ≡ Some (d, rest) → size d + length rest ≤ length text
unfolding atom
atom_short text d rest given =
    chosen (starts_string text) (read_map string (quoted text)) (read_map scalar_data (unquoted text)) (Some (d, rest))
    (λ starts. mapped {B = Data × List ℕ} (λ p. (string p.0, p.1)) (quoted text) (d, rest)
    (λ p read is.
    let same : string p.0 ≡ d = ap (λ q. q.0) is in
    let left : p.1 ≡ rest = ap (λ q. q.1) is in
    let short = quoted_short text p.0 p.1 starts read in
    rw (← same, ← left) (omega arith)))
    (λ _. mapped {B = Data × List ℕ} (λ p. (scalar_data p.0, p.1)) (unquoted text) (d, rest)
    (λ p read is.
    let same : scalar_data p.0 ≡ d = ap (λ q. q.0) is in
    let left : p.1 ≡ rest = ap (λ q. q.1) is in
    let short = unquoted_short text p.0 p.1 read in
    rw (← same, ← left) (omega (arith, size-scalar_data p.0))))
    given

-- keys
simple_key_short : (text part rest : List ℕ) → simple_key text ≡ Some (part, rest) → length rest ≤ length text
unfolding simple_key
simple_key_short text part rest given =
    chosen (starts_string text) (one_line text) (cond (is_bare (first text)) (Some (split_while is_bare text)) None) (Some (part, rest))
    (λ starts read. let short = one_line_short text part rest starts read in omega arith)
    (λ _ bare. grind (arith, nat_tests, length-drop))
    given

pub key_after_short : (n : ℕ) (path : List (List ℕ)) (text : List ℕ) (k : Key) (rest : List ℕ) → key_after n path text ≡ Some (k, rest) → length rest ≤ length text
unfolding key_after
key_after_short zero path text k rest given = absurd (none-some _ given)
key_after_short (suc n) path text k rest given =
    stepped (λ part. cond {A = Option (Key × List ℕ)} (first (skip_ws part.1) == 46) (key_after n (path ++ part.0 ∷ []) (skip_ws (drop 1 (skip_ws part.1)))) (Some ((path, part.0), skip_ws part.1))) (simple_key text) (k, rest)
    (λ part read.
    let start = simple_key_short text part.0 part.1 read in
    let after = skip_ws_short part.1 in
    chosen (first (skip_ws part.1) == 46) (key_after n (path ++ part.0 ∷ []) (skip_ws (drop 1 (skip_ws part.1)))) (Some ((path, part.0), skip_ws part.1)) (Some (k, rest))
    (λ _ next. let more = key_after_short n (path ++ part.0 ∷ []) (skip_ws (drop 1 (skip_ws part.1))) k rest next in omega (arith, skip_ws_short (drop 1 (skip_ws part.1)), length-drop 1 (skip_ws part.1)))
    (λ _ last. let left : skip_ws part.1 ≡ rest = ap (λ q. q.1) (same_Some _ _ last) in rw (← left) (omega arith)))
    given
