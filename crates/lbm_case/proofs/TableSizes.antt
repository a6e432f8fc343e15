-- The data of a document is shorter than its text.
use Rattle.std.proofs.Common.{◌≡◌, ℕ, zero, suc, ◌+◌, ◌≤◌, Bool, true, false, ◌&&◌, ◌==◌, cond, List, [], ◌∷◌, ◌++◌, length, drop, get_or, Option, Some, None, option_map, option_and_then, refl, ap, ◌∙◌, Ordering, Less, Equal, Greater, nat_cmp, arith}
use Rattle.std.specs.Ordering.{match_ordering}
use Rattle.std.specs.Cmp.Lexicographic.{slice_cmp}
use Rattle.std.proofs.lemmas.List.{length-drop}
use Rattle.std.proofs.lemmas.Option.{none-some, same_Some}
use Rattle.std.proofs.lemmas.Bool.Decides.{nat_tests}
use Rattle.toml_parser.specs.Lexical.{first, skip_ws, skip_blank}
use Rattle.toml_parser.specs.Strings.{Key, key, recursion_limit}
use Rattle.toml.specs.Data.{Data, array, table, Items, no_items, item, Members, no_members, member, push_item, get_member, same_key}
use Rattle.toml.specs.Tables.{Origin, implicit, dotted, header, Node, value, open_table, open_array, Nodes, no_nodes, node, get_node, insert, replace, close_node, close, Edit, header_node, dot_node, by_header, by_dot, along_header, along_dots, Definition, key_value, std_table, array_table, Expression, new_node, redefine, at_found, at_key, put, Document, define_as, define}
use Rattle.toml.specs.Parse.{read_map, after_byte, after_element, key_equals, keyval, items, members, atom, val, header_key, expression, line, lines, skip_bom, parse_document, ends_line}
use Rattle.lbm_case.proofs.DataSizes.{size, items_size, members_size}
use Rattle.lbm_case.proofs.TextSizes.{chosen, stepped, mapped, skip_ws_short, skip_from_short, atom_short, key_after_short}

-- of what a text has defined so far
abbrev mutual
  pub node_size : Node → ℕ
  node_size (value d) = size d
  node_size (open_table origin ns) = nodes_size ns
  node_size (open_array done last) = items_size done + nodes_size last

  pub nodes_size : Nodes → ℕ
  nodes_size no_nodes = 0
  nodes_size (node k x ns) = node_size x + nodes_size ns

items_size-push_item : (ds : Items) (d : Data) → items_size (push_item ds d) ≡ items_size ds + size d
items_size-push_item no_items d = omega arith
items_size-push_item (item e ds) d = omega (arith, items_size-push_item ds d)

mutual
  size-close_node : (x : Node) → size (close_node x) ≡ node_size x
  size-close_node (value d) = refl
  size-close_node (open_table origin ns) = members_size-close ns
  size-close_node (open_array done last) = omega (arith, items_size-push_item done (table (close last)), members_size-close last)

  members_size-close : (ns : Nodes) → members_size (close ns) ≡ nodes_size ns
  members_size-close no_nodes = refl
  members_size-close (node k x ns) = omega (arith, size-close_node x, members_size-close ns)

by_order : (o : Ordering) (a b c : Nodes) (most : ℕ) → nodes_size a ≤ most → nodes_size b ≤ most → nodes_size c ≤ most → nodes_size (match_ordering o a b c) ≤ most
by_order Less a b c most less equal greater = less
by_order Equal a b c most less equal greater = equal
by_order Greater a b c most less equal greater = greater

insert_size : (k : List ℕ) (x : Node) (ns : Nodes) → nodes_size (insert k x ns) ≤ nodes_size ns + node_size x
insert_size k x no_nodes = omega arith
insert_size k x (node l y ns) =
    let more = insert_size k x ns in
    by_order (slice_cmp nat_cmp k l) (node k x (node l y ns)) (node l x ns) (node l y (insert k x ns)) (node_size y + nodes_size ns + node_size x) (omega arith) (omega arith) (omega arith)

replace_size : (k : List ℕ) (x y : Node) (ns : Nodes) → get_node k ns ≡ Some y → nodes_size (replace k x ns) + node_size y ≤ nodes_size ns + node_size x
replace_size k x y no_nodes found = absurd (none-some _ found)
replace_size k x y (node l z ns) found =
    chosen (same_key k l) (Some z) (get_node k ns) (Some y)
    (λ here is. let same : z ≡ y = same_Some _ _ is in rw (here, ← same) (omega arith))
    (λ other is. let more = replace_size k x y ns is in rw other (omega arith))
    found

-- a change makes the nodes longer by at most so much
abbrev Adds : ℕ → Edit → Type 0
Adds most edit = (ns new : Nodes) → edit ns ≡ Some new → nodes_size new ≤ nodes_size ns + most

header_node_size : (most : ℕ) (edit : Edit) (x y : Node) → Adds most edit → header_node edit x ≡ Some y → node_size y ≤ node_size x + most
header_node_size most edit (value d) y adds given = absurd (none-some _ given)
header_node_size most edit (open_table origin inner) y adds given =
    mapped (open_table origin) (edit inner) y (λ new made is. let more = adds inner new made in rw (← is) more) given
header_node_size most edit (open_array done last) y adds given =
    mapped (open_array done) (edit last) y (λ new made is. let more = adds last new made in rw (← is) (omega arith)) given

dot_node_size : (most : ℕ) (edit : Edit) (x y : Node) → Adds most edit → dot_node edit x ≡ Some y → node_size y ≤ node_size x + most
dot_node_size most edit (value d) y adds given = absurd (none-some _ given)
dot_node_size most edit (open_table header inner) y adds given = absurd (none-some _ given)
dot_node_size most edit (open_table implicit inner) y adds given =
    mapped (open_table dotted) (edit inner) y (λ new made is. let more = adds inner new made in rw (← is) more) given
dot_node_size most edit (open_table dotted inner) y adds given =
    mapped (open_table dotted) (edit inner) y (λ new made is. let more = adds inner new made in rw (← is) more) given
dot_node_size most edit (open_array done last) y adds given = absurd (none-some _ given)

-- a change at a key: of what stands there, or of nothing
put_in_size : (most : ℕ) (k : List ℕ) (origin : Origin) (edit : Edit) (ns new : Nodes) → Adds most edit → option_map (λ inner. insert k (open_table origin inner) ns) (edit no_nodes) ≡ Some new → nodes_size new ≤ nodes_size ns + most
put_in_size most k origin edit ns new adds given =
    mapped (λ inner. insert k (open_table origin inner) ns) (edit no_nodes) new
    (λ inner made is. let small = adds no_nodes inner made in rw (← is) (omega (arith, insert_size k (open_table origin inner) ns)))
    given

changed_size : (most : ℕ) (k : List ℕ) (x : Node) (o : Option Node) (ns new : Nodes) → get_node k ns ≡ Some x → ((y : Node) → o ≡ Some y → node_size y ≤ node_size x + most) → option_map (λ y. replace k y ns) o ≡ Some new → nodes_size new ≤ nodes_size ns + most
changed_size most k x o ns new found adds given =
    mapped (λ y. replace k y ns) o new
    (λ y made is. let small = adds y made in rw (← is) (omega (arith, replace_size k y x ns found)))
    given

by_header_size : (most : ℕ) (k : List ℕ) (edit : Edit) (ns : Nodes) (o : Option Node) (new : Nodes) → Adds most edit → get_node k ns ≡ o → by_header k edit ns o ≡ Some new → nodes_size new ≤ nodes_size ns + most
by_header_size most k edit ns None new adds found given = put_in_size most k implicit edit ns new adds given
by_header_size most k edit ns (Some x) new adds found given = changed_size most k x (header_node edit x) ns new found (λ y made. header_node_size most edit x y adds made) given

by_dot_size : (most : ℕ) (k : List ℕ) (edit : Edit) (ns : Nodes) (o : Option Node) (new : Nodes) → Adds most edit → get_node k ns ≡ o → by_dot k edit ns o ≡ Some new → nodes_size new ≤ nodes_size ns + most
by_dot_size most k edit ns None new adds found given = put_in_size most k dotted edit ns new adds given
by_dot_size most k edit ns (Some x) new adds found given = changed_size most k x (dot_node edit x) ns new found (λ y made. dot_node_size most edit x y adds made) given

along_header_size : (most : ℕ) (path : List (List ℕ)) (edit : Edit) → Adds most edit → Adds most (along_header path edit)
unfolding along_header
along_header_size most [] edit adds ns new given = adds ns new given
along_header_size most (k ∷ path) edit adds ns new given = by_header_size most k (along_header path edit) ns (get_node k ns) new (along_header_size most path edit adds) refl given

along_dots_size : (most : ℕ) (path : List (List ℕ)) (edit : Edit) → Adds most edit → Adds most (along_dots path edit)
unfolding along_dots
along_dots_size most [] edit adds ns new given = adds ns new given
along_dots_size most (k ∷ path) edit adds ns new given = by_dot_size most k (along_dots path edit) ns (get_node k ns) new (along_dots_size most path edit adds) refl given

-- what a line defines
abbrev definition_size : Definition → ℕ
definition_size (key_value d) = size d
definition_size std_table = 0
definition_size array_table = 0

new_node_size : (what : Definition) → node_size (new_node what) ≡ definition_size what
new_node_size (key_value d) = refl
new_node_size std_table = refl
new_node_size array_table = refl

redefine_size : (what : Definition) (x y : Node) → redefine what x ≡ Some y → node_size y ≤ node_size x + definition_size what
redefine_size (key_value d) x y given = absurd (none-some _ given)
redefine_size std_table (value d) y given = absurd (none-some _ given)
redefine_size std_table (open_table implicit inner) y given = let same : open_table header inner ≡ y = same_Some _ _ given in rw (← same) (omega arith)
redefine_size std_table (open_table dotted inner) y given = absurd (none-some _ given)
redefine_size std_table (open_table header inner) y given = absurd (none-some _ given)
redefine_size std_table (open_array done last) y given = absurd (none-some _ given)
redefine_size array_table (value d) y given = absurd (none-some _ given)
redefine_size array_table (open_table origin inner) y given = absurd (none-some _ given)
redefine_size array_table (open_array done last) y given =
    let same : open_array (push_item done (table (close last))) no_nodes ≡ y = same_Some _ _ given in
    rw (← same) (omega (arith, items_size-push_item done (table (close last)), members_size-close last))

at_found_size : (k : List ℕ) (what : Definition) (ns : Nodes) (o : Option Node) (new : Nodes) → get_node k ns ≡ o → at_found k what ns o ≡ Some new → nodes_size new ≤ nodes_size ns + definition_size what
at_found_size k what ns None new found given =
    let same : insert k (new_node what) ns ≡ new = same_Some _ _ given in
    rw (← same) (omega (arith, insert_size k (new_node what) ns, new_node_size what))
at_found_size k what ns (Some x) new found given = changed_size (definition_size what) k x (redefine what x) ns new found (λ y made. redefine_size what x y made) given

at_key_size : (k : List ℕ) (what : Definition) → Adds (definition_size what) (at_key k what)
unfolding at_key
at_key_size k what ns new given = at_found_size k what ns (get_node k ns) new refl given

put_size : (k : Key) (d : Data) → Adds (size d) (put k d)
put_size k d = along_dots_size (size d) k.0 (at_key k.1 (key_value d)) (at_key_size k.1 (key_value d))

header_size : (doc next : Document) (k : Key) (what : Definition)
    → option_map {U = Document} (λ root. (root, k.0 ++ k.1 ∷ [])) (along_header k.0 (at_key k.1 what) doc.0) ≡ Some next → nodes_size next.0 ≤ nodes_size doc.0 + definition_size what
header_size doc next k what given =
    mapped {B = Document} (λ root. (root, k.0 ++ k.1 ∷ [])) (along_header k.0 (at_key k.1 what) doc.0) next
    (λ root made is.
    let more = along_header_size (definition_size what) k.0 (at_key k.1 what) (at_key_size k.1 what) doc.0 root made in
    let same : root ≡ next.0 = ap (λ d. d.0) is in
    rw (← same) more)
    given

pair_size : (doc next : Document) (k : Key) (d : Data)
    → option_map {U = Document} (λ root. (root, doc.1)) (along_header doc.1 (put k d) doc.0) ≡ Some next → nodes_size next.0 ≤ nodes_size doc.0 + size d
pair_size doc next k d given =
    mapped {B = Document} (λ root. (root, doc.1)) (along_header doc.1 (put k d) doc.0) next
    (λ root made is.
    let more = along_header_size (size d) doc.1 (put k d) (put_size k d) doc.0 root made in
    let same : root ≡ next.0 = ap (λ d. d.0) is in
    rw (← same) more)
    given

define_as_size : (doc next : Document) (k : Key) (what : Definition) → define_as doc k what ≡ Some next → nodes_size next.0 ≤ nodes_size doc.0 + definition_size what
define_as_size doc next k (key_value d) given = pair_size doc next k d given
define_as_size doc next k std_table given = header_size doc next k std_table given
define_as_size doc next k array_table given = header_size doc next k array_table given

define_size : (doc next : Document) (e : Expression) → define doc e ≡ Some next → nodes_size next.0 ≤ nodes_size doc.0 + definition_size e.1
unfolding define
define_size doc next e given = define_as_size doc next e.0 e.1 given

-- what a value writes is at least as long as the data that is read
abbrev Shortens : (List ℕ → Option (Data × List ℕ)) → Type 0
Shortens read = (text : List ℕ) (d : Data) (rest : List ℕ) → read text ≡ Some (d, rest) → size d + length rest ≤ length text

after_byte_short : (byte : ℕ) (text rest : List ℕ) → after_byte byte text ≡ Some rest → length rest ≤ length text
after_byte_short byte text rest given = grind (arith, nat_tests, length-drop)

after_element_short : (closing : ℕ) (text rest : List ℕ) → after_element closing text ≡ Some rest → length rest ≤ length text
unfolding after_element
after_element_short closing text rest given =
    let blank = skip_from_short true false text in
    chosen (first (skip_blank text) == 44) (Some (drop 1 (skip_blank text))) (cond (first (skip_blank text) == closing) (Some (skip_blank text)) None) (Some rest)
    (λ _ is. let same : drop 1 (skip_blank text) ≡ rest = same_Some _ _ is in rw (← same) (omega (arith, length-drop 1 (skip_blank text))))
    (λ _ is. let same = kept (first (skip_blank text) == closing) (skip_blank text) rest is in rw (← same) blank)
    given
  where
    kept : (b : Bool) (x y : List ℕ) → cond b (Some x) None ≡ Some y → x ≡ y
    kept true x y is = same_Some _ _ is
    kept false x y is = absurd (none-some _ is)

key_equals_short : (text : List ℕ) (k : Key) (rest : List ℕ) → key_equals text ≡ Some (k, rest) → length rest ≤ length text
unfolding key_equals
key_equals_short text k rest given =
    stepped (λ p. option_map {U = Key × List ℕ} (λ r. (p.0, skip_ws r)) (after_byte 61 p.1)) (key text) (k, rest)
    (λ p read. mapped {B = Key × List ℕ} (λ r. (p.0, skip_ws r)) (after_byte 61 p.1) (k, rest)
    (λ r after is.
    let start = key_after_short recursion_limit [] text p.0 p.1 read in
    let more = after_byte_short 61 p.1 r after in
    let left : skip_ws r ≡ rest = ap (λ q. q.1) is in
    rw (← left) (omega (arith, skip_ws_short r))))
    given

keyval_short : (read : List ℕ → Option (Data × List ℕ)) (text : List ℕ) (e : Key × Data) (rest : List ℕ) → Shortens read → keyval read text ≡ Some (e, rest) → size e.1 + length rest ≤ length text
keyval_short read text e rest short given =
    stepped (λ p. option_map {U = (Key × Data) × List ℕ} (λ q. ((p.0, q.0), q.1)) (read p.1)) (key_equals text) (e, rest)
    (λ p found. mapped {B = (Key × Data) × List ℕ} (λ q. ((p.0, q.0), q.1)) (read p.1) (e, rest)
    (λ q value is.
    let start = key_equals_short text p.0 p.1 found in
    let more = short p.1 q.0 q.1 value in
    let same : q.0 ≡ e.1 = ap (λ r. r.0.1) is in
    let left : q.1 ≡ rest = ap (λ r. r.1) is in
    rw (← same, ← left) (omega arith)))
    given

items_short : (read : List ℕ → Option (Data × List ℕ)) (n : ℕ) (found : Items) (text : List ℕ) (all : Items) (rest : List ℕ) → Shortens read → items read n found text ≡ Some (all, rest) → items_size all + length rest ≤ items_size found + length text
unfolding items
items_short read zero found text all rest short given = absurd (none-some _ given)
items_short read (suc n) found text all rest short given =
    let blank = skip_from_short true false text in
    chosen (first (skip_blank text) == 93) (Some (found, drop 1 (skip_blank text))) (option_and_then (λ v. option_and_then (items read n (push_item found v.0)) (after_element 93 v.1)) (read (skip_blank text))) (Some (all, rest))
    (λ _ is.
    let pair = same_Some _ _ is in
    let same : found ≡ all = ap (λ q. q.0) pair in
    let left : drop 1 (skip_blank text) ≡ rest = ap (λ q. q.1) pair in
    rw (← same, ← left) (omega (arith, length-drop 1 (skip_blank text))))
    (λ _. stepped (λ v. option_and_then (items read n (push_item found v.0)) (after_element 93 v.1)) (read (skip_blank text)) (all, rest)
    (λ v value. stepped (items read n (push_item found v.0)) (after_element 93 v.1) (all, rest)
    (λ after element next.
    let here = short (skip_blank text) v.0 v.1 value in
    let closed = after_element_short 93 v.1 after element in
    let more = items_short read n (push_item found v.0) after all rest short next in
    omega (arith, items_size-push_item found v.0))))
    given

members_short : (read : List ℕ → Option (Data × List ℕ)) (n : ℕ) (found : Nodes) (text : List ℕ) (all : Members) (rest : List ℕ) → Shortens read → members read n found text ≡ Some (all, rest) → members_size all + length rest ≤ nodes_size found + length text
unfolding members
members_short read zero found text all rest short given = absurd (none-some _ given)
members_short read (suc n) found text all rest short given =
    let blank = skip_from_short true false text in
    chosen (first (skip_blank text) == 125) (Some (close found, drop 1 (skip_blank text)))
    (option_and_then (λ e. option_and_then (λ more. option_and_then (members read n more) (after_element 125 e.1)) (put e.0.0 e.0.1 found)) (keyval read (skip_blank text))) (Some (all, rest))
    (λ _ is.
    let pair = same_Some _ _ is in
    let same : close found ≡ all = ap (λ q. q.0) pair in
    let left : drop 1 (skip_blank text) ≡ rest = ap (λ q. q.1) pair in
    rw (← same, ← left) (omega (arith, length-drop 1 (skip_blank text), members_size-close found)))
    (λ _. stepped (λ e. option_and_then (λ more. option_and_then (members read n more) (after_element 125 e.1)) (put e.0.0 e.0.1 found)) (keyval read (skip_blank text)) (all, rest)
    (λ e pair. stepped (λ more. option_and_then (members read n more) (after_element 125 e.1)) (put e.0.0 e.0.1 found) (all, rest)
    (λ more made. stepped (members read n more) (after_element 125 e.1) (all, rest)
    (λ after element next.
    let here = keyval_short read (skip_blank text) e.0 e.1 short pair in
    let added = put_size e.0.0 e.0.1 found more made in
    let closed = after_element_short 125 e.1 after element in
    let further = members_short read n more after all rest short next in
    omega arith))))
    given

val_short : (depth : ℕ) → Shortens (val depth)
unfolding val
val_short zero text d rest given = atom_short text d rest given
val_short (suc depth) text d rest given =
    chosen (first text == 91) (read_map array (items (val depth) (length text) no_items (drop 1 text)))
    (cond (first text == 123) (read_map table (members (val depth) (length text) no_nodes (drop 1 text))) (atom text)) (Some (d, rest))
    (λ _. mapped {B = Data × List ℕ} (λ p. (array p.0, p.1)) (items (val depth) (length text) no_items (drop 1 text)) (d, rest)
    (λ p read is.
    let more = items_short (val depth) (length text) no_items (drop 1 text) p.0 p.1 (val_short depth) read in
    let same : array p.0 ≡ d = ap (λ q. q.0) is in
    let left : p.1 ≡ rest = ap (λ q. q.1) is in
    rw (← same, ← left) (omega (arith, length-drop 1 text))))
    (λ _. chosen (first text == 123) (read_map table (members (val depth) (length text) no_nodes (drop 1 text))) (atom text) (Some (d, rest))
    (λ _. mapped {B = Data × List ℕ} (λ p. (table p.0, p.1)) (members (val depth) (length text) no_nodes (drop 1 text)) (d, rest)
    (λ p read is.
    let more = members_short (val depth) (length text) no_nodes (drop 1 text) p.0 p.1 (val_short depth) read in
    let same : table p.0 ≡ d = ap (λ q. q.0) is in
    let left : p.1 ≡ rest = ap (λ q. q.1) is in
    rw (← same, ← left) (omega (arith, length-drop 1 text))))
    (λ _. atom_short text d rest))
    given

header_key_short : (text : List ℕ) (k : Key) (rest : List ℕ) → header_key text ≡ Some (k, rest) → length rest ≤ length text
unfolding header_key
header_key_short text k rest given =
    stepped (λ p. option_map {U = Key × List ℕ} (λ r. (p.0, r)) (after_byte 93 p.1)) (key (skip_ws text)) (k, rest)
    (λ p read. mapped {B = Key × List ℕ} (λ r. (p.0, r)) (after_byte 93 p.1) (k, rest)
    (λ r after is.
    let start = key_after_short recursion_limit [] (skip_ws text) p.0 p.1 read in
    let more = after_byte_short 93 p.1 r after in
    let left : r ≡ rest = ap (λ q. q.1) is in
    rw (← left) (omega (arith, skip_ws_short text))))
    given

double_header_short : (text : List ℕ) (e : Expression) (rest : List ℕ)
    → option_and_then (λ k. option_map {U = Expression × List ℕ} (λ r. ((k.0, array_table), r)) (after_byte 93 k.1)) (header_key (drop 2 text)) ≡ Some (e, rest) → definition_size e.1 + length rest ≤ length text
double_header_short text e rest given =
    stepped (λ k. option_map {U = Expression × List ℕ} (λ r. ((k.0, array_table), r)) (after_byte 93 k.1)) (header_key (drop 2 text)) (e, rest)
    (λ k read. mapped {B = Expression × List ℕ} (λ r. ((k.0, array_table), r)) (after_byte 93 k.1) (e, rest)
    (λ r after is.
    let start = header_key_short (drop 2 text) k.0 k.1 read in
    let more = after_byte_short 93 k.1 r after in
    let same : array_table ≡ e.1 = ap (λ q. q.0.1) is in
    let left : r ≡ rest = ap (λ q. q.1) is in
    rw (← same, ← left) (omega (arith, length-drop 2 text))))
    given

single_header_short : (text : List ℕ) (e : Expression) (rest : List ℕ)
    → option_map {U = Expression × List ℕ} (λ p. ((p.0, std_table), p.1)) (header_key (drop 1 text)) ≡ Some (e, rest) → definition_size e.1 + length rest ≤ length text
single_header_short text e rest given =
    mapped {B = Expression × List ℕ} (λ p. ((p.0, std_table), p.1)) (header_key (drop 1 text)) (e, rest)
    (λ p read is.
    let start = header_key_short (drop 1 text) p.0 p.1 read in
    let same : std_table ≡ e.1 = ap (λ q. q.0.1) is in
    let left : p.1 ≡ rest = ap (λ q. q.1) is in
    rw (← same, ← left) (omega (arith, length-drop 1 text)))
    given

pair_short : (text : List ℕ) (e : Expression) (rest : List ℕ)
    → option_map {U = Expression × List ℕ} (λ p. ((p.0.0, key_value p.0.1), p.1)) (keyval (val recursion_limit) text) ≡ Some (e, rest) → definition_size e.1 + length rest ≤ length text
pair_short text e rest given =
    mapped {B = Expression × List ℕ} (λ p. ((p.0.0, key_value p.0.1), p.1)) (keyval (val recursion_limit) text) (e, rest)
    (λ p read is.
    let start = keyval_short (val recursion_limit) text p.0 p.1 (val_short recursion_limit) read in
    let same : key_value p.0.1 ≡ e.1 = ap (λ q. q.0.1) is in
    let left : p.1 ≡ rest = ap (λ q. q.1) is in
    rw (← same, ← left) start)
    given

expression_short : (text : List ℕ) (e : Expression) (rest : List ℕ) → expression text ≡ Some (e, rest) → definition_size e.1 + length rest ≤ length text
unfolding expression
expression_short text e rest given =
    chosen (first text == 91 && get_or text 1 0 == 91)
    (option_and_then (λ k. option_map {U = Expression × List ℕ} (λ r. ((k.0, array_table), r)) (after_byte 93 k.1)) (header_key (drop 2 text)))
    (cond (first text == 91) (option_map {U = Expression × List ℕ} (λ p. ((p.0, std_table), p.1)) (header_key (drop 1 text))) (option_map {U = Expression × List ℕ} (λ p. ((p.0.0, key_value p.0.1), p.1)) (keyval (val recursion_limit) text))) (Some (e, rest))
    (λ _. double_header_short text e rest)
    (λ _. chosen (first text == 91) (option_map {U = Expression × List ℕ} (λ p. ((p.0, std_table), p.1)) (header_key (drop 1 text))) (option_map {U = Expression × List ℕ} (λ p. ((p.0.0, key_value p.0.1), p.1)) (keyval (val recursion_limit) text)) (Some (e, rest))
    (λ _. single_header_short text e rest)
    (λ _. pair_short text e rest))
    given

line_short : (text : List ℕ) (e : Expression) (rest : List ℕ) → line text ≡ Some (e, rest) → definition_size e.1 + length rest ≤ length text
unfolding line
line_short text e rest given =
    stepped (λ p. cond (ends_line (skip_ws p.1)) (Some p) None) (expression text) (e, rest)
    (λ p read is.
    chosen (ends_line (skip_ws p.1)) (Some p) None (Some (e, rest))
    (λ _ kept. let same : p ≡ (e, rest) = same_Some _ _ kept in expression_short text e rest (read ∙ ap Some same))
    (λ _ none. absurd (none-some _ none))
    is)
    given

lines_short : (n : ℕ) (doc : Document) (text : List ℕ) (all : Document) → lines n doc text ≡ Some all → nodes_size all.0 ≤ nodes_size doc.0 + length text
unfolding lines
lines_short zero doc text all given = absurd (none-some _ given)
lines_short (suc n) doc text all given =
    let blank = skip_from_short true false text in
    chosen (length (skip_blank text) == 0) (Some doc) (option_and_then (λ e. option_and_then (λ next. lines n next e.1) (define doc e.0)) (line (skip_blank text))) (Some all)
    (λ _ is. let same : doc ≡ all = same_Some _ _ is in rw (← same) (omega arith))
    (λ _. stepped (λ e. option_and_then (λ next. lines n next e.1) (define doc e.0)) (line (skip_blank text)) all
    (λ e read. stepped (λ next. lines n next e.1) (define doc e.0) all
    (λ next defined further.
    let here = line_short (skip_blank text) e.0 e.1 read in
    let added = define_size doc next e.0 defined in
    let more = lines_short n next e.1 all further in
    omega arith)))
    given

skip_bom_short : (text : List ℕ) → length (skip_bom text) ≤ length text
unfolding skip_bom
skip_bom_short text = grind (arith, nat_tests, length-drop)

-- the texts of a document's data are together no longer than the document
pub parse_document_short : (text : List ℕ) (ms : Members) → parse_document text ≡ Some ms → members_size ms ≤ length text
unfolding parse_document
parse_document_short text ms given =
    mapped (λ doc. close doc.0) (lines (suc (length text)) (no_nodes, []) (skip_bom text)) ms
    (λ doc read is.
    let short = lines_short (suc (length text)) (no_nodes, []) (skip_bom text) doc read in
    rw (← is) (omega (arith, members_size-close doc.0, skip_bom_short text)))
    given

-- a value at a key is no longer than the table
pub get_member_short : (k : List ℕ) (ms : Members) (d : Data) → get_member k ms ≡ Some d → size d ≤ members_size ms
get_member_short k no_members d given = absurd (none-some _ given)
get_member_short k (member l e ms) d given = by_place (slice_cmp nat_cmp k l) e ms d (get_member_short k ms d) given
  where
    by_place : (o : Ordering) (e : Data) (ms : Members) (d : Data) → (get_member k ms ≡ Some d → size d ≤ members_size ms) → match_ordering o (get_member k ms) (Some e) (get_member k ms) ≡ Some d → size d ≤ size e + members_size ms
    by_place Less e ms d more given = let known = more given in omega arith
    by_place Equal e ms d more given = let same : e ≡ d = same_Some _ _ given in rw same (omega arith)
    by_place Greater e ms d more given = let known = more given in omega arith
