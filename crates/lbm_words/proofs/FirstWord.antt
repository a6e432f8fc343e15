-- Words by the command that the first one names.
use Rattle.std.proofs.Common.{◌≡◌, ◌≤◌, ◌<◌, List, [], ◌∷◌, map, length, get_or, String, Global, refl, sym, ap, ◌∙◌, arith}
use Rattle.std.specs.Prelude.{None, Some, string_bytes}
use Rattle.clap.specs.Walk.{Text}
use Rattle.lbm_words.specs.declared.commands.CommandKind.{CommandKind}
use Rattle.lbm_words.specs.Names.{command_named}
use Rattle.lbm_words.specs.Words.{◌>>=◌, read_by, request_of}

-- the request of words by the name that the first one is
request_of-named : (words : List (String Global)) (word : String Global) (name : Text) → 1 ≤ length words → word ≡ get_or words 0 word → name ≡ string_bytes word
    → request_of (map string_bytes words) ≡ (command_named name >>= λ kind. read_by kind (map string_bytes words))
unfolding request_of
request_of-named [] word name some first is = absurd (omega arith)
request_of-named (other ∷ rest) word name some first is =
    ap (λ n. command_named n >>= λ kind. read_by kind (string_bytes other ∷ map string_bytes rest)) (sym (is ∙ ap string_bytes first))

pub request_of-kind : (words : List (String Global)) (word : String Global) (name : Text) (kind : CommandKind) → 1 ≤ length words → word ≡ get_or words 0 word
    → name ≡ string_bytes word → Some kind ≡ command_named name → request_of (map string_bytes words) ≡ read_by kind (map string_bytes words)
request_of-kind words word name kind some first is names =
    request_of-named words word name some first is ∙ sym (ap (λ o. o >>= λ k. read_by k (map string_bytes words)) names)

pub request_of-other : (words : List (String Global)) (word : String Global) (name : Text) → 1 ≤ length words → word ≡ get_or words 0 word
    → name ≡ string_bytes word → None ≡ command_named name → request_of (map string_bytes words) ≡ None
request_of-other words word name some first is names =
    request_of-named words word name some first is ∙ sym (ap (λ o. o >>= λ k. read_by k (map string_bytes words)) names)

pub request_of-nothing : (words : List (String Global)) → length words < 1 → request_of (map string_bytes words) ≡ None
unfolding request_of
request_of-nothing [] none = refl
request_of-nothing (word ∷ rest) none = absurd (omega arith)
