-- Commands whose arguments are added one by one.
use Rattle.std.proofs.Common.{◌≡◌, ◌<◌, ◌+◌, ℕ, Bool, true, false, ◌&&◌, List, [], ◌∷◌, ◌++◌, map, take, length, get_or, refl, sym, ap, ap₂, ◌∙◌, append_assoc}
use Rattle.std.specs.Borrow.{Bor}
use Rattle.std.proofs.lemmas.List.{map_more}
use Rattle.clap.specs.Walk.{Rule, Text}
use Rattle.clap.specs.Simple.{App, on_top, with_rule, is_simple, built}
use Rattle.clap.specs.Faults.{is_simple_and_free, is_free_app}
use Rattle.lbm_words.specs.Commands.{positional, option, with_rules, bare, command_of}

-- one argument behind others
with_rules-more : (app : App) (rules : List Rule) (r : Rule) → with_rule (with_rules app rules) r ≡ with_rules app (rules ++ r ∷ [])
with_rules-more app rules r = ap (λ all. on_top (λ s. record s { rules = all }) app) (append_assoc app.top.rules rules (r ∷ []))

-- the argument of the next name
pub added-more : (rule : Text → Rule) (app before after : App) (names : List (Bor Text)) (i : ℕ) (d : Bor Text) (r : Rule)
    → i < length names → before ≡ with_rules app (map (λ name. rule name.now) (take i names)) → after ≡ with_rule before r → r ≡ rule (get_or names i d).now
    → after ≡ with_rules app (map (λ name. rule name.now) (take (i + 1) names))
added-more rule app before after names i d r within so_far added is =
    added ∙ (ap₂ with_rule so_far is ∙ (with_rules-more app _ _ ∙ ap (with_rules app) (sym (map_more (λ name. rule name.now) names i d within))))

-- the arguments of the texts behind names
rules_of_names : (rule : Text → Rule) (names : List (Bor Text)) → map (λ name. rule name.now) names ≡ map rule (map (λ name. name.now) names)
rules_of_names rule [] = refl
rules_of_names rule (name ∷ names) = ap (λ rules. rule name.now ∷ rules) (rules_of_names rule names)

-- a bare command with positional words, and then options
pub command_of-made : (name : Text) (start positioned made : App) (positionals options : List (Bor Text)) → start ≡ bare name
    → positioned ≡ with_rules start (map (λ word. positional word.now) positionals) → made ≡ with_rules positioned (map (λ word. option word.now) options)
    → made ≡ command_of name (map (λ word. word.now) positionals) (map (λ word. word.now) options)
command_of-made name start positioned made positionals options start_is positioned_is made_is =
    made_is ∙ ap₂ with_rules (positioned_is ∙ ap₂ with_rules start_is (rules_of_names positional positionals)) (rules_of_names option options)

first_true : (a b : Bool) → (a && b) ≡ true → a ≡ true
first_true true b both = refl
first_true false b both = both

-- a command whose faults are known is one whose matches are known
pub is_simple-free : (app : App) → is_simple_and_free app ≡ true → is_simple app ≡ true
is_simple-free app = first_true (is_simple app) (is_free_app (built app))
