-- The ranges of what words ask for.
use Rattle.std.proofs.Common.{◌≡◌, ◌≤◌, ℕ, Bool, true, false, ◌&&◌, not, cond, List, [], ◌∷◌, length, suc, refl, sym, ap, subst, ◌∙◌, arith, true≢false, leb-true, codes}
use Rattle.std.specs.Prelude.{◌≢◌, Option, Some, None, IfSome, Result, Ok, Err, IfOk, option_map, option_and_then, nat_le, pos}
use Rattle.std.specs.Str.{bytes_eq}
use Rattle.std.specs.List.{slice_split}
use Rattle.std.proofs.lemmas.Slice.Eq.{bytes_eq-Decides}
use Rattle.std.proofs.lemmas.List.Splits.{length-slice_split}
use Rattle.clap.specs.Walk.{Row, Text, first_of}
use Rattle.lbm_words.specs.declared.end.WordsEnd.{WordsEnd}
use Rattle.lbm_words.specs.declared.commands.CommandKind.{CommandKind}
use Rattle.lbm_words.specs.declared.commands.CommandKind.TheVariants as commands
use Rattle.lbm_words.specs.declared.request.PatternKind.TheVariants.{Aa}
use Rattle.lbm_words.specs.Ends.{Gives}
use Rattle.lbm_words.specs.Names.{pattern_named}
use Rattle.lbm_number.specs.Number.{number_of}
use Rattle.lbm_words.specs.Numbers.{number_between, numbers_of, each, is_comma}
use Rattle.lbm_cell.specs.Collision.{IsRates, rates}
use Rattle.lbm_words.specs.Rate.{is_rate, rate, rate_of_two, rate_of}
use Rattle.lbm_words.proofs.RateLemmas.{rate_allowed}
use Rattle.lbm_words.specs.Commands.{app_for}
use Rattle.lbm_words.specs.Request.{IsChoice, IsRun, IsRequest, run}
use Rattle.lbm_words.specs.Words.{◌>>=◌, demand, required, optional, steps_of, format_of, choice_of, is_other, run_of, check_of, demo_of, voxels_of, tracer_rate_of, tracer_of, taken, asked, read_by}

first_true : (a b : Bool) → (a && b) ≡ true → a ≡ true
first_true true b both = refl
first_true false b both = both

second_true : (a b : Bool) → (a && b) ≡ true → b ≡ true
second_true true b both = both
second_true false b both = absurd (true≢false (sym both))

-- ---- what holds of what was read

IfSome-any : {A : Type 0} (o : Option A) → IfSome o (λ _. Unit {0})
IfSome-any None = tt
IfSome-any (Some x) = tt

IfSome-bind : {A B : Type 0} (o : Option A) (f : A → Option B) (P : A → Type 0) (Q : B → Type 0) → IfSome o P → ((x : A) → P x → IfSome (f x) Q) → IfSome (o >>= f) Q
IfSome-bind None f P Q p next = tt
IfSome-bind (Some x) f P Q p next = next x p

-- a step of which nothing is asked
IfSome-pass : {A B : Type 0} (o : Option A) (f : A → Option B) (Q : B → Type 0) → ((x : A) → IfSome (f x) Q) → IfSome (o >>= f) Q
IfSome-pass o f Q next = IfSome-bind o f (λ _. Unit {0}) Q (IfSome-any o) (λ x _. next x)

IfSome-demand : (test : Bool) → IfSome (demand test) (λ _. test ≡ true)
IfSome-demand true = refl
IfSome-demand false = tt

IfSome-test : {A : Type 0} (test : Bool) (x : A) (P : A → Type 0) → (test ≡ true → P x) → IfSome (cond test (Some x) None) P
IfSome-test true x P holds = holds refl
IfSome-test false x P holds = tt

IfSome-and_then : {A B : Type 0} (form : A → Option B) (o : Option A) (P : B → Type 0) → ((x : A) → IfSome (form x) P) → IfSome (option_and_then form o) P
IfSome-and_then form None P holds = tt
IfSome-and_then form (Some x) P holds = holds x

IfSome-option_map : {A B : Type 0} (f : A → B) (o : Option A) (P : A → Type 0) (Q : B → Type 0) → IfSome o P → ((x : A) → P x → Q (f x)) → IfSome (option_map f o) Q
IfSome-option_map f None P Q holds next = tt
IfSome-option_map f (Some x) P Q holds next = next x holds

-- ---- numbers

abbrev IsBetween : ℕ → ℕ → ℕ → Type 0
IsBetween low high n = (low ≤ n) × (n ≤ high)

number_between-range : (low high : ℕ) (text : Text) → IfSome (number_between low high text) (IsBetween low high)
number_between-range low high text =
    IfSome-and_then _ (number_of text) _
    (λ n. IfSome-test (nat_le low n && nat_le n high) n (IsBetween low high)
    (λ both. (leb-true low n (first_true _ _ both), leb-true n high (second_true _ _ both))))

required-range : (low high : ℕ) (name : Text) (rows : List Row) → IfSome (required (number_between low high) name rows) (IsBetween low high)
required-range low high name rows = IfSome-and_then (number_between low high) (first_of name rows) _ (number_between-range low high)

optional-holds : {A : Type 0} (form : Text → Option A) (default : A) (name : Text) (rows : List Row) (P : A → Type 0) → P default
    → ((text : Text) → IfSome (form text) P) → IfSome (optional form default name rows) P
optional-holds form default name rows P holds each_holds = go (first_of name rows)
  where
    go : (o : Option Text) → IfSome (Rattle.std.specs.Option.option_map_or form o (Some default)) P
    go None = holds
    go (Some text) = each_holds text

IfSome-each : {A : Type 0} (form : Text → Option A) (texts : List Text) → IfSome (each form texts) (λ xs. length xs ≡ length texts)
IfSome-each form [] = refl
IfSome-each {A} form (text ∷ texts) = go (form text) (each form texts) (IfSome-each form texts)
  where
    go : (o : Option A) (more : Option (List A)) → IfSome more (λ xs. length xs ≡ length texts)
        → IfSome (option_and_then (λ x. option_map (λ xs. x ∷ xs) more) o) (λ xs. length xs ≡ length (text ∷ texts))
    go None more rest = tt
    go (Some x) None rest = tt
    go (Some x) (Some xs) rest = ap suc rest

abbrev AreCuts : List ℕ → Type 0
AreCuts rows = (1 ≤ length rows) × (length rows ≤ 4095)

numbers_of-range : (text : Text) → IfSome (numbers_of text) AreCuts
unfolding numbers_of
numbers_of-range text = go (each number_of parts) (IfSome-each number_of parts)
  where
    parts : List Text
    parts = slice_split is_comma text

    go : (o : Option (List ℕ)) → IfSome o (λ ns. length ns ≡ length parts)
        → IfSome (option_and_then (λ ns. cond (nat_le (length ns) 4095) (Some ns) None) o) AreCuts
    go None is = tt
    go (Some ns) is =
        IfSome-test (nat_le (length ns) 4095) ns AreCuts (λ few. (let all = length-slice_split is_comma text in omega (arith, is, all), leb-true _ _ few))

-- ---- rates

rate-range : (p q : ℕ) → IfSome (rate p q) IsRates
rate-range p q = IfSome-test (is_rate p q) (rates (pos p) (pos p) (pos q)) IsRates (rate_allowed p q)

rate_of_two-range : (numbers : List ℕ) → IfSome (rate_of_two numbers) IsRates
rate_of_two-range [] = tt
rate_of_two-range (p ∷ []) = tt
rate_of_two-range (p ∷ q ∷ []) = rate-range p q
rate_of_two-range (p ∷ q ∷ r ∷ more) = tt

rate_of-range : (text : Text) → IfSome (rate_of text) IsRates
unfolding rate_of
rate_of-range text = IfSome-and_then rate_of_two (each number_of (slice_split is_comma text)) IsRates rate_of_two-range

tracer_rate_of-range : (rows : List Row) → IfSome (tracer_rate_of rows) IsRates
tracer_rate_of-range rows = optional-holds rate_of (rates (pos 1) (pos 1) (pos 1)) (codes "rate") rows IsRates (rate_allowed 1 1 refl) rate_of-range

-- ---- requests

cut-range : (text : Text) → IfSome (option_map Some (numbers_of text)) (λ cut. IfSome cut AreCuts)
cut-range text = go (numbers_of text) (numbers_of-range text)
  where
    go : (o : Option (List ℕ)) → IfSome o AreCuts → IfSome (option_map Some o) (λ cut. IfSome cut AreCuts)
    go None holds = tt
    go (Some rows) holds = holds

choice_of-ranges : (rows : List Row) → IfSome (choice_of rows) IsChoice
unfolding choice_of
choice_of-ranges rows =
    IfSome-pass (optional pattern_named Aa (codes "pattern") rows) _ IsChoice
    (λ pattern.
    IfSome-bind (optional (number_between 1 64) 1 (codes "workers") rows) _ (IsBetween 1 64) IsChoice
    (optional-holds (number_between 1 64) 1 (codes "workers") rows (IsBetween 1 64) (omega arith, omega arith) (number_between-range 1 64))
    (λ workers few_workers.
    IfSome-bind (optional (λ text. option_map Some (numbers_of text)) None (codes "cut") rows) _ (λ cut. IfSome cut AreCuts) IsChoice
    (optional-holds (λ text. option_map Some (numbers_of text)) None (codes "cut") rows (λ cut. IfSome cut AreCuts) tt cut-range)
    (λ cut few_cuts.
    IfSome-bind (optional (number_between 1 4096) 8 (codes "tile") rows) _ (IsBetween 1 4096) IsChoice
    (optional-holds (number_between 1 4096) 8 (codes "tile") rows (IsBetween 1 4096) (omega arith, omega arith) (number_between-range 1 4096))
    (λ tile few_rows. record {
      some_workers = few_workers.0;
      few_workers = few_workers.1;
      cut = few_cuts;
      some_rows = few_rows.0;
      few_rows = few_rows.1;
    }))))

is_other-differs : (name : Text) (other : Option Text) → is_other name other ≡ true → IfSome other (λ text. text ≢ name)
is_other-differs name None test = tt
is_other-differs name (Some text) test =
    λ same. true≢false (sym test ∙ ap not ((bytes_eq-Decides text name).1 same))

run_of-ranges : (rows : List Row) → IfSome (run_of rows) IsRun
unfolding run_of
run_of-ranges rows =
    let save = first_of (codes "save") rows in
    IfSome-pass (first_of (codes "case") rows) _ IsRun
    (λ case.
    IfSome-bind (steps_of rows) _ (IsBetween 0 1000000) IsRun (required-range 0 1000000 (codes "steps") rows)
    (λ steps few_steps.
    IfSome-pass (first_of (codes "out") rows) _ IsRun
    (λ out.
    IfSome-bind (choice_of rows) _ IsChoice IsRun (choice_of-ranges rows)
    (λ choice choice_is.
    IfSome-pass (format_of rows) _ IsRun
    (λ format.
    let distinct = is_other case (Some out) && is_other case save && is_other out save in
    IfSome-bind (demand distinct) _ (λ _. distinct ≡ true) IsRun (IfSome-demand distinct)
    (λ _ differ. record {
      few_steps = few_steps.1;
      choice = choice_is;
      out_is_not_case = is_other-differs case (Some out) (first_true _ (is_other case save) (first_true _ (is_other out save) differ));
      save_is_not_out = is_other-differs out save (second_true (is_other case (Some out) && is_other case save) _ differ);
      save_is_not_case = is_other-differs case save (second_true (is_other case (Some out)) _ (first_true _ (is_other out save) differ));
    }))))))

voxels_of-ranges : (rows : List Row) → IfSome (voxels_of rows) IsRequest
unfolding voxels_of
voxels_of-ranges rows =
    IfSome-pass (first_of (codes "file") rows) _ IsRequest
    (λ file.
    IfSome-bind (run_of rows) _ IsRun IsRequest (run_of-ranges rows)
    (λ r is.
    let distinct = is_other file (Some r.out) && is_other file r.save in
    IfSome-bind (demand distinct) _ (λ _. distinct ≡ true) IsRequest (IfSome-demand distinct)
    (λ _ differ. record {
      run = is;
      out_is_not_file = is_other-differs file (Some r.out) (first_true _ (is_other file r.save) differ);
      save_is_not_file = is_other-differs file r.save (second_true (is_other file (Some r.out)) _ differ);
    })))

check_of-ranges : (rows : List Row) → IfSome (check_of rows) IsRequest
unfolding check_of
check_of-ranges rows = IfSome-pass (first_of (codes "case") rows) _ IsRequest (λ case. tt)

demo_of-ranges : (rows : List Row) → IfSome (demo_of rows) IsRequest
unfolding demo_of
demo_of-ranges rows =
    let save = first_of (codes "save") rows in
    IfSome-bind (required (number_between 1 128) (codes "n") rows) _ (IsBetween 1 128) IsRequest (required-range 1 128 (codes "n") rows)
    (λ n few.
    IfSome-bind (steps_of rows) _ (IsBetween 0 1000000) IsRequest (required-range 0 1000000 (codes "steps") rows)
    (λ steps few_steps.
    IfSome-pass (first_of (codes "out") rows) _ IsRequest
    (λ out.
    IfSome-bind (choice_of rows) _ IsChoice IsRequest (choice_of-ranges rows)
    (λ choice choice_is.
    IfSome-pass (format_of rows) _ IsRequest
    (λ format.
    IfSome-bind (demand (is_other out save)) _ (λ _. is_other out save ≡ true) IsRequest (IfSome-demand (is_other out save))
    (λ _ differ. record {
      some = few.0;
      few = few.1;
      few_steps = few_steps.1;
      choice = choice_is;
      save_is_not_out = is_other-differs out save differ;
    }))))))

tracer_of-ranges : (rows : List Row) → IfSome (tracer_of rows) IsRequest
unfolding tracer_of
tracer_of-ranges rows =
    IfSome-pass (first_of (codes "case") rows) _ IsRequest
    (λ case.
    IfSome-bind (steps_of rows) _ (IsBetween 0 1000000) IsRequest (required-range 0 1000000 (codes "steps") rows)
    (λ steps few_steps.
    IfSome-pass (first_of (codes "out") rows) _ IsRequest
    (λ out.
    IfSome-pass (first_of (codes "trace") rows) _ IsRequest
    (λ trace.
    IfSome-bind (required (number_between 1 16777216) (codes "amount") rows) _ (IsBetween 1 16777216) IsRequest (required-range 1 16777216 (codes "amount") rows)
    (λ amount few.
    IfSome-pass (required number_of (codes "cell") rows) _ IsRequest
    (λ cell.
    IfSome-bind (tracer_rate_of rows) _ IsRates IsRequest (tracer_rate_of-range rows)
    (λ rate allowed.
    IfSome-bind (choice_of rows) _ IsChoice IsRequest (choice_of-ranges rows)
    (λ choice choice_is.
    IfSome-pass (format_of rows) _ IsRequest
    (λ format.
    let distinct = is_other case (Some out) && is_other case (Some trace) && is_other out (Some trace) in
    IfSome-bind (demand distinct) _ (λ _. distinct ≡ true) IsRequest (IfSome-demand distinct)
    (λ _ differ. record {
      few_steps = few_steps.1;
      some = few.0;
      few = few.1;
      rates = allowed;
      choice = choice_is;
      out_is_not_case = is_other-differs case (Some out) (first_true _ (is_other case (Some trace)) (first_true _ (is_other out (Some trace)) differ));
      trace_is_not_case = is_other-differs case (Some trace) (second_true (is_other case (Some out)) _ (first_true _ (is_other out (Some trace)) differ));
      trace_is_not_out = is_other-differs out (Some trace) (second_true (is_other case (Some out) && is_other case (Some trace)) _ differ);
    }))))))))))

asked-ranges : (kind : CommandKind) (rows : List Row) → IfSome (asked kind rows) IsRequest
asked-ranges commands.Run rows = IfSome-option_map run (run_of rows) IsRun IsRequest (run_of-ranges rows) (λ r is. is)
asked-ranges commands.Check rows = check_of-ranges rows
asked-ranges commands.Demo rows = demo_of-ranges rows
asked-ranges commands.Voxels rows = voxels_of-ranges rows
asked-ranges commands.Tracer rows = tracer_of-ranges rows

pub read_by-ranges : (kind : CommandKind) (words : List Text) → IfSome (read_by kind words) IsRequest
unfolding read_by
read_by-ranges kind words = IfSome-pass (taken (app_for kind) words) (asked kind) IsRequest (asked-ranges kind)

-- what a function gave is in range where the reading is
pub Gives-ranges : {X Y : Type 0} (view : X → Y) (r : Result X WordsEnd) (reading : Option Y) (P : Y → Type 0) → Gives view r reading → IfSome reading P → IfOk r (λ x. P (view x))
Gives-ranges view (Ok x) reading P gives holds = subst (λ o. IfSome o P) gives holds
Gives-ranges view (Err end) reading P gives holds = tt
