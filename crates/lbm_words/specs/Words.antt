-- What the words after the program's name ask for. `None` is a wrong use of the program.
use Rattle.std.specs.Prelude.{ℕ, List, [], ◌∷◌, codes, Bool, true, not, ◌&&◌, if◌then◌else◌, Option, Some, None, option_and_then, option_map, pos}
use Rattle.std.specs.Option.{option_map_or}
use Rattle.std.specs.Str.{bytes_eq}
use Rattle.clap.specs.Walk.{Row, Text, first_of, is_empty, rows_of}
use Rattle.clap.specs.Simple.{App, matches_of}
use Rattle.clap.specs.Faults.{fault_of}
use Rattle.clap.specs.Matches.{found_of}
use Rattle.clap.specs.declared.parser.matches.ArgMatches.{ArgMatches}
use Rattle.lbm_vtk.specs.declared.Format.{Format}
use Rattle.lbm_vtk.specs.declared.Format.TheVariants.{Ascii}
use Rattle.lbm_words.specs.declared.commands.CommandKind.{CommandKind}
use Rattle.lbm_words.specs.declared.commands.CommandKind.TheVariants as commands
use Rattle.lbm_words.specs.declared.request.PatternKind.TheVariants.{Aa}
use Rattle.lbm_model.specs.Limits.{most_steps}
use Rattle.lbm_cell.specs.Collision.{RelaxationRates, rates}
use Rattle.lbm_number.specs.Number.{number_of}
use Rattle.lbm_words.specs.Numbers.{number_between, numbers_of}
use Rattle.lbm_words.specs.Names.{command_named, pattern_named, format_named}
use Rattle.lbm_words.specs.Rate.{rate_of}
use Rattle.lbm_words.specs.Commands.{app_for}
use Rattle.lbm_words.specs.Request.{Choice, Run, Request, run, check, demo, voxels, tracer, most_amount}

-- what is read goes on to f, and a refusal ends the reading
infixl 10 ◌>>=◌
abbrev pub ◌>>=◌ : {A B : Type 0} → Option A → (A → Option B) → Option B
(Some x) >>= f = f x
None >>= f = None

-- a refusal where a test fails
abbrev pub demand : Bool → Option (Unit {0})
demand test = if test then Some tt else None

-- the value of a positional word, in a form
abbrev pub required : {A : Type 0} → (Text → Option A) → Text → List Row → Option A
required form name rows = option_and_then form (first_of name rows)

-- the value of an option, in a form, or a default where the option is absent
abbrev pub optional : {A : Type 0} → (Text → Option A) → A → Text → List Row → Option A
optional form default name rows = option_map_or form (first_of name rows) (Some default)

-- the number of steps
abbrev pub steps_of : List Row → Option ℕ
steps_of = required (number_between 0 most_steps) (codes "steps")

-- the format of the result
abbrev pub format_of : List Row → Option Format
format_of = optional format_named Ascii (codes "format")

-- the values that say how the lattice is worked through
unfoldable pub choice_of : List Row → Option Choice
choice_of rows = do
  pattern ← optional pattern_named Aa (codes "pattern") rows
  workers ← optional (number_between 1 64) 1 (codes "workers") rows
  cut ← optional (λ text. option_map Some (numbers_of text)) None (codes "cut") rows
  tile ← optional (number_between 1 4096) 8 (codes "tile") rows
  Some (record { pattern = pattern; workers = workers; cut = cut; tile = tile })

-- whether a name that may be absent is another one
abbrev pub is_other : Text → Option Text → Bool
is_other name other = option_map_or (λ text. not (bytes_eq text name)) other true

-- the run that the values ask for, where the names of the case, the result and the saved file are different
unfoldable pub run_of : List Row → Option Run
run_of rows = do
  case ← first_of (codes "case") rows
  steps ← steps_of rows
  out ← first_of (codes "out") rows
  choice ← choice_of rows
  format ← format_of rows
  distinct ← demand (is_other case (Some out) && is_other case save && is_other out save)
  Some (record { case = case; steps = steps; out = out; choice = choice; resume = resume; save = save; format = format })
  where
    resume : Option Text
    resume = first_of (codes "resume") rows

    save : Option Text
    save = first_of (codes "save") rows

-- the check that the values ask for
unfoldable pub check_of : List Row → Option Request
check_of rows = do
  case ← first_of (codes "case") rows
  Some (check (record { case = case }))

-- the run of a generated case that the values ask for, where the names of the result and the saved file are different
unfoldable pub demo_of : List Row → Option Request
demo_of rows = do
  n ← required (number_between 1 128) (codes "n") rows
  steps ← steps_of rows
  out ← first_of (codes "out") rows
  choice ← choice_of rows
  format ← format_of rows
  distinct ← demand (is_other out save)
  Some (demo (record { n = n; steps = steps; out = out; choice = choice; save = save; format = format }))
  where
    save : Option Text
    save = first_of (codes "save") rows

-- the run in the geometry of a voxel file that the values ask for, where the names of the result and the saved file are
-- others than that of the voxel file too
unfoldable pub voxels_of : List Row → Option Request
voxels_of rows = do
  file ← first_of (codes "file") rows
  r ← run_of rows
  distinct ← demand (is_other file (Some r.out) && is_other file r.save)
  Some (voxels (record { file = file; run = r }))

-- the rate of a tracer, which is 1 where the option is absent
abbrev pub tracer_rate_of : List Row → Option RelaxationRates
tracer_rate_of = optional rate_of (rates (pos 1) (pos 1) (pos 1)) (codes "rate")

-- the run with a tracer that the values ask for, where the names of the case, the result and the trace are different
unfoldable pub tracer_of : List Row → Option Request
tracer_of rows = do
  case ← first_of (codes "case") rows
  steps ← steps_of rows
  out ← first_of (codes "out") rows
  trace ← first_of (codes "trace") rows
  amount ← required (number_between 1 most_amount) (codes "amount") rows
  cell ← required number_of (codes "cell") rows
  rate ← tracer_rate_of rows
  choice ← choice_of rows
  format ← format_of rows
  distinct ← demand (is_other case (Some out) && is_other case (Some trace) && is_other out (Some trace))
  Some (tracer (record {
    case = case;
    steps = steps;
    out = out;
    trace = trace;
    amount = amount;
    cell = cell;
    rates = rate;
    choice = choice;
    format = format;
  }))

-- what the matches of a parse hold
abbrev pub rows_in : ArgMatches → List Row
rows_in matches = rows_of (found_of matches)

-- what the command finds in the words, where it takes them
abbrev pub taken : App → List Text → Option (List Row)
taken app words = if is_empty (fault_of app words) then Some (matches_of app words) else None

-- what the values of a command ask for
abbrev pub asked : CommandKind → List Row → Option Request
asked commands.Run rows = option_map run (run_of rows)
asked commands.Check rows = check_of rows
asked commands.Demo rows = demo_of rows
asked commands.Voxels rows = voxels_of rows
asked commands.Tracer rows = tracer_of rows

-- what the words ask for as words of a command
unfoldable pub read_by : CommandKind → List Text → Option Request
read_by kind words = taken (app_for kind) words >>= asked kind

-- the first word is the command; the words of the command begin with it
unfoldable pub request_of : List Text → Option Request
request_of [] = None
request_of (name ∷ rest) = command_named name >>= λ kind. read_by kind (name ∷ rest)
