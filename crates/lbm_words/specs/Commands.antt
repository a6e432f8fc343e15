-- The commands, as the crate `clap` reads their words.
use Rattle.std.specs.Prelude.{true, List, [], ◌∷◌, ◌++◌, map, Some, codes}
use Rattle.clap.specs.Walk.{Rule, Text}
use Rattle.clap.specs.Simple.{App, new_app, new_rule, on_top}
use Rattle.clap.specs.declared.builder.action.ArgAction.TheVariants.{Set}
use Rattle.lbm_words.specs.declared.commands.CommandKind.{CommandKind}
use Rattle.lbm_words.specs.declared.commands.CommandKind.TheVariants.{Run, Check, Demo, Voxels, Tracer}

-- a positional word, which has to be there
abbrev pub positional : Text → Rule
positional name = record (new_rule name) { required = true; action = Some Set }

-- an option with one value, `--name value` or `--name=value`, which is given at most once
abbrev pub option : Text → Rule
option name = record (new_rule name) { long = Some name; action = Some Set }

-- a command with more arguments
abbrev pub with_rules : App → List Rule → App
with_rules app rules = on_top (λ s. record s { rules = s.rules ++ rules }) app

-- a command without arguments, not even flags for help and the version
abbrev pub bare : Text → App
bare name = on_top (λ s. record s { disable_help_flag = true; disable_version_flag = true }) (new_app name)

-- a command with these positional words, in order, and these options
abbrev pub command_of : Text → List Text → List Text → App
command_of name positionals options = with_rules (with_rules (bare name) (map positional positionals)) (map option options)

-- the options that say how the lattice is worked through
abbrev pub choice_options : List Text
choice_options = codes "pattern" ∷ codes "workers" ∷ codes "cut" ∷ codes "tile" ∷ []

-- the options of a run of a case file
abbrev pub run_options : List Text
run_options = choice_options ++ codes "resume" ∷ codes "save" ∷ codes "format" ∷ []

unfoldable pub run_app : App
run_app = command_of (codes "run") (codes "case" ∷ codes "steps" ∷ codes "out" ∷ []) run_options

unfoldable pub check_app : App
check_app = command_of (codes "check") (codes "case" ∷ []) []

unfoldable pub demo_app : App
demo_app =
    command_of (codes "demo") (codes "n" ∷ codes "steps" ∷ codes "out" ∷ [])
    (choice_options ++ codes "save" ∷ codes "format" ∷ [])

unfoldable pub voxels_app : App
voxels_app = command_of (codes "voxels") (codes "file" ∷ codes "case" ∷ codes "steps" ∷ codes "out" ∷ []) run_options

unfoldable pub tracer_app : App
tracer_app =
    command_of (codes "tracer") (codes "case" ∷ codes "steps" ∷ codes "out" ∷ codes "trace" ∷ codes "amount" ∷ codes "cell" ∷ [])
    (choice_options ++ codes "format" ∷ codes "rate" ∷ [])

-- a command of the program
abbrev pub app_for : CommandKind → App
app_for Run = run_app
app_for Check = check_app
app_for Demo = demo_app
app_for Voxels = voxels_app
app_for Tracer = tracer_app
