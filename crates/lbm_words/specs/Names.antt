-- The names of the commands, of the patterns and of the formats.
use Rattle.std.specs.Prelude.{ℕ, List, codes, if◌then◌else◌, Option, Some, None}
use Rattle.std.specs.Str.{bytes_eq}
use Rattle.lbm_vtk.specs.declared.Format.{Format}
use Rattle.lbm_vtk.specs.declared.Format.TheVariants.{Ascii, Binary}
use Rattle.lbm_words.specs.declared.commands.CommandKind.{CommandKind}
use Rattle.lbm_words.specs.declared.commands.CommandKind.TheVariants as commands
use Rattle.lbm_words.specs.declared.request.PatternKind.{PatternKind}
use Rattle.lbm_words.specs.declared.request.PatternKind.TheVariants.{Two, Swap, Grid, Aa, Tiles}

-- the command of a name
abbrev pub command_named : List ℕ → Option CommandKind
command_named name =
    if bytes_eq name (codes "run") then Some commands.Run
    else if bytes_eq name (codes "check") then Some commands.Check
    else if bytes_eq name (codes "demo") then Some commands.Demo
    else if bytes_eq name (codes "voxels") then Some commands.Voxels
    else if bytes_eq name (codes "tracer") then Some commands.Tracer
    else None

-- the pattern of a name
abbrev pub pattern_named : List ℕ → Option PatternKind
pattern_named name =
    if bytes_eq name (codes "two") then Some Two
    else if bytes_eq name (codes "swap") then Some Swap
    else if bytes_eq name (codes "grid") then Some Grid
    else if bytes_eq name (codes "aa") then Some Aa
    else if bytes_eq name (codes "tiles") then Some Tiles
    else None

-- the format of a name
abbrev pub format_named : List ℕ → Option Format
format_named name = if bytes_eq name (codes "ascii") then Some Ascii else if bytes_eq name (codes "binary") then Some Binary else None
