-- What words ask for. Names are the bytes of the words.
use Rattle.std.specs.Prelude.{ℕ, ◌≤◌, ◌≢◌, List, length, option_map, Option, IfSome}
use Rattle.lbm_cell.specs.Collision.{RelaxationRates, IsRates}
use Rattle.lbm_model.specs.Limits.{most_steps}
use Rattle.lbm_vtk.specs.declared.Format.{Format}
use Rattle.lbm_words.specs.declared.request.PatternKind.{PatternKind}
use Rattle.lbm_words.specs.declared.request.Choice.{Choice as CodeChoice}
use Rattle.lbm_words.specs.declared.request.Run.{Run as CodeRun}
use Rattle.lbm_words.specs.declared.request.Check.{Check as CodeCheck}
use Rattle.lbm_words.specs.declared.request.Demo.{Demo as CodeDemo}
use Rattle.lbm_words.specs.declared.request.Voxels.{Voxels as CodeVoxels}
use Rattle.lbm_words.specs.declared.request.Tracer.{Tracer as CodeTracer}
use Rattle.lbm_words.specs.declared.request.Request.{Request as CodeRequest}
use Rattle.lbm_words.specs.declared.request.Request.TheVariants as code

-- how the lattice is worked through: the pattern, the number of workers, the rows at which it is cut, where they are
-- given, and the number of rows of a tile
pub record Choice : Type 0 where
  pub pattern : PatternKind
  pub workers : ℕ
  pub cut : Option (List ℕ)
  pub tile : ℕ

-- a run of the case in a file, over a number of steps, whose result goes to a file `out`; it may begin with a checkpoint
-- and save its last one
pub record Run : Type 0 where
  pub case : List ℕ
  pub steps : ℕ
  pub out : List ℕ
  pub choice : Choice
  pub resume : Option (List ℕ)
  pub save : Option (List ℕ)
  pub format : Format

-- a check of the case in a file
pub record Check : Type 0 where
  pub case : List ℕ

-- a run of the generated case of a size n
pub record Demo : Type 0 where
  pub n : ℕ
  pub steps : ℕ
  pub out : List ℕ
  pub choice : Choice
  pub save : Option (List ℕ)
  pub format : Format

-- a run of the case in a file in the geometry of a voxel file
pub record Voxels : Type 0 where
  pub file : List ℕ
  pub run : Run

-- A run of the case in a file, from its first state, with a tracer in its flow, whose result goes to a file `out` and that of the
-- tracer to a file `trace`. Of the tracer there is an amount, which begins in one cell and relaxes by its own rate.
pub record Tracer : Type 0 where
  pub case : List ℕ
  pub steps : ℕ
  pub out : List ℕ
  pub trace : List ℕ
  pub amount : ℕ
  pub cell : ℕ
  pub rates : RelaxationRates
  pub choice : Choice
  pub format : Format

pub data Request : Type 0 where
  run : Run → Request
  check : Check → Request
  demo : Demo → Request
  voxels : Voxels → Request
  tracer : Tracer → Request

-- what the values of the code stand for
abbrev pub choice_view : CodeChoice → Choice
choice_view c = record { pattern = c.pattern; workers = c.workers; cut = option_map (λ rows. rows.items) c.cut; tile = c.tile }

abbrev pub run_view : CodeRun → Run
run_view r = record {
  case = r.case.now;
  steps = r.steps;
  out = r.out.now;
  choice = choice_view r.choice;
  resume = option_map (λ name. name.now) r.resume;
  save = option_map (λ name. name.now) r.save;
  format = r.format;
}

abbrev pub check_view : CodeCheck → Check
check_view r = record { case = r.case.now }

abbrev pub demo_view : CodeDemo → Demo
demo_view r = record {
  n = r.n;
  steps = r.steps;
  out = r.out.now;
  choice = choice_view r.choice;
  save = option_map (λ name. name.now) r.save;
  format = r.format;
}

abbrev pub voxels_view : CodeVoxels → Voxels
voxels_view v = record { file = v.file.now; run = run_view v.run }

abbrev pub tracer_view : CodeTracer → Tracer
tracer_view r = record {
  case = r.case.now;
  steps = r.steps;
  out = r.out.now;
  trace = r.trace.now;
  amount = r.amount;
  cell = r.cell;
  rates = r.rates;
  choice = choice_view r.choice;
  format = r.format;
}

abbrev pub request_view : CodeRequest → Request
request_view (code.Run r) = run (run_view r)
request_view (code.Check r) = check (check_view r)
request_view (code.Demo r) = demo (demo_view r)
request_view (code.Voxels r) = voxels (voxels_view r)
request_view (code.Tracer r) = tracer (tracer_view r)

-- the ranges of the numbers
pub record IsChoice (c : Choice) : Type 0 where
  pub some_workers : 1 ≤ c.workers
  pub few_workers : c.workers ≤ 64
  pub cut : IfSome c.cut (λ rows. (1 ≤ length rows) × (length rows ≤ 4095))
  pub some_rows : 1 ≤ c.tile
  pub few_rows : c.tile ≤ 4096

-- the ranges of the numbers, and the names that differ
pub record IsRun (r : Run) : Type 0 where
  pub few_steps : r.steps ≤ most_steps
  pub choice : IsChoice r.choice
  pub out_is_not_case : r.out ≢ r.case
  pub save_is_not_out : IfSome r.save (λ save. save ≢ r.out)
  pub save_is_not_case : IfSome r.save (λ save. save ≢ r.case)

pub record IsDemo (r : Demo) : Type 0 where
  pub some : 1 ≤ r.n
  pub few : r.n ≤ 128
  pub few_steps : r.steps ≤ most_steps
  pub choice : IsChoice r.choice
  pub save_is_not_out : IfSome r.save (λ save. save ≢ r.out)

pub record IsVoxels (v : Voxels) : Type 0 where
  pub run : IsRun v.run
  pub out_is_not_file : v.run.out ≢ v.file
  pub save_is_not_file : IfSome v.run.save (λ save. save ≢ v.file)

-- of a tracer there is at most so much
abbrev pub most_amount : ℕ
most_amount = 16777216

pub record IsTracer (r : Tracer) : Type 0 where
  pub few_steps : r.steps ≤ most_steps
  pub some : 1 ≤ r.amount
  pub few : r.amount ≤ most_amount
  pub rates : IsRates r.rates
  pub choice : IsChoice r.choice
  pub out_is_not_case : r.out ≢ r.case
  pub trace_is_not_case : r.trace ≢ r.case
  pub trace_is_not_out : r.trace ≢ r.out

abbrev pub IsRequest : Request → Type 0
IsRequest (run r) = IsRun r
IsRequest (check r) = Unit {0}
IsRequest (demo r) = IsDemo r
IsRequest (voxels v) = IsVoxels v
IsRequest (tracer r) = IsTracer r
