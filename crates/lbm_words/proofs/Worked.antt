-- Lists of words, and what the definition gives for them, by computation.
use Rattle.std.proofs.Common.{◌≡◌, ℕ, true, refl, List, [], ◌∷◌, Some, None, codes}
use Rattle.std.specs.Prelude.{is_none, pos}
use Rattle.std.specs.List.{list_all}
use Rattle.clap.proofs.OnLiterals.{clap_on_literals}
use Rattle.lbm_cell.specs.Collision.{rates}
use Rattle.lbm_vtk.specs.declared.Format.TheVariants.{Ascii, Binary}
use Rattle.lbm_words.specs.declared.request.PatternKind.TheVariants.{Aa, Tiles}
use Rattle.lbm_number.specs.Number.{number_of}
use Rattle.lbm_words.specs.Numbers.{numbers_of}
use Rattle.lbm_words.specs.Rate.{rate_of}
use Rattle.lbm_words.specs.Commands.{run_app, check_app, demo_app, voxels_app, tracer_app}
use Rattle.lbm_words.specs.Request.{run, check, voxels, tracer}
use Rattle.lbm_words.specs.Words.{request_of, read_by, run_of, check_of, demo_of, voxels_of, tracer_of, choice_of}

plain_run : request_of (codes "run" ∷ codes "c" ∷ codes "5" ∷ codes "o" ∷ []) ≡ Some (run (record {
  case = codes "c";
  steps = 5;
  out = codes "o";
  choice = record { pattern = Aa; workers = 1; cut = None; tile = 8 };
  resume = None;
  save = None;
  format = Ascii;
}))
unfolding request_of read_by run_app run_of choice_of number_of numbers_of clap_on_literals
plain_run = refl

full_run : request_of (codes "run" ∷ codes "--tile=3" ∷ codes "--workers" ∷ codes "4" ∷ codes "--save" ∷ codes "s" ∷ codes "c" ∷ codes "--cut=01,20" ∷ codes "05" ∷ codes "--resume=s" ∷ codes "--pattern" ∷ codes "tiles" ∷ codes "--format" ∷ codes "binary" ∷ codes "--" ∷ codes "--o" ∷ []) ≡ Some (run (record {
  case = codes "c";
  steps = 5;
  out = codes "--o";
  choice = record { pattern = Tiles; workers = 4; cut = Some (1 ∷ 20 ∷ []); tile = 3 };
  resume = Some (codes "s");
  save = Some (codes "s");
  format = Binary;
}))
unfolding request_of read_by run_app run_of choice_of number_of numbers_of clap_on_literals
full_run = refl

plain_check : request_of (codes "check" ∷ codes "c" ∷ []) ≡ Some (check (record { case = codes "c" }))
unfolding request_of read_by check_app check_of number_of numbers_of clap_on_literals
plain_check = refl

plain_voxels : request_of (codes "voxels" ∷ codes "v" ∷ codes "c" ∷ codes "--save" ∷ codes "s" ∷ codes "5" ∷ codes "o" ∷ []) ≡ Some (voxels (record {
  file = codes "v";
  run = record {
    case = codes "c";
    steps = 5;
    out = codes "o";
    choice = record { pattern = Aa; workers = 1; cut = None; tile = 8 };
    resume = None;
    save = Some (codes "s");
    format = Ascii;
  };
}))
unfolding request_of read_by voxels_app voxels_of run_of choice_of number_of numbers_of clap_on_literals
plain_voxels = refl

plain_tracer : request_of (codes "tracer" ∷ codes "c" ∷ codes "2" ∷ codes "o" ∷ codes "tr" ∷ codes "600" ∷ codes "0" ∷ []) ≡ Some (tracer (record {
  case = codes "c";
  steps = 2;
  out = codes "o";
  trace = codes "tr";
  amount = 600;
  cell = 0;
  rates = rates (pos 1) (pos 1) (pos 1);
  choice = record { pattern = Aa; workers = 1; cut = None; tile = 8 };
  format = Ascii;
}))
unfolding request_of read_by tracer_app tracer_of choice_of number_of numbers_of rate_of clap_on_literals
plain_tracer = refl

full_tracer : request_of (codes "tracer" ∷ codes "--rate=1023,0512" ∷ codes "c" ∷ codes "5" ∷ codes "--format" ∷ codes "binary" ∷ codes "o" ∷ codes "tr" ∷ codes "--pattern=tiles" ∷ codes "16777216" ∷ codes "999999999" ∷ []) ≡ Some (tracer (record {
  case = codes "c";
  steps = 5;
  out = codes "o";
  trace = codes "tr";
  amount = 16777216;
  cell = 999999999;
  rates = rates (pos 1023) (pos 1023) (pos 512);
  choice = record { pattern = Tiles; workers = 1; cut = None; tile = 8 };
  format = Binary;
}))
unfolding request_of read_by tracer_app tracer_of choice_of number_of numbers_of rate_of clap_on_literals
full_tracer = refl

wrong_uses : List (List (List ℕ))
wrong_uses =
    []
    ∷ (codes "walk" ∷ codes "c" ∷ [])
    ∷ (codes "run" ∷ codes "c" ∷ codes "5" ∷ [])
    ∷ (codes "run" ∷ codes "c" ∷ codes "1000001" ∷ codes "o" ∷ [])
    ∷ (codes "run" ∷ codes "c" ∷ codes "5" ∷ codes "o" ∷ codes "--workers" ∷ codes "0" ∷ [])
    ∷ (codes "run" ∷ codes "c" ∷ codes "5" ∷ codes "o" ∷ codes "--pattern" ∷ codes "AA" ∷ [])
    ∷ (codes "run" ∷ codes "c" ∷ codes "5" ∷ codes "o" ∷ codes "--cut" ∷ codes "1,,2" ∷ [])
    ∷ (codes "run" ∷ codes "c" ∷ codes "5" ∷ codes "o" ∷ codes "--save" ∷ codes "o" ∷ [])
    ∷ (codes "run" ∷ codes "c" ∷ codes "5" ∷ codes "c" ∷ [])
    ∷ (codes "demo" ∷ codes "0" ∷ codes "5" ∷ codes "o" ∷ [])
    ∷ (codes "demo" ∷ codes "1" ∷ codes "5" ∷ codes "o" ∷ codes "--resume" ∷ codes "s" ∷ [])
    ∷ (codes "run" ∷ codes "c" ∷ codes "5" ∷ codes "o" ∷ codes "--tile" ∷ codes "8" ∷ codes "--tile" ∷ codes "8" ∷ [])
    ∷ (codes "check" ∷ codes "c" ∷ codes "--tile" ∷ codes "8" ∷ [])
    ∷ (codes "run" ∷ codes "c" ∷ codes "5" ∷ codes "o" ∷ codes "-h" ∷ [])
    ∷ (codes "voxels" ∷ codes "c" ∷ codes "5" ∷ codes "o" ∷ [])
    ∷ (codes "voxels" ∷ codes "v" ∷ codes "c" ∷ codes "5" ∷ codes "v" ∷ [])
    ∷ (codes "voxels" ∷ codes "v" ∷ codes "c" ∷ codes "5" ∷ codes "c" ∷ [])
    ∷ (codes "voxels" ∷ codes "v" ∷ codes "c" ∷ codes "5" ∷ codes "o" ∷ codes "--save" ∷ codes "v" ∷ [])
    ∷ (codes "tracer" ∷ codes "c" ∷ codes "5" ∷ codes "o" ∷ codes "tr" ∷ codes "600" ∷ [])
    ∷ (codes "tracer" ∷ codes "c" ∷ codes "5" ∷ codes "o" ∷ codes "tr" ∷ codes "0" ∷ codes "0" ∷ [])
    ∷ (codes "tracer" ∷ codes "c" ∷ codes "5" ∷ codes "o" ∷ codes "tr" ∷ codes "16777217" ∷ codes "0" ∷ [])
    ∷ (codes "tracer" ∷ codes "c" ∷ codes "5" ∷ codes "o" ∷ codes "tr" ∷ codes "600" ∷ codes "0000000001" ∷ [])
    ∷ (codes "tracer" ∷ codes "c" ∷ codes "5" ∷ codes "o" ∷ codes "tr" ∷ codes "600" ∷ codes "0" ∷ codes "--rate" ∷ codes "2,1" ∷ [])
    ∷ (codes "tracer" ∷ codes "c" ∷ codes "5" ∷ codes "o" ∷ codes "tr" ∷ codes "600" ∷ codes "0" ∷ codes "--rate" ∷ codes "0,1" ∷ [])
    ∷ (codes "tracer" ∷ codes "c" ∷ codes "5" ∷ codes "o" ∷ codes "tr" ∷ codes "600" ∷ codes "0" ∷ codes "--rate" ∷ codes "1,1025" ∷ [])
    ∷ (codes "tracer" ∷ codes "c" ∷ codes "5" ∷ codes "o" ∷ codes "tr" ∷ codes "600" ∷ codes "0" ∷ codes "--rate" ∷ codes "1" ∷ [])
    ∷ (codes "tracer" ∷ codes "c" ∷ codes "5" ∷ codes "o" ∷ codes "tr" ∷ codes "600" ∷ codes "0" ∷ codes "--rate" ∷ codes "1,1,1" ∷ [])
    ∷ (codes "tracer" ∷ codes "c" ∷ codes "5" ∷ codes "o" ∷ codes "tr" ∷ codes "600" ∷ codes "0" ∷ codes "--save" ∷ codes "s" ∷ [])
    ∷ (codes "tracer" ∷ codes "c" ∷ codes "5" ∷ codes "c" ∷ codes "tr" ∷ codes "600" ∷ codes "0" ∷ [])
    ∷ (codes "tracer" ∷ codes "c" ∷ codes "5" ∷ codes "o" ∷ codes "c" ∷ codes "600" ∷ codes "0" ∷ [])
    ∷ (codes "tracer" ∷ codes "c" ∷ codes "5" ∷ codes "o" ∷ codes "o" ∷ codes "600" ∷ codes "0" ∷ [])
    ∷ []

all_refused : list_all (λ words. is_none (request_of words)) wrong_uses ≡ true
unfolding request_of read_by run_app check_app demo_app voxels_app tracer_app run_of check_of demo_of voxels_of tracer_of choice_of number_of numbers_of rate_of clap_on_literals wrong_uses
all_refused = refl
