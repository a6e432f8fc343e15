use Rattle.std.proofs.Common.{◌≡◌, length}
use Rattle.lbm_arrays.specs.Pads.{line_start, IsLoadedIn}
use Rattle.lbm_arrays.proofs.pads.load_layer.Given as goal

abbrev pub invariant-loop-y : goal.invariant-loop-y
invariant-loop-y l = record {
  all : length l.places ≡ length l.initial.places;
  loaded : IsLoadedIn l.space (line_start l.space 0 l.z) (line_start l.space l.y l.z) l.initial.places l.places;
}
