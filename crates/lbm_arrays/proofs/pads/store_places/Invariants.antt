use Rattle.std.proofs.Common.{◌≡◌, length}
use Rattle.lbm_space.specs.Padded.{offset}
use Rattle.lbm_arrays.specs.Pads.{line_start, IsStoredIn}
use Rattle.lbm_arrays.proofs.pads.store_places.Given as goal

abbrev pub invariant-loop-z : goal.invariant-loop-z
invariant-loop-z l = record {
  all : length l.places ≡ length l.initial.places;
  stored : IsStoredIn l.space (offset l.space l.c) (line_start l.space 0 0) (line_start l.space 0 l.z) l.initial.places l.places;
}
