use Rattle.std.proofs.Common.{◌≡◌, ◌≢◌, ℕ, ◌<◌, length}
use Rattle.lbm_space.specs.Cuttings.{slabs_of}
use Rattle.lbm_grid.specs.Strips.{IsSaved}
use Rattle.lbm_grid.proofs.strips.save_slab.Given as goal

abbrev pub invariant-loop-k : goal.invariant-loop-k
invariant-loop-k g l = record {
  long : length l.kept ≡ length l.initial.kept;
  saved : (m p : ℕ) → m < l.k → IsSaved l.space g.V.VelocitySet.stencil l.rises l.cut l.rooms.begins.now l.rooms.width l.from.margin l.from.base l.from.slots.now l.kept l.j m p;
  others : (i m p : ℕ) → i < slabs_of l.cut → i ≢ l.j → m < g.V.VelocitySet.stencil.directions → IsSaved l.space g.V.VelocitySet.stencil l.rises l.cut l.rooms.begins.now l.rooms.width l.from.margin l.from.base l.from.slots.now l.initial.kept i m p
      → IsSaved l.space g.V.VelocitySet.stencil l.rises l.cut l.rooms.begins.now l.rooms.width l.from.margin l.from.base l.from.slots.now l.kept i m p;
}
