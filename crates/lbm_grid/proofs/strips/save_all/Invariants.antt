use Rattle.std.proofs.Common.{◌≡◌, length}
use Rattle.lbm_grid.specs.Strips.{AreSaved}
use Rattle.lbm_grid.proofs.strips.save_all.Given as goal

abbrev pub invariant-loop-j : goal.invariant-loop-j
invariant-loop-j g l = record {
  long : length l.kept ≡ length l.initial.kept;
  saved : AreSaved l.space g.V.VelocitySet.stencil l.rises l.cut l.rooms.begins.now l.rooms.width l.from.margin l.from.base l.j l.from.slots.now l.kept;
}
