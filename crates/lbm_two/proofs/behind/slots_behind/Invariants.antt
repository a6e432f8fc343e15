use Rattle.std.proofs.Common.{◌≡◌, length}
use Rattle.lbm_two.specs.Behind.{AreBehind}
use Rattle.lbm_two.proofs.behind.slots_behind.Given as goal

abbrev pub invariant-loop-i : goal.invariant-loop-i
invariant-loop-i g l = record {
  long : length l.slots ≡ 27;
  behind : AreBehind l.space g.V.VelocitySet.stencil l.first l.i l.slots;
}
