use Rattle.std.proofs.Common.{◌≡◌, length}
use Rattle.lbm_sweep.specs.Held.{BeginAt}
use Rattle.lbm_sweep.proofs.slots.first_slots.Given as goal

abbrev pub invariant-loop-i : goal.invariant-loop-i
invariant-loop-i l = record {
  long : length l.slots ≡ 27;
  begin : BeginAt l.i l.loan.place l.arrays l.slots;
}
