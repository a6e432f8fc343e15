use Rattle.lbm_swap.proofs.Pads.{HasStored}
use Rattle.lbm_swap.proofs.padding.store_pads_ahead.Given as goal

abbrev pub invariant-loop-dir : goal.invariant-loop-dir
invariant-loop-dir g l = HasStored g.V.VelocitySet.stencil l.base l.dir l.initial.region l.region
