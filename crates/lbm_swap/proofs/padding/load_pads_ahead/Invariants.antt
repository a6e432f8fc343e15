use Rattle.lbm_swap.proofs.Pads.{HasLoaded}
use Rattle.lbm_swap.proofs.padding.load_pads_ahead.Given as goal

abbrev pub invariant-loop-dir : goal.invariant-loop-dir
invariant-loop-dir g l = HasLoaded g.V.VelocitySet.stencil l.base l.dir l.initial.region l.region
