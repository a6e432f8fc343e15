use Rattle.std.proofs.Common.{◌≡◌}
use Rattle.lbm_space.specs.Stencil.{velocity}
use Rattle.lbm_space.specs.Torus.{cells}
use Rattle.lbm_space.specs.Padded.{place_ahead}
use Rattle.lbm_arrays.specs.Pads.{stand}
use Rattle.lbm_sweep.proofs.Copied.{AreCopied}
use Rattle.lbm_sweep.proofs.padding.store_all_pads.Given as goal

abbrev pub invariant-loop-dir : goal.invariant-loop-dir
invariant-loop-dir g l = let r = l.initial.region in let v = g.V.VelocitySet.stencil in record {
  same : l.region ≡ record r { slots = l.region.slots };
  copied : AreCopied r.space r.margin l.base l.dir (cells r.space) (λ k cell. stand r.space (place_ahead r.space (velocity v k) cell)) (λ k cell. place_ahead r.space (velocity v k) cell) r.slots l.region.slots;
}
