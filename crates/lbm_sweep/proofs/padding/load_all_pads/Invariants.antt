use Rattle.std.proofs.Common.{◌≡◌}
use Rattle.lbm_space.specs.Torus.{padded}
use Rattle.lbm_arrays.specs.Pads.{stand}
use Rattle.lbm_sweep.proofs.Copied.{AreCopied}
use Rattle.lbm_sweep.proofs.padding.load_all_pads.Given as goal

abbrev pub invariant-loop-dir : goal.invariant-loop-dir
invariant-loop-dir g l = let r = l.initial.region in record {
  same : l.region ≡ record r { slots = l.region.slots };
  copied : AreCopied r.space r.margin l.base l.dir (padded r.space) (λ k p. p) (λ k p. stand r.space p) r.slots l.region.slots;
}
