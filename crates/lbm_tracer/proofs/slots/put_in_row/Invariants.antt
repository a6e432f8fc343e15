use Rattle.std.proofs.Common.{◌≡◌, ◌≢◌, ℕ, ◌<◌, length}
use Rattle.lbm_space.specs.Torus.{cells}
use Rattle.lbm_cell.specs.Moments.{populations}
use Rattle.lbm_tracer.specs.Tracing.{set_in}
use Rattle.lbm_tracer.specs.Carried.{amount_in}
use Rattle.lbm_tracer.specs.Rows.{cell_at}
use Rattle.lbm_tracer.proofs.slots.put_in_row.Given as goal

abbrev pub invariant-loop-k : goal.invariant-loop-k
invariant-loop-k g l =
    let t = l.row.space in let time = l.row.time in
    record {
      same : l.region ≡ record l.initial.region { slots = l.region.slots };
      size : length l.region.slots ≡ length l.initial.region.slots;
      here : (k : ℕ) → k < l.k → amount_in t time l.region.slots (cell_at l.row l.x) k ≡ populations l.amounts k;
      others : (y k : ℕ) → y < cells t → k < (set_in t).directions → y ≢ cell_at l.row l.x → amount_in t time l.region.slots y k ≡ amount_in t time l.initial.region.slots y k;
    }
