use Rattle.std.proofs.Common.{◌≡◌, ℕ, ◌<◌, ◌≤◌, pos, unsigned_abs, ap, subst, ◌∙◌}
use Rattle.lbm_space.specs.Stencil.{Stencil}
use Rattle.lbm_cell.specs.Moments.{populations}
use Rattle.lbm_arrays.specs.Arrays.{Arrays}
use Rattle.lbm_tracer.specs.Limits.{amount_bound}
use Rattle.lbm_tracer.specs.Collision.{first_amount}
use Rattle.lbm_tracer.specs.Tracing.{set_in}
use Rattle.lbm_tracer.specs.Carried.{IsTracerRegion}
use Rattle.lbm_tracer.proofs.Putting.{laid_again}
use Rattle.lbm_tracer.proofs.States.{first_placed}
use Rattle.lbm_tracer.proofs.tracer.first_region.Goals as goal

pub returns : goal.returns
returns g c =
    let t = c.args.space.now in let made = c.in_ok-region.ensures in let first = populations c.first_amounts.result in
    let count : c.q.result ≡ (set_in t).directions = c.q.ensures ∙ ap (λ (v : Stencil). v.directions) c.of-set.ensures in
    let laid : IsTracerRegion t c.in_ok-region.region = record { space = ap (λ (r : Arrays). r.space) made; count = ap (λ (r : Arrays). r.count) made ∙ count; margin = ap (λ (r : Arrays). r.margin) made } in
    let placed = first_placed t c.args.amount c.args.cell c.q.result c.in_ok-region.region.slots c.put_amounts.new.region.slots first c.padded.ensures.valid count (ap (λ (r : Arrays). r.slots) made)
    c.put_amounts.ensures.here c.put_amounts.ensures.others
    (subst (λ (v : Stencil). (k : ℕ) → k < v.directions → first k ≡ first_amount v (pos c.args.amount) k) c.of-set.ensures c.first_amounts.ensures.value)
    (subst (λ (v : Stencil). (k : ℕ) → k < v.directions → unsigned_abs (first k) ≤ amount_bound) c.of-set.ensures c.first_amounts.ensures.size) in
    record { laid = laid_again t c.in_ok-region.region c.put_amounts.new.region c.put_amounts.ensures.same laid; state = placed.0; few = placed.1 }
