use Rattle.std.proofs.Common.{◌≡◌, ℕ, List, slice_index_or, ap, subst}
use Rattle.lbm_tracer.specs.FlowRows.{HasRoom}
use Rattle.lbm_tracer.proofs.tracer.Tracer.start.Goals as goal

pub invariant_of-result : goal.invariant_of-result
invariant_of-result g c =
    let wide : slice_index_or c.sides.result 0 0 ≡ c.space.result.now.nx = ap (λ (s : List ℕ). slice_index_or s 0 0) c.sides.ensures.value in
    (record { laid = c.in_ok-region.ensures.laid; few = λ unspent. c.in_ok-region.ensures.few }, subst (λ (n : ℕ). HasRoom n c.in_ok-flows.flows) wide c.in_ok-flows.ensures)
