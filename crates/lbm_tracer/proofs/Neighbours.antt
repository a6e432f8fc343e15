-- A direction leads from one cell to one cell.
use Rattle.std.proofs.Common.{◌≡◌, ℕ, ◌<◌, sym, ap, ◌∙◌}
use Rattle.lbm_space.specs.Stencil.{velocity, opposite}
use Rattle.lbm_space.specs.Torus.{Torus, IsSpace, cells}
use Rattle.lbm_space.proofs.Back.{HasCells-from_space, IsUnit, IsReverse, back_within, back-twice}
use Rattle.lbm_tracer.specs.Tracing.{set_in, tracer_source}
use Rattle.lbm_tracer.proofs.Sets.{IsTracerSet, set_facts}

module _ (t : Torus) (space : IsSpace t) where
  pub facts : IsTracerSet (set_in t)
  facts = set_facts t.dimension

  pub source_known : (x k : ℕ) → x < cells t → k < (set_in t).directions → tracer_source t x k < cells t
  unfolding IsUnit
  source_known x k here known = back_within t (velocity (set_in t) k) x (HasCells-from_space t space) (λ a axis. facts.unit_parts k a known axis) here

  pub target-source : (x k : ℕ) → x < cells t → k < (set_in t).directions → tracer_source t (tracer_source t x k) (opposite (set_in t) k) ≡ x
  unfolding IsUnit IsReverse
  target-source x k here known =
      back-twice t (velocity (set_in t) k) (velocity (set_in t) (opposite (set_in t) k)) x (HasCells-from_space t space)
      (λ a axis. facts.unit_parts k a known axis) (λ a axis. facts.opposite_velocity k a known axis) here

  pub source-target : (x k : ℕ) → x < cells t → k < (set_in t).directions → tracer_source t (tracer_source t x (opposite (set_in t) k)) k ≡ x
  source-target x k here known =
      let o = opposite (set_in t) k in
      let known_o = facts.opposite_exists k known in
      ap (tracer_source t (tracer_source t x o)) (sym (facts.opposite_twice k known)) ∙ target-source x o here known_o
