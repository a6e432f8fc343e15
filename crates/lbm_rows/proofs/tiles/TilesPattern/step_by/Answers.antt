use Rattle.std.proofs.Common.{ℕ, ◌+◌, List, ℤ, length, refl, ap, sym, ◌∙◌, subst}
use Rattle.std.specs.Prelude.{Option, None}
use Rattle.std.proofs.lemmas.List.{with_items_is}
use Rattle.lbm_model.specs.Standing.{stopped_at, stepped}
use Rattle.lbm_sweep.specs.Steps.{IsStepTo}
use Rattle.lbm_rows.specs.Kept.{population_kept, state_kept}
use Rattle.lbm_rows.specs.Tiles.{KeptLattice, kept_lattice, standing_in, IsKeptLattice}
use Rattle.lbm_rows.proofs.KeptStates.{stops, steps, small_next}
use Rattle.lbm_rows.proofs.tiles.TilesPattern.step_by.Goals as goal

pub returns-in-Err : goal.returns-in-Err
returns-in-Err g c =
    let p = c.self.inside in let was = c.in-Err.ensures.memory in
    let items = with_items_is p.kept c.advance.new.kept (ap (λ (ks : List (List ℤ)). length ks) was ∙ c.as_mut_slice-kept.ensures.len) ∙ was ∙ c.as_mut_slice-kept.ensures.value in
    (refl, ap (λ (ks : List (List ℤ)). standing_in (kept_lattice p.case p.time p.spent ks)) items ∙ ap standing_in c.self.view_is)

pub invariant_of-self-in-Ok-None : goal.invariant_of-self-in-Ok-None
invariant_of-self-in-Ok-None g c =
    let p = c.self.inside in let inv = c.self.invariant.0 in let done = c.in-Ok-None.ensures in let new = c.advance.new.kept in
    let items = with_items_is p.kept new (done.rows.count ∙ sym inv.rows.count ∙ sym (ap (λ (ks : List (List ℤ)). length ks) c.as_mut_slice-kept.ensures.value) ∙ c.as_mut_slice-kept.ensures.len) in
    let l : KeptLattice = kept_lattice p.case p.time p.spent p.kept.items in
    let step = subst (λ (q : List (List ℤ) × Option ℕ). IsStepTo p.case (state_kept p.case p.time q.0) (population_kept p.case (p.time + 1) new) q.1) (λ j. (c.as_mut_slice-kept.ensures.value j, c.in-Ok-None.field-0-is j)) done.step in (
      subst (λ (ks : List (List ℤ)). IsKeptLattice g.V.VelocitySet.stencil (kept_lattice p.case (p.time + 1) p.spent ks)) (sym items) (record {
        set = inv.set;
        valid = inv.valid;
        rows = done.rows;
        small = λ none. small_next l new inv.valid (inv.small none) step;
      }),
      c.self.invariant.1,
    )

pub returns-in-Ok-None : goal.returns-in-Ok-None
returns-in-Ok-None g c =
    let p = c.self.inside in let inv = c.self.invariant.0 in let done = c.in-Ok-None.ensures in let new = c.advance.new.kept in
    let items = with_items_is p.kept new (done.rows.count ∙ sym inv.rows.count ∙ sym (ap (λ (ks : List (List ℤ)). length ks) c.as_mut_slice-kept.ensures.value) ∙ c.as_mut_slice-kept.ensures.len) in
    let l : KeptLattice = kept_lattice p.case p.time p.spent p.kept.items in
    let step = subst (λ (q : List (List ℤ) × Option ℕ). IsStepTo p.case (state_kept p.case p.time q.0) (population_kept p.case (p.time + 1) new) q.1) (λ j. (c.as_mut_slice-kept.ensures.value j, c.in-Ok-None.field-0-is j)) done.step in (
      ap (λ (m : KeptLattice). stopped_at (standing_in m)) (sym c.self.view_is) ∙ stops l new None c.in_default.is step,
      ap (λ (ks : List (List ℤ)). standing_in (kept_lattice p.case (p.time + 1) p.spent ks)) items ∙ steps l new step ∙ ap (λ (m : KeptLattice). stepped (standing_in m)) c.self.view_is,
    )
