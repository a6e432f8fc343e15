-- The populations of a state, one after another.
use Rattle.std.proofs.Common.{◌≡◌, ◌∙◌, ℕ, List, ℤ, ◌+◌, ◌*◌, ◌/◌, ◌%◌, ◌<◌, ◌≤◌, pos, slice_index_or, ap, refl, subst}
use Rattle.std.proofs.Math.Nat.{mul-mod_left, mul-le-mul, mul-le-mul_right, div-add-mod'}
use Rattle.std.proofs.lemmas.Nat.{div_below, mod_below}
use Rattle.lbm_space.specs.Stencil.{Stencil, IsVelocitySet}
use Rattle.lbm_space.specs.Torus.{cells}
use Rattle.lbm_model.specs.Case.{FlowCase, IsCase}
use Rattle.lbm_model.specs.State.{FlowState, IsState, population, flow_state}
use Rattle.lbm_model.specs.Flow.{IsStateOf}
use Rattle.lbm_model.proofs.Sizes.{few_cells}

pub few-populations : (case : FlowCase) → IsCase case → cells case.torus * case.stencil.directions ≤ 113246208
few-populations case valid = mul-le-mul (few_cells case.torus valid.space) valid.set.few_directions

-- the cell and the direction of population k, of which each cell has q
pub cell-below : (case : FlowCase) (k : ℕ) → IsCase case → k < cells case.torus * case.stencil.directions → k / case.stencil.directions < cells case.torus
cell-below case k valid below = div_below k case.stencil.directions (cells case.torus) valid.set.some_direction below

pub direction-below : (case : FlowCase) (k : ℕ) → IsCase case → k % case.stencil.directions < case.stencil.directions
direction-below case k valid = mod_below k case.stencil.directions valid.set.some_direction

pub population-at : (case : FlowCase) (s : FlowState) (k : ℕ) → IsStateOf case s
    → population s (k / case.stencil.directions) (k % case.stencil.directions) ≡ slice_index_or s.numbers k (pos 0)
population-at case s k state =
    let q = case.stencil.directions in
    ap (λ d. slice_index_or s.numbers (k / q * d + k % q) (pos 0)) state.directions ∙ ap (λ i. slice_index_or s.numbers i (pos 0)) (div-add-mod' k q)

-- the populations of a case's cells can be kept
pub is_state : (case : FlowCase) (v : Stencil) (numbers : List ℤ) → IsCase case → case.stencil ≡ v → IsStateOf case (flow_state v.directions numbers) → IsState (flow_state v.directions numbers)
is_state case v numbers valid set state =
    let few : cells case.torus ≤ 4194304 = few_cells case.torus valid.space in
    let laws : IsVelocitySet v = subst IsVelocitySet set valid.set in
    record {
      some_direction = laws.some_direction;
      few_directions = laws.few_directions;
      whole_cells = rw state.numbers (mul-mod_left (cells case.torus) v.directions);
      few_cells = rw state.numbers (mul-le-mul_right v.directions few);
    }

-- so a state of a case can be kept
pub kept : (case : FlowCase) (s : FlowState) → IsCase case → IsStateOf case s → IsState (flow_state case.stencil.directions s.numbers)
kept case s valid state = is_state case case.stencil s.numbers valid refl (subst (λ q. IsStateOf case (flow_state q s.numbers)) state.directions state)
