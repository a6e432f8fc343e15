-- States by their populations.
use Rattle.std.proofs.Common.{◌≡◌, ℕ, zero, suc, ◌+◌, ◌*◌, ◌/◌, ◌%◌, ◌<◌, ℤ, pos, length, get_or, refl, ap, sym, ◌∙◌, arith}
use Rattle.std.proofs.lemmas.Nat.{div_below, mod_below}
use Rattle.std.proofs.lemmas.List.{ext_get_or}
use Rattle.std.proofs.lemmas.List.FromFn.{length-map-range_with_len, get_or-map-range_with_len}
use Rattle.lbm_space.specs.Sum.{list_below}
use Rattle.lbm_space.specs.Torus.{cells}
use Rattle.lbm_model.specs.State.{FlowState, flow_state, population}
use Rattle.lbm_model.specs.Case.{FlowCase}
use Rattle.lbm_model.specs.Flow.{IsStateOf, state_by}
use Rattle.lbm_model.proofs.Mass.{length-state_of, population-state_of}
use Rattle.lbm_model.proofs.FirstLemmas.{list_below-same}

-- the cell and the direction of a number
cell_and_direction : (n q k : ℕ) → k < n * q → (k / q < n) × (k % q < q)
cell_and_direction n zero k known = absurd (omega arith)
cell_and_direction n (suc q) k known = (div_below k (suc q) n (omega arith) known, mod_below k (suc q) (omega arith))

-- equal populations, equal states
pub state_by-same : (case : FlowCase) (f g : ℕ → ℕ → ℤ) → ((x i : ℕ) → x < cells case.torus → i < case.stencil.directions → f x i ≡ g x i) → state_by case f ≡ state_by case g
state_by-same case f g same =
    let q = case.stencil.directions in
    ap (flow_state q) (list_below-same (cells case.torus * q) (λ k. f (k / q) (k % q)) (λ k. g (k / q) (k % q)) (λ k known. let at = cell_and_direction (cells case.torus) q k known in same (k / q) (k % q) at.0 at.1))

-- what is made of populations is a state of the case, and has them
pub IsStateOf-state_by : (case : FlowCase) (f : ℕ → ℕ → ℤ) → IsStateOf case (state_by case f)
IsStateOf-state_by case f = record { directions = refl; numbers = length-state_of case.stencil.directions (cells case.torus) f }

pub population-state_by : (case : FlowCase) (f : ℕ → ℕ → ℤ) (x i : ℕ) → x < cells case.torus → i < case.stencil.directions → population (state_by case f) x i ≡ f x i
population-state_by case f x i here known = population-state_of case.stencil.directions (cells case.torus) f x i here known

-- a state is made of its populations
pub state_by-population : (case : FlowCase) (s : FlowState) → IsStateOf case s → state_by case (population s) ≡ s
state_by-population case s state =
    let q = case.stencil.directions in let n = cells case.torus in
    let f : ℕ → ℤ = λ k. population s (k / q) (k % q) in
    let count : length (list_below (n * q) f) ≡ n * q = length-map-range_with_len f 0 (n * q) in
    let size : length s.numbers ≡ n * q = state.numbers ∙ ap (λ (w : ℕ). n * w) state.directions in
    let each : (k : ℕ) → k < length (list_below (n * q) f) → get_or (list_below (n * q) f) k (pos 0) ≡ get_or s.numbers k (pos 0) = λ k known.
    let within : k < n * q = omega (arith, known, count) in
    let place : k / q * q + k % q ≡ k = omega arith in
    get_or-map-range_with_len f 0 (n * q) k k (pos 0) within (omega arith)
    ∙ ap (λ (w : ℕ). get_or s.numbers (k / q * w + k % q) (pos 0)) state.directions
    ∙ ap (λ (j : ℕ). get_or s.numbers j (pos 0)) place in
    ap (flow_state q) (ext_get_or (pos 0) (list_below (n * q) f) s.numbers (count ∙ sym size) each) ∙ ap (λ (w : ℕ). flow_state w s.numbers) (sym state.directions)

-- so a state that has these populations is what is made of them
pub state_by-is : (case : FlowCase) (s : FlowState) (f : ℕ → ℕ → ℤ) → IsStateOf case s → ((x i : ℕ) → x < cells case.torus → i < case.stencil.directions → f x i ≡ population s x i) → state_by case f ≡ s
state_by-is case s f state same = state_by-same case f (population s) same ∙ state_by-population case s state
