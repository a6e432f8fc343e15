-- What is printed of the state that a run reaches fits the file.
use Rattle.std.proofs.Common.{◌≡◌, ℕ, zero, suc, ◌+◌, ◌-◌, ◌<◌, ◌≤◌, ℤ, pos, unsigned_abs, true, length, get_or, Option, Some, None, FitsSigned, refl, subst, arith, inl, inr, lit<}
use Rattle.std.specs.Prelude.{All}
use Rattle.std.specs.Int.{w32}
use Rattle.std.proofs.lemmas.Bool.{cases_Bool}
use Rattle.std.proofs.lemmas.Int.{ints}
use Rattle.std.proofs.lemmas.List.FromFn.{length-map-range_with_len, get_or-map-range_with_len}
use Rattle.lbm_space.specs.Stencil.{Stencil, IsVelocitySet}
use Rattle.lbm_space.specs.Torus.{cells}
use Rattle.lbm_cell.specs.Moments.{in_limits, density, momentum_part}
use Rattle.lbm_cell.proofs.Sizes.{fits_32}
use Rattle.lbm_cell.proofs.Limits.{InLimits, InLimits-from_test, momentum_small}
use Rattle.lbm_model.specs.Case.{FlowCase, IsCase, is_solid}
use Rattle.lbm_model.specs.State.{FlowState, population}
use Rattle.lbm_model.specs.Flow.{RunEnd, reached, range, next, run, is_sound, out_of_limits}
use Rattle.lbm_cell.proofs.Least.{least_failing-none}
use Rattle.lbm_model.proofs.Mass.{goes_on}
use Rattle.lbm_vtk.specs.Vtk.{FitsInts}
use Rattle.lbm_answer.specs.declared.left.Left.{Left}
use Rattle.lbm_answer.specs.Reports.{printed_moment, printed_moments, moment_of}
use Rattle.lbm_answer.specs.Outcome.{Beginning}
use Rattle.lbm_answer.specs.Jobs.{Leaves, IsLeft}

-- a run that reaches a state does so from one in limits
was_sound : (worst : Option ℕ) (time : ℕ) (rest : RunEnd) (end : FlowState) → elim worst [ Some x ↦ range time x | None ↦ rest ] ≡ reached end → worst ≡ None
was_sound (Some x) time rest end e = absurd cc
was_sound None time rest end e = refl

-- the state that a run reaches is in limits
pub reached-sound : (case : FlowCase) (s end : FlowState) (time steps : ℕ) → run case s time steps ≡ reached end → out_of_limits case end ≡ None
reached-sound case s end time zero e =
    let same : s ≡ end = (let h : reached s ≡ reached end = goes_on (out_of_limits case s) time (reached s) end e in cc) in
    subst (λ (z : FlowState). out_of_limits case z ≡ None) same (was_sound (out_of_limits case s) time (reached s) end e)
reached-sound case s end time (suc steps) e =
    let rest = run case (next case s) (time + 1) steps in
    reached-sound case (next case s) end (time + 1) steps (goes_on (out_of_limits case s) time rest end e)

-- a number that is not large
fits_small : (z : ℤ) → unsigned_abs z ≤ 1769472 → FitsSigned w32 z
fits_small z small = fits_32 z (omega (arith, small))

-- the moment of a cell in limits
moment_of-fits : (v : Stencil) (f : ℕ → ℤ) → IsVelocitySet v → InLimits v f → FitsInts (moment_of v f)
moment_of-fits v f laws limits =
    let low = limits.not_thin in
    let high = limits.not_dense in
    let dense : unsigned_abs (density v f) ≤ 1769472 = omega (arith, ints) in
    let part_fits : (a : ℕ) → a < 3 → FitsSigned w32 (momentum_part v f a) =
    λ a axis. fits_small (momentum_part v f a) (omega (arith, momentum_small v f a laws limits axis)) in
    record { rho = fits_small (density v f) dense; jx = part_fits 0 (lit< tt); jy = part_fits 1 (lit< tt); jz = part_fits 2 (lit< tt) }

-- what is printed of a cell of a state in limits
pub printed_moment-fits : (case : FlowCase) (s : FlowState) (x : ℕ) → IsVelocitySet case.stencil → out_of_limits case s ≡ None → x < cells case.torus → FitsInts (printed_moment case s x)
printed_moment-fits case s x laws limits known =
    let sound : is_sound case x (population s x) ≡ true = least_failing-none (cells case.torus) (λ x. is_sound case x (population s x)) limits x known in
    elim (cases_Bool (is_solid case x)) [
      | inl solid ↦ (
          let none : FitsSigned w32 (pos 0) = fits_small (pos 0) (omega arith) in
          rw solid (record { rho = none; jx = none; jy = none; jz = none }))
      | inr fluid ↦ (
          let inside : in_limits case.stencil (population s x) ≡ true = rw fluid at sound in
          rw fluid (moment_of-fits case.stencil (population s x) laws (InLimits-from_test case.stencil (population s x) inside)))
    ]

pub length-printed_moments : (case : FlowCase) (s : FlowState) → length (printed_moments case s) ≡ cells case.torus
length-printed_moments case s = length-map-range_with_len (printed_moment case s) 0 (cells case.torus)

pub printed_moments-fit : (case : FlowCase) (s : FlowState) → IsVelocitySet case.stencil → out_of_limits case s ≡ None → All FitsInts (printed_moments case s)
printed_moments-fit case s laws limits = λ x d below.
    let known : x < cells case.torus = rw (← length-printed_moments case s) below in
    let at : get_or (printed_moments case s) x d ≡ printed_moment case s x =
    get_or-map-range_with_len (printed_moment case s) 0 (cells case.torus) x x d known (omega arith) in
    rw at (printed_moment-fits case s x laws limits known)

-- what a run leaves can be saved
pub left_is : (case : FlowCase) (steps : ℕ) (begin : Beginning) (left : Left) → IsCase case → Leaves case steps begin left → IsLeft left
left_is case steps begin left valid leaves =
    let limits : out_of_limits case left.state ≡ None = reached-sound case begin.state left.state begin.time (steps - begin.time) leaves.ends in
    record {
      moments = rw (leaves.moments, leaves.space) (length-printed_moments case left.state);
      fits = rw leaves.moments (printed_moments-fit case left.state valid.set limits);
      numbers = rw leaves.space leaves.state.numbers;
    }
