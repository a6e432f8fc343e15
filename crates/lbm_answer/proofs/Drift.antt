-- The momentum that a report tells is the sum of all momenta, where no cell is solid. So it is within the drift of the run.
use Rattle.std.proofs.Common.{◌≡◌, ◌∙◌, ℕ, zero, suc, ◌+◌, ◌<◌, List, [], ◌∷◌, ◌++◌, ℤ, pos, ◌+ℤ◌, ◌-ℤ◌, ◌*ℤ◌, ◌*◌, ◌-◌, ◌≤◌, unsigned_abs, if◌then◌else◌, refl, sym, ap, subst, arith, add-one}
use Rattle.std.specs.Prelude.{fold}
use Rattle.std.proofs.lemmas.List.FromFn.{map-range_with_len_more}
use Rattle.lbm_space.specs.Sum.{sum_below, list_below}
use Rattle.lbm_space.specs.Torus.{cells}
use Rattle.lbm_space.proofs.Sums.{sum_below-same}
use Rattle.lbm_cell.specs.declared.populations.Moment.{Moment}
use Rattle.lbm_cell.specs.Moments.{momentum_part}
use Rattle.lbm_sets.specs.Drift.{impulse, forward_directions}
use Rattle.lbm_model.specs.State.{FlowState, population}
use Rattle.lbm_model.specs.Case.{FlowCase, IsCase}
use Rattle.lbm_model.specs.Flow.{run, reached}
use Rattle.lbm_model.specs.Drift.{total_momentum, IsOpen}
use Rattle.lbm_model.proofs.Drift.{drift-run}
use Rattle.lbm_answer.specs.Reports.{moment_of, no_moment, printed_moment, printed_moments, total, run_report, momentum_of}
use Rattle.lbm_answer.specs.Drift.{IsWithinDrift}

-- one moment more
fold-more : (p : Moment → ℤ) (ms : List Moment) (m : Moment) (z : ℤ) → fold (λ sum x. sum +ℤ p x) z (ms ++ m ∷ []) ≡ fold (λ sum x. sum +ℤ p x) z ms +ℤ p m
fold-more p [] m z = refl
fold-more p (x ∷ xs) m z = fold-more p xs m (z +ℤ p x)

-- the sum over a list that is made cell by cell
total-list_below : (p : Moment → ℤ) (f : ℕ → Moment) (n : ℕ) → total p (list_below n f) ≡ sum_below n (λ x. p (f x))
total-list_below p f zero = refl
total-list_below p f (suc n) =
    let more : list_below (n + 1) f ≡ list_below n f ++ f n ∷ [] = map-range_with_len_more f 0 n n (omega arith) in
    let grown : total p (list_below (n + 1) f) ≡ sum_below n (λ x. p (f x)) +ℤ p (f n) =
    ap (total p) more ∙ fold-more p (list_below n f) (f n) (pos 0) ∙ ap (λ z. z +ℤ p (f n)) (total-list_below p f n) in
    subst (λ (k : ℕ). total p (list_below k f) ≡ sum_below n (λ x. p (f x)) +ℤ p (f n)) (add-one n) grown

-- a part of the printed moments
total-open : (case : FlowCase) (s : FlowState) (a : ℕ) (p : Moment → ℤ) → ((f : ℕ → ℤ) → p (moment_of case.stencil f) ≡ momentum_part case.stencil f a)
    → IsOpen case → total p (printed_moments case s) ≡ total_momentum case s a
total-open case s a p is open_case =
    total-list_below p (printed_moment case s) (cells case.torus)
    ∙ sum_below-same (cells case.torus) (λ x. p (printed_moment case s x)) (λ x. momentum_part case.stencil (population s x) a)
    (λ x known. ap (λ b. p (if b then no_moment else moment_of case.stencil (population s x))) (open_case x known) ∙ is (population s x))

told : (case : FlowCase) (s : FlowState) (step a : ℕ) → a < 3 → IsOpen case → momentum_of (run_report case step s) a ≡ total_momentum case s a
told case s step zero small open_case = total-open case s 0 (λ m. m.jx) (λ f. refl) open_case
told case s step (suc zero) small open_case = total-open case s 1 (λ m. m.jy) (λ f. refl) open_case
told case s step (suc (suc zero)) small open_case = total-open case s 2 (λ m. m.jz) (λ f. refl) open_case
told case s step (suc (suc (suc a))) small open_case = absurd (omega arith)

pub within-drift : (case : FlowCase) (s end : FlowState) (time steps step : ℕ) → IsCase case → run case s time steps ≡ reached end
    → IsWithinDrift case s steps (momentum_of (run_report case step end))
within-drift case s end time steps step allowed ends open_case a known =
    let small : a < 3 = omega (arith, allowed.set.plane_or_space) in
    let Within : ℤ → Type 0 = λ z. unsigned_abs (z -ℤ total_momentum case s a -ℤ pos (steps * cells case.torus) *ℤ impulse case.stencil case.force a) ≤ steps * cells case.torus * (forward_directions case.stencil a - 1) in
    subst Within (sym (told case end step a small open_case)) (drift-run case s end time steps a allowed open_case ends known)
