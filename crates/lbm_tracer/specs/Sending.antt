-- A step of a tracer in place, cell by cell.
--     old, now    the slots before the step, and where the cells below n have sent
use Rattle.std.specs.Prelude.{◌≡◌, ℕ, ◌+◌, ◌<◌, ◌≤◌, true, false, List, ℤ, unsigned_abs, Option, Some, None, Result, Ok, Err}
use Rattle.lbm_space.specs.Stencil.{opposite}
use Rattle.lbm_space.specs.Torus.{cells}
use Rattle.lbm_cell.specs.Moments.{populations}
use Rattle.lbm_cell.specs.Collision.{RelaxationRates}
use Rattle.lbm_cell.specs.declared.populations.Moment.{Moment}
use Rattle.lbm_model.specs.State.{FlowState, population}
use Rattle.lbm_model.specs.Case.{FlowCase}
use Rattle.lbm_model.specs.Flow.{is_sound, out_of_limits}
use Rattle.lbm_model.specs.Standing.{Standing}
use Rattle.lbm_tracer.specs.Limits.{amount_bound}
use Rattle.lbm_tracer.specs.Collision.{IsMomentOf}
use Rattle.lbm_tracer.specs.Tracing.{set_in, tracer_post, is_tracer_sound}
use Rattle.lbm_tracer.specs.Carried.{amount_in, tracer_state_in}
use Rattle.lbm_tracer.specs.Rows.{cell_at}
use Rattle.lbm_tracer.specs.declared.slots.TracerRow.{TracerRow}
use Rattle.lbm_tracer.specs.declared.step.Unsent.{Unsent}
use Rattle.lbm_tracer.specs.declared.step.Unsent.TheVariants as ends

module _ (case : FlowCase) (r : RelaxationRates) (s : FlowState) (time : ℕ) where
  -- each cell below n was solid or in limits, and has put what it sends in each direction where it took the opposite one; the others
  -- have what they had
  pub record HaveSent (old now : List ℤ) (n : ℕ) : Type 0 where
    pub passed : (x : ℕ) → x < n → is_tracer_sound case x (population (tracer_state_in case.torus time old) x) ≡ true
    pub sent : (x k : ℕ) → x < n → k < (set_in case.torus).directions
        → amount_in case.torus time now x (opposite (set_in case.torus) k) ≡ tracer_post case r s x (population (tracer_state_in case.torus time old) x) k
    pub kept : (x k : ℕ) → n ≤ x → x < cells case.torus → k < (set_in case.torus).directions → amount_in case.torus time now x k ≡ amount_in case.torus time old x k

  -- how far the cells below n have gone, where they have: to the end, or to the least cell of the tracer that is out of limits; or
  -- the flow has a cell out of limits
  abbrev pub Goes : (old now : List ℤ) → ℕ → Result (Unit {0}) Unsent → Type 0
  Goes old now n (Ok done) = HaveSent old now n
  Goes old now n (Err (ends.TracerOut x)) =
      (x < n) × ((y : ℕ) → y < x → is_tracer_sound case y (population (tracer_state_in case.torus time old) y) ≡ true)
      × (is_tracer_sound case x (population (tracer_state_in case.torus time old) x) ≡ false)
  Goes old now n (Err ends.FlowOut) = (x : ℕ) × (x < cells case.torus) × (is_sound case x (population s x) ≡ false)

-- how far the cell at x of a row has gone, where all cells before it have sent, whatever the flow of which it has this density and
-- momentum
abbrev pub CellGoes : FlowCase → RelaxationRates → TracerRow → ℕ → Moment → (now new : List ℤ) → Result (Unit {0}) Unsent → Type 0
CellGoes case r row x flow now new result =
    (s : FlowState) (old : List ℤ) → IsMomentOf case.stencil (population s (cell_at row x)) flow
    → HaveSent case r s row.time old now (cell_at row x) → Goes case r s row.time old new (cell_at row x + 1) result

-- how far a row has gone, where all cells before it have sent, whatever the flow of which its cells have these densities and momenta
abbrev pub RowGoes : FlowCase → RelaxationRates → TracerRow → (ℕ → Moment) → (now new : List ℤ) → Result (Unit {0}) Unsent → Type 0
RowGoes case r row m now new result =
    (s : FlowState) (old : List ℤ) → ((x : ℕ) → x < row.space.nx → IsMomentOf case.stencil (population s (cell_at row x)) (m x))
    → HaveSent case r s row.time old now (cell_at row 0) → Goes case r s row.time old new (cell_at row row.width) result

-- how far a row has gone by the state of a flow, where all cells before it have sent
abbrev pub RowSends : Standing → RelaxationRates → TracerRow → (now new : List ℤ) → Result (Unit {0}) Unsent → Type 0
RowSends flow r row now new result =
    (old : List ℤ) → HaveSent flow.case r flow.state row.time old now (cell_at row 0) → Goes flow.case r flow.state row.time old new (cell_at row row.width) result

-- what cell x makes of the amounts a, whatever the state of the flow of which it has this density and momentum
abbrev pub Makes : FlowCase → RelaxationRates → Moment → ℕ → (ℕ → ℤ) → Result (List ℤ) Unsent → Type 0
Makes case r flow x a (Ok p) =
    (is_tracer_sound case x a ≡ true) × ((s : FlowState) (k : ℕ) → IsMomentOf case.stencil (population s x) flow → k < (set_in case.torus).directions → populations p k ≡ tracer_post case r s x a k)
    × ((k : ℕ) → k < (set_in case.torus).directions → unsigned_abs (populations p k) ≤ amount_bound)
Makes case r flow x a (Err (ends.TracerOut y)) = (y ≡ x) × (is_tracer_sound case x a ≡ false)
Makes case r flow x a (Err ends.FlowOut) = (s : FlowState) → IsMomentOf case.stencil (population s x) flow → is_sound case x (population s x) ≡ false

-- what such an end comes to for the tracer: nothing where the flow is out of limits
abbrev pub AnswersOut : Standing → Unsent → Option ℕ → Type 0
AnswersOut flow (ends.TracerOut x) answer =
    (out_of_limits flow.case flow.state ≡ None → answer ≡ Some x) × ((y : ℕ) → out_of_limits flow.case flow.state ≡ Some y → answer ≡ None)
AnswersOut flow ends.FlowOut answer = answer ≡ None
