-- A step of a tracer in place.
--     old, now    the slots before the step, and where the cells below n have sent
use Rattle.std.proofs.Common.{◌≡◌, ◌≢◌, ℕ, ◌+◌, ◌*◌, ◌^◌, ◌<◌, ◌≤◌, List, ℤ, pos, unsigned_abs, true, false, Some, None, Result, Err, below_more, sym, ap, subst, inl, inr, ◌∙◌, arith}
use Rattle.std.specs.Prelude.{slice_index_or}
use Rattle.std.proofs.lemmas.Bool.{cases_eq}
use Rattle.lbm_space.specs.Stencil.{opposite}
use Rattle.lbm_space.specs.Torus.{Torus, IsSpace, cells}
use Rattle.lbm_cell.specs.Collision.{RelaxationRates, reflection}
use Rattle.lbm_model.specs.State.{FlowState, population}
use Rattle.lbm_model.specs.Case.{FlowCase}
use Rattle.lbm_model.specs.Flow.{is_sound, out_of_limits}
use Rattle.lbm_model.specs.Standing.{Standing}
use Rattle.lbm_cell.proofs.Least.{least_failing-none, least_failing-all, least_failing-at}
use Rattle.lbm_tracer.specs.Tracing.{set_in, tracer_source, tracer_post, tracer_next, is_tracer_sound, tracer_out_of_limits}
use Rattle.lbm_tracer.specs.Carried.{amount_in, tracer_state_in, AreFew}
use Rattle.lbm_tracer.proofs.Neighbours.{facts, source_known}
use Rattle.lbm_tracer.proofs.Places.{slot_turn}
use Rattle.lbm_tracer.proofs.States.{state-same, amount-state}
use Rattle.lbm_cell.specs.declared.populations.Moment.{Moment}
use Rattle.lbm_tracer.specs.Collision.{IsMomentOf}
use Rattle.lbm_tracer.specs.Rows.{cell_at, IsTracerRow}
use Rattle.lbm_tracer.specs.declared.slots.TracerRow.{TracerRow}
use Rattle.lbm_tracer.specs.Sending.{HaveSent, Goes, RowGoes, RowSends, Makes}
use Rattle.lbm_tracer.specs.declared.step.Unsent.{Unsent}
use Rattle.lbm_tracer.specs.declared.step.Unsent.TheVariants as ends
use Rattle.lbm_tracer.proofs.Agreement.{post-same, sound-same}

-- amount k of a cell at the next time is what the cell behind has put where it took the opposite direction
pub amount-turn : (t : Torus) (time : ℕ) (slots : List ℤ) (x k : ℕ) → IsSpace t → x < cells t → k < (set_in t).directions
    → amount_in t (time + 1) slots x k ≡ amount_in t time slots (tracer_source t x k) (opposite (set_in t) k)
amount-turn t time slots x k space here known = ap (λ s. slice_index_or slots s (pos 0)) (slot_turn t space x k here known time)

pub few-turn : (t : Torus) (time : ℕ) (slots : List ℤ) → IsSpace t → AreFew t (amount_in t time slots) → AreFew t (amount_in t (time + 1) slots)
few-turn t time slots space few x k here known =
    rw (amount-turn t time slots x k space here known) (few (tracer_source t x k) (opposite (set_in t) k) (source_known t space x k here known) ((facts t space).opposite_exists k known))

-- a cell puts small amounts in its slots
pub few-put : (t : Torus) (time : ℕ) (now new : List ℤ) (x : ℕ) (p w : ℕ → ℤ) → IsSpace t → ((k : ℕ) → k < (set_in t).directions → unsigned_abs (p k) ≤ 2 ^ 35)
    → ((k : ℕ) → k < (set_in t).directions → w k ≡ reflection (set_in t) p k) → ((k : ℕ) → k < (set_in t).directions → amount_in t time new x k ≡ w k)
    → ((y k : ℕ) → y < cells t → k < (set_in t).directions → y ≢ x → amount_in t time new y k ≡ amount_in t time now y k)
    → AreFew t (amount_in t time now) → AreFew t (amount_in t time new)
few-put t time now new x p w space small turned put others few y k here known = elim (cases_eq y x) [
  | inl same ↦ rw (same, put k known, turned k known) (small (opposite (set_in t) k) ((facts t space).opposite_exists k known))
  | inr ne ↦ rw (others y k here known ne) (few y k here known)
]

module _ (case : FlowCase) (r : RelaxationRates) (s : FlowState) (time : ℕ) where
  -- each cell below n has put what it sends in each direction where it took the opposite one
  abbrev pub AreSent : Torus → (old now : List ℤ) → ℕ → Type 0
  AreSent t old now n = (x k : ℕ) → x < n → k < (set_in t).directions
      → amount_in t time now x (opposite (set_in t) k) ≡ tracer_post case r s x (population (tracer_state_in t time old) x) k

  -- and the others have what they had
  abbrev pub AreKept : Torus → (old now : List ℤ) → ℕ → Type 0
  AreKept t old now n = (x k : ℕ) → n ≤ x → x < cells t → k < (set_in t).directions → amount_in t time now x k ≡ amount_in t time old x k

  sent-here : (old now : List ℤ) → IsSpace case.torus → AreSent case.torus old now (cells case.torus)
      → tracer_state_in case.torus (time + 1) now ≡ tracer_next case r s (tracer_state_in case.torus time old)
  sent-here old now space sent =
      let t = case.torus in let g = tracer_state_in t time old in
      state-same t (amount_in t (time + 1) now) (λ x k. tracer_post case r s (tracer_source t x k) (population g (tracer_source t x k)) k)
      (λ x k here known. amount-turn t time now x k space here known ∙ sent (tracer_source t x k) k (source_known t space x k here known) known)

  -- Cell x puts what it has made of its amounts: p of the amounts a, turned to w.
  pub record OneSends (t : Torus) (now new : List ℤ) (x : ℕ) (a p w : ℕ → ℤ) : Type 0 where
    pub taken : (k : ℕ) → k < (set_in t).directions → a k ≡ amount_in t time now x k
    pub made : (k : ℕ) → k < (set_in t).directions → p k ≡ tracer_post case r s x a k
    pub turned : (k : ℕ) → k < (set_in t).directions → w k ≡ reflection (set_in t) p k
    pub put : (k : ℕ) → k < (set_in t).directions → amount_in t time new x k ≡ w k
    pub others : (y k : ℕ) → y < cells t → k < (set_in t).directions → y ≢ x → amount_in t time new y k ≡ amount_in t time now y k

  -- what the cell has taken is what it had at first
  pub taken-old : (t : Torus) (old now : List ℤ) (x : ℕ) (a : ℕ → ℤ) → x < cells t → AreKept t old now x → ((k : ℕ) → k < (set_in t).directions → a k ≡ amount_in t time now x k)
      → (k : ℕ) → k < (set_in t).directions → a k ≡ population (tracer_state_in t time old) x k
  taken-old t old now x a here kept taken k known = taken k known ∙ kept x k (omega arith) here known ∙ sym (amount-state t (amount_in t time old) x k here known)

  one-sent : (old now new : List ℤ) (x : ℕ) (a p w : ℕ → ℤ) → IsSpace case.torus → x < cells case.torus → OneSends case.torus now new x a p w
      → AreSent case.torus old now x → AreKept case.torus old now x → AreSent case.torus old new (x + 1)
  one-sent old now new x a p w space here one sent kept y k below known =
      let t = case.torus in let v = set_in t in let o = opposite v k in
      let known_o = (facts t space).opposite_exists k known in
      elim (cases_eq y x) [
        | inl same ↦ rw same (
            one.put o known_o ∙ one.turned o known_o ∙ ap p ((facts t space).opposite_twice k known) ∙ one.made k known
            ∙ post-same case x a (population (tracer_state_in t time old) x) (taken-old t old now x a here kept one.taken) r s k known
            )
        | inr ne ↦ one.others y o (omega arith) known_o ne ∙ sent y k (omega arith) known
      ]

  kept-more : (t : Torus) (old now new : List ℤ) (x : ℕ) (a p w : ℕ → ℤ) → OneSends t now new x a p w → AreKept t old now x → AreKept t old new (x + 1)
  kept-more t old now new x a p w one kept y k above here known = one.others y k here known (omega arith) ∙ kept y k (omega arith) here known

  -- where every cell has sent, one more cell is told
  pub have-more : (old now new : List ℤ) (x : ℕ) (a p w : ℕ → ℤ) → IsSpace case.torus → x < cells case.torus → OneSends case.torus now new x a p w
      → is_tracer_sound case x a ≡ true → HaveSent case r s time old now x → HaveSent case r s time old new (x + 1)
  have-more old now new x a p w space here one passes before = record {
    passed = below_more _ _ before.passed (sym (sound-same case x a (population (tracer_state_in case.torus time old) x) (taken-old case.torus old now x a here before.kept one.taken)) ∙ passes);
    sent = one-sent old now new x a p w space here one before.sent before.kept;
    kept = kept-more case.torus old now new x a p w one before.kept;
  }

  -- a cell of the tracer, or of the flow, is out of limits
  stops-tracer : (old now : List ℤ) (x y n : ℕ) (a : ℕ → ℤ) → x < n → x < cells case.torus → ((k : ℕ) → k < (set_in case.torus).directions → a k ≡ amount_in case.torus time now x k)
      → HaveSent case r s time old now x → (y ≡ x) × (is_tracer_sound case x a ≡ false) → Goes case r s time old now n (Err (ends.TracerOut y))
  stops-tracer old now x y n a within here taken before fails =
      subst (λ (z : ℕ). Goes case r s time old now n (Err (ends.TracerOut z))) (sym fails.0)
      (within, before.passed, sym (sound-same case x a (population (tracer_state_in case.torus time old) x) (taken-old case.torus old now x a here before.kept taken)) ∙ fails.1)

  pub stops : (old now : List ℤ) (x n : ℕ) (flow : Moment) (a : ℕ → ℤ) (end : Unsent) → x < n → x < cells case.torus → ((k : ℕ) → k < (set_in case.torus).directions → a k ≡ amount_in case.torus time now x k)
      → HaveSent case r s time old now x → IsMomentOf case.stencil (population s x) flow → Makes case r flow x a (Err end) → Goes case r s time old now n (Err end)
  stops old now x n flow a (ends.TracerOut y) within here taken before is makes = stops-tracer old now x y n a within here taken before makes
  stops old now x n flow a ends.FlowOut within here taken before is makes = (x, here, makes s is)

  -- where a part of the cells has stopped, all have
  pub stopped-early : (old now : List ℤ) (m n : ℕ) (end : Unsent) → m ≤ n → Goes case r s time old now m (Err end) → Goes case r s time old now n (Err end)
  stopped-early old now m n (ends.TracerOut x) few goes = (omega (arith, goes.0, few), goes.1, goes.2)
  stopped-early old now m n ends.FlowOut few goes = goes

  -- nothing has been sent yet
  pub none-sent : (old : List ℤ) → HaveSent case r s time old old 0
  none-sent old = record { passed = λ x below. absurd (omega arith); sent = λ x k below. absurd (omega arith); kept = λ x k above here known i. amount_in case.torus time old x k }

  -- all have sent: both are in limits, and the next state stands there
  pub all-passed : (old now : List ℤ) → HaveSent case r s time old now (cells case.torus) → tracer_out_of_limits case (tracer_state_in case.torus time old) ≡ None
  all-passed old now have = least_failing-all (cells case.torus) (λ x. is_tracer_sound case x (population (tracer_state_in case.torus time old) x)) have.passed

  pub all-sent : (old now : List ℤ) → IsSpace case.torus → HaveSent case r s time old now (cells case.torus) → tracer_state_in case.torus (time + 1) now ≡ tracer_next case r s (tracer_state_in case.torus time old)
  all-sent old now space have = sent-here old now space have.sent

  pub tracer-stopped : (old now : List ℤ) (x : ℕ) → Goes case r s time old now (cells case.torus) (Err (ends.TracerOut x)) → tracer_out_of_limits case (tracer_state_in case.torus time old) ≡ Some x
  tracer-stopped old now x goes =
      least_failing-at (cells case.torus) (λ y. is_tracer_sound case y (population (tracer_state_in case.torus time old) y)) x (record { known = goes.0; failed = goes.2; passed = goes.1 })

  pub flow-stopped : (old now : List ℤ) → Goes case r s time old now (cells case.torus) (Err ends.FlowOut) → out_of_limits case s ≡ None → ⊥
  flow-stopped old now goes sound =
      let x = goes.0 in let passes : is_sound case x (population s x) ≡ true = least_failing-none (cells case.torus) (λ y. is_sound case y (population s y)) sound x goes.1 in
      let h : true ≡ false = sym passes ∙ goes.2 in absurd cc

-- a row's part by its moments, which are those of the flow, and by the number of the row
module _ (flow : Standing) (r : RelaxationRates) (row : TracerRow) (now new : List ℤ) (result : Result (Unit {0}) Unsent) (is : IsTracerRow row) where
  pub row-sends : (m : ℕ → Moment) → flow.case.torus ≡ row.space → RowGoes flow.case r row m now new result
      → ((x : ℕ) → x < flow.case.torus.nx → IsMomentOf flow.case.stencil (population flow.state (row.number * flow.case.torus.nx + x)) (m x)) → RowSends flow r row now new result
  row-sends m space goes moments old before =
      let wide : flow.case.torus.nx ≡ row.width = ap (λ (u : Torus). u.nx) space ∙ sym is.wide in
      goes flow.state old (λ x below. subst (λ (w : ℕ). IsMomentOf flow.case.stencil (population flow.state (row.number * w + x)) (m x)) wide (moments x (subst (λ (u : Torus). x < u.nx) (sym space) below))) before

  pub row-goes : (t : Torus) (time number : ℕ) → row.space ≡ t → row.time ≡ time → row.number ≡ number → RowSends flow r row now new result
      → (old : List ℤ) → HaveSent flow.case r flow.state time old now (number * t.nx) → Goes flow.case r flow.state time old new ((number + 1) * t.nx) result
  row-goes t time number space time_is number_is sends old before =
      let wide : row.width ≡ t.nx = is.wide ∙ ap (λ (u : Torus). u.nx) space in
      let first : cell_at row 0 ≡ number * t.nx = (λ j. number_is j * wide j + 0) ∙ omega arith in
      let last : cell_at row row.width ≡ (number + 1) * t.nx = (λ j. number_is j * wide j + wide j) ∙ omega arith in
      subst (λ (w : ℕ × ℕ). Goes flow.case r flow.state w.0 old new w.1 result) (λ j. (time_is j, last j))
      (sends old (subst (λ (w : ℕ × ℕ). HaveSent flow.case r flow.state w.0 old now w.1) (λ j. (sym time_is j, sym first j)) before))
