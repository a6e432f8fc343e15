-- A cell that holds nothing sends nothing.
use Rattle.std.proofs.Common.{◌≡◌, ℕ, zero, suc, ◌+◌, ◌-◌, ◌<◌, ◌≤◌, ℤ, pos, negsuc, ◌+ℤ◌, ◌-ℤ◌, ◌*ℤ◌, neg_ℤ, unsigned_abs, List, Bool, true, false, refl, sym, ap, subst, ◌∙◌, arith}
use Rattle.std.specs.Prelude.{◌==◌, ◌||◌, nat_eq, if◌then◌else◌}
use Rattle.std.proofs.lemmas.Int.{ints}
use Rattle.std.proofs.Math.Nat.{zero-div}
use Rattle.lbm_space.specs.Sum.{sum_below}
use Rattle.lbm_space.specs.Stencil.{Stencil, opposite, weight, velocity, dot}
use Rattle.lbm_space.specs.Torus.{Torus, IsSpace, cells}
use Rattle.lbm_cell.specs.Moments.{density, momentum}
use Rattle.lbm_cell.specs.Collision.{RelaxationRates, floor_div, reflection, with_rest}
use Rattle.lbm_cell.proofs.Conservation.{with_rest-same}
use Rattle.lbm_cell.proofs.Sizes.{product_size}
use Rattle.lbm_model.specs.State.{FlowState, population}
use Rattle.lbm_model.specs.Case.{FlowCase, is_solid}
use Rattle.lbm_model.specs.Standing.{Standing}
use Rattle.lbm_tracer.specs.Sets.{d2q5, d3q7, inverse_sound_squared}
use Rattle.lbm_tracer.specs.Collision.{relaxation_of, tracer_collision, in_tracer_limits}
use Rattle.lbm_tracer.specs.Tracing.{set_in, tracer_post, is_tracer_sound}
use Rattle.lbm_tracer.specs.Carried.{amount_in}
use Rattle.lbm_tracer.specs.Rows.{cell_at, IsTracerRow, HoldsNothing}
use Rattle.lbm_tracer.specs.Sending.{HaveSent}
use Rattle.lbm_tracer.specs.declared.slots.TracerRow.{TracerRow}
use Rattle.lbm_tracer.proofs.Sets.{set_facts}
use Rattle.lbm_tracer.proofs.Agreement.{collision-same, limits-same}
use Rattle.lbm_tracer.proofs.Rows.{cell_known}
use Rattle.lbm_tracer.proofs.Sending.{OneSends, have-more}

zero_times : (x : ℤ) → pos 0 *ℤ x ≡ pos 0
zero_times x = let size = product_size (pos 0) x 0 (unsigned_abs x) (omega arith) (omega arith) in omega (arith, ints, size)

times_zero : (x : ℤ) → x *ℤ pos 0 ≡ pos 0
times_zero x = let size = product_size x (pos 0) (unsigned_abs x) 0 (omega arith) (omega arith) in omega (arith, ints, size)

zero_over : (d : ℤ) → floor_div (pos 0) d ≡ pos 0
zero_over (pos d) = ap pos (zero-div d)
zero_over (negsuc d) = ap (λ (n : ℕ). neg_ℤ (pos n)) (zero-div (suc d))

sum_zero : (n : ℕ) → sum_below n (λ k. pos 0) ≡ pos 0
sum_zero zero = refl
sum_zero (suc n) = ap (λ (z : ℤ). z +ℤ pos 0) (sum_zero n)

no_departure : (w x d : ℤ) → w *ℤ (pos 0 *ℤ x) -ℤ d *ℤ pos 0 ≡ pos 0
no_departure w x d = (λ i. w *ℤ zero_times x i -ℤ times_zero d i) ∙ ap (λ (z : ℤ). z -ℤ pos 0) (times_zero w)

module _ (v : Stencil) (r : RelaxationRates) (rho : ℤ) (j : List ℤ) where
  no_relaxation : (k : ℕ) → relaxation_of v r rho j (pos 0) (pos 0) k ≡ pos 0
  no_relaxation k =
      ap (λ (z : ℤ). floor_div (r.p *ℤ z) (v.denominator *ℤ rho *ℤ r.q)) (no_departure (weight v k) (rho +ℤ inverse_sound_squared v *ℤ dot (velocity v k) j) (v.denominator *ℤ rho))
      ∙ ap (λ (z : ℤ). floor_div z (v.denominator *ℤ rho *ℤ r.q)) (times_zero r.p) ∙ zero_over (v.denominator *ℤ rho *ℤ r.q)

  no_rest : (k : ℕ) → with_rest v (pos 0) (λ i. pos 0) k ≡ pos 0
  no_rest k = by_case (k == 0)
    where
      by_case : (rest : Bool) → (if rest then pos 0 -ℤ sum_below (v.directions - 1) (λ i. pos 0) else pos 0) ≡ pos 0
      by_case true = ap (λ (z : ℤ). pos 0 -ℤ z) (sum_zero (v.directions - 1))
      by_case false = refl

  no_collision : (k : ℕ) → k < v.directions → tracer_collision v r rho j (λ i. pos 0) k ≡ pos 0
  no_collision k known =
      ap (λ (total : ℤ). with_rest v total (λ i. pos 0 +ℤ relaxation_of v r rho j total (pos 0) i) k) (sum_zero v.directions)
      ∙ with_rest-same v (pos 0) (λ i. pos 0 +ℤ relaxation_of v r rho j (pos 0) (pos 0) i) (λ i. pos 0) (λ i above below. ap (λ (z : ℤ). pos 0 +ℤ z) (no_relaxation i)) k known
      ∙ no_rest k

none_in_limits : (flat : Bool) → in_tracer_limits (if flat then d2q5 else d3q7) (λ k. pos 0) ≡ true
none_in_limits true = refl
none_in_limits false = refl

or_true : (b c : Bool) → c ≡ true → b || c ≡ true
or_true true c is = refl
or_true false c is = is

module _ (case : FlowCase) (r : RelaxationRates) (s : FlowState) (x : ℕ) (a : ℕ → ℤ) (none : (k : ℕ) → k < (set_in case.torus).directions → a k ≡ pos 0) where
  quiet_post : (k : ℕ) → k < (set_in case.torus).directions → tracer_post case r s x a k ≡ pos 0
  quiet_post k known = by_case (is_solid case x)
    where
      by_case : (solid : Bool) → (if solid then reflection (set_in case.torus) a k else tracer_collision (set_in case.torus) r (density case.stencil (population s x)) (momentum case.stencil (population s x)) a k) ≡ pos 0
      by_case true = none (opposite (set_in case.torus) k) ((set_facts case.torus.dimension).opposite_exists k known)
      by_case false =
          collision-same (set_in case.torus) a (λ i. pos 0) none r (density case.stencil (population s x)) (momentum case.stencil (population s x)) k known
          ∙ no_collision (set_in case.torus) r (density case.stencil (population s x)) (momentum case.stencil (population s x)) k known

  quiet_sound : is_tracer_sound case x a ≡ true
  quiet_sound = or_true (is_solid case x) (in_tracer_limits (set_in case.torus) a) (limits-same (set_in case.torus) a (λ i. pos 0) none ∙ none_in_limits (nat_eq case.torus.dimension 2))

-- it has sent as it stands
pub have-quiet : (case : FlowCase) (r : RelaxationRates) (s : FlowState) (time : ℕ) (old now : List ℤ) (x : ℕ) (a : ℕ → ℤ) → IsSpace case.torus → x < cells case.torus
    → ((k : ℕ) → k < (set_in case.torus).directions → a k ≡ amount_in case.torus time now x k) → ((k : ℕ) → k < (set_in case.torus).directions → a k ≡ pos 0)
    → HaveSent case r s time old now x → HaveSent case r s time old now (x + 1)
have-quiet case r s time old now x a space here taken none before =
    let one : OneSends case r s time case.torus now now x a a a = record {
      taken = taken;
      made = λ k known. none k known ∙ sym (quiet_post case r s x a none k known);
      turned = λ k known. none k known ∙ sym (none (opposite (set_in case.torus) k) ((set_facts case.torus.dimension).opposite_exists k known));
      put = λ k known. sym (taken k known);
      others = λ y k there known ne i. amount_in case.torus time now y k;
    } in
    have-more case r s time old now now x a a a space here one (quiet_sound case r s x a none) before

-- nor does a row that holds nothing
module _ (flow : Standing) (r : RelaxationRates) (row : TracerRow) (now old : List ℤ) (is : IsTracerRow row) (space : flow.case.torus ≡ row.space) (none : HoldsNothing row now) where
  quiet_cells : (n : ℕ) → n ≤ row.width → HaveSent flow.case r flow.state row.time old now (cell_at row 0) → HaveSent flow.case r flow.state row.time old now (cell_at row n)
  quiet_cells zero few before = before
  quiet_cells (suc n) few before =
      let back : row.space ≡ flow.case.torus = sym space in
      let here : cell_at row n < cells flow.case.torus = subst (λ (u : Torus). cell_at row n < cells u) back (cell_known row is n (omega arith)) in
      let all : (k : ℕ) → k < (set_in flow.case.torus).directions → amount_in flow.case.torus row.time now (cell_at row n) k ≡ pos 0 =
      subst (λ (u : Torus). (k : ℕ) → k < (set_in u).directions → amount_in u row.time now (cell_at row n) k ≡ pos 0) back (λ k known. none n k (omega arith) known) in
      subst (HaveSent flow.case r flow.state row.time old now) (omega arith)
      (have-quiet flow.case r flow.state row.time old now (cell_at row n) (amount_in flow.case.torus row.time now (cell_at row n)) (subst IsSpace back is.space) here
      (λ k known i. amount_in flow.case.torus row.time now (cell_at row n) k) all (quiet_cells n (omega arith) before))

  pub quiet_row : HaveSent flow.case r flow.state row.time old now (cell_at row 0) → HaveSent flow.case r flow.state row.time old now (cell_at row row.width)
  quiet_row before = quiet_cells row.width (omega arith) before
