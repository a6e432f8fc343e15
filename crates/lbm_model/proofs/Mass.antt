use Rattle.std.proofs.Common.{◌≡◌, ℕ, zero, suc, ◌+◌, ◌*◌, ◌/◌, ◌%◌, ◌<◌, ◌≤◌, ℤ, pos, ◌+ℤ◌, ◌*ℤ◌, false, true, List, length, get_or, refl, ap, sym, inl, inr, ◌∙◌, arith, take}
use Rattle.std.proofs.Math.Seq.{take-length}
use Rattle.std.specs.Prelude.{fold, if◌then◌else◌, Option, Some, None}
use Rattle.std.proofs.lemmas.Int.{ints}
use Rattle.std.proofs.lemmas.Nat.{div-mul-add, mod-mul-add, mul-add-lt}
use Rattle.std.proofs.lemmas.List.Sums.{fold_more}
use Rattle.std.proofs.lemmas.List.FromFn.{length-map-range_with_len, get_or-map-range_with_len}
use Rattle.lbm_space.specs.Sum.{sum_below}
use Rattle.lbm_space.specs.Stencil.{velocity, opposite, IsVelocitySet, part}
use Rattle.lbm_space.specs.Torus.{cells}
use Rattle.lbm_space.proofs.Sums.{sum_below-same, sum_below-zero, sum_below-swap, sum_below-add, sum_below-reindex, sum_below-rows}
use Rattle.lbm_space.proofs.Back.{HasCells, HasCells-from_space, IsUnit, IsReverse, back_within, back-twice}
use Rattle.lbm_cell.specs.Collision.{collision, reflection}
use Rattle.lbm_cell.proofs.Conservation.{density-collision, density-reflection}
use Rattle.lbm_model.specs.State.{FlowState, population, state_of, mass}
use Rattle.std.proofs.lemmas.Bool.{cases_Bool}
use Rattle.lbm_model.specs.Case.{FlowCase, is_solid, is_moving, source, gain, cell_gain, all_gain}
use Rattle.lbm_model.specs.Flow.{IsStateOf, state_by, post, next, run, RunEnd, reached, range, out_of_limits}
use Rattle.lbm_model.specs.Laws.{IsFlow, MassOfStep, MassOfRun, NoGainAtRest}

-- the sum of a list is the sum of its numbers by place
fold-take : (xs : List ℤ) (n : ℕ) → n ≤ length xs → fold (λ a b. a +ℤ b) (pos 0) (take n xs) ≡ sum_below n (λ k. get_or xs k (pos 0))
fold-take xs zero h = refl
fold-take xs (suc n) h =
    let e : n + 1 ≡ suc n = omega arith in
    let more : fold (λ a b. a +ℤ b) (pos 0) (take (n + 1) xs) ≡ fold (λ a b. a +ℤ b) (pos 0) (take n xs) +ℤ get_or xs n (pos 0) = fold_more (λ a b. a +ℤ b) (pos 0) xs n (pos 0) (omega arith) in
    rw (← e) (more ∙ ap (λ (s : ℤ). s +ℤ get_or xs n (pos 0)) (fold-take xs n (omega arith)))

-- the mass by cell and direction
pub mass-by_cell : (s : FlowState) (n : ℕ) → length s.numbers ≡ n * s.directions → mass s ≡ sum_below n (λ x. sum_below s.directions (λ i. population s x i))
mass-by_cell s n size =
    let whole : mass s ≡ sum_below (length s.numbers) (λ k. get_or s.numbers k (pos 0)) =
    ap (fold (λ (a b : ℤ). a +ℤ b) (pos 0)) (sym (take-length s.numbers)) ∙ fold-take s.numbers (length s.numbers) (omega arith) in
    whole ∙ ap (λ (k : ℕ). sum_below k (λ j. get_or s.numbers j (pos 0))) size ∙ sum_below-rows n s.directions (λ k. get_or s.numbers k (pos 0))

-- what a state was made of
pub population-state_of : (directions n : ℕ) (f : ℕ → ℕ → ℤ) (x i : ℕ) → x < n → i < directions → population (state_of directions n f) x i ≡ f x i
population-state_of directions n f x i known_x known_i =
    let place : x * directions + i < n * directions = omega (arith, mul-add-lt x directions i n known_x known_i) in
    get_or-map-range_with_len (λ k. f (k / directions) (k % directions)) 0 (n * directions) (x * directions + i) (x * directions + i) (pos 0) place (omega arith)
    ∙ ap (λ (y : ℕ). f y ((x * directions + i) % directions)) (div-mul-add x directions i known_i)
    ∙ ap (f x) (mod-mul-add x directions i known_i)

pub length-state_of : (directions n : ℕ) (f : ℕ → ℕ → ℤ) → length (state_of directions n f).numbers ≡ n * directions
length-state_of directions n f = length-map-range_with_len (λ k. f (k / directions) (k % directions)) 0 (n * directions)

-- what a step keeps of a cell, and what a solid cell gains
post-sum : (case : FlowCase) (s : FlowState) (x : ℕ) → IsVelocitySet case.stencil →
    sum_below case.stencil.directions (λ i. post case x (population s x) i) ≡ sum_below case.stencil.directions (population s x) +ℤ (if is_solid case x then sum_below case.stencil.directions (gain case x) else pos 0)
post-sum case s x laws =
    elim (is_solid case x) as (λ solid. sum_below case.stencil.directions (λ i. if solid then reflection case.stencil (population s x) i +ℤ gain case x i else collision case.stencil case.rates case.force (population s x) i) ≡ sum_below case.stencil.directions (population s x) +ℤ (if solid then sum_below case.stencil.directions (gain case x) else pos 0)) [
      | true ↦ sum_below-add case.stencil.directions (reflection case.stencil (population s x)) (gain case x) ∙ ap (λ (m : ℤ). m +ℤ sum_below case.stencil.directions (gain case x)) (density-reflection case.stencil (population s x) laws)
      | false ↦ density-collision case.stencil case.rates case.force (population s x) laws.some_direction ∙ omega (arith, ints)
    ]

-- every population leaves a cell for one cell
pub arrivals : (case : FlowCase) (f : ℕ → ℤ) (i : ℕ) → IsVelocitySet case.stencil → HasCells case.torus → i < case.stencil.directions →
    sum_below (cells case.torus) (λ x. f (source case x i)) ≡ sum_below (cells case.torus) f
unfolding IsUnit IsReverse
arrivals case f i laws some known =
    let o = opposite case.stencil i in
    let known_o : o < case.stencil.directions = laws.opposite_exists i known in
    let unit : IsUnit (velocity case.stencil i) = λ a axis. laws.unit_parts i a known axis in
    let unit_o : IsUnit (velocity case.stencil o) = λ a axis. laws.unit_parts o a known_o axis in
    let reverse : IsReverse (velocity case.stencil i) (velocity case.stencil o) = λ a axis. laws.opposite_velocity i a known axis in
    let reverse_o : IsReverse (velocity case.stencil o) (velocity case.stencil i) = λ a axis. ap (λ (k : ℕ). part (velocity case.stencil k) a) (sym (laws.opposite_twice i known)) ∙ laws.opposite_velocity o a known_o axis in
    sum_below-reindex (cells case.torus) (λ x. source case x i) (λ x. source case x o) f
    (λ x below. back_within case.torus (velocity case.stencil i) x some unit below)
    (λ x below. back_within case.torus (velocity case.stencil o) x some unit_o below)
    (λ x below. back-twice case.torus (velocity case.stencil i) (velocity case.stencil o) x some unit reverse below)
    (λ x below. back-twice case.torus (velocity case.stencil o) (velocity case.stencil i) x some unit_o reverse_o below)

-- a step changes the mass by the gains of moving walls alone
pub mass-next : MassOfStep
mass-next case s flow =
    let laws = flow.set in
    let some = HasCells-from_space case.torus flow.space in
    let n = cells case.torus in
    let q = case.stencil.directions in
    let pulled : ℕ → ℕ → ℤ = λ x i. post case (source case x i) (population s (source case x i)) i in
    let by_cell : mass (next case s) ≡ sum_below n (λ x. sum_below q (λ i. population (next case s) x i)) =
    mass-by_cell (next case s) n (length-state_of q n pulled) in
    let by_source : sum_below n (λ x. sum_below q (λ i. population (next case s) x i)) ≡ sum_below n (λ x. sum_below q (λ i. pulled x i)) =
    sum_below-same n (λ x. sum_below q (λ i. population (next case s) x i)) (λ x. sum_below q (λ i. pulled x i))
    (λ x known_x. sum_below-same q (λ i. population (next case s) x i) (λ i. pulled x i) (λ i known_i. population-state_of q n pulled x i known_x known_i)) in
    let by_direction = sum_below-swap n q pulled in
    let arrived : sum_below q (λ i. sum_below n (λ x. pulled x i)) ≡ sum_below q (λ i. sum_below n (λ x. post case x (population s x) i)) =
    sum_below-same q (λ i. sum_below n (λ x. pulled x i)) (λ i. sum_below n (λ x. post case x (population s x) i)) (λ i known. arrivals case (λ x. post case x (population s x) i) i laws some known) in
    let back_by_cell = sum_below-swap q n (λ i x. post case x (population s x) i) in
    let kept : sum_below n (λ x. sum_below q (λ i. post case x (population s x) i)) ≡ sum_below n (λ x. sum_below q (population s x) +ℤ (if is_solid case x then sum_below q (gain case x) else pos 0)) =
    sum_below-same n (λ x. sum_below q (λ i. post case x (population s x) i)) (λ x. sum_below q (population s x) +ℤ (if is_solid case x then sum_below q (gain case x) else pos 0)) (λ x _. post-sum case s x laws) in
    let apart = sum_below-add n (λ x. sum_below q (population s x)) (λ x. if is_solid case x then sum_below q (gain case x) else pos 0) in
    let old : mass s ≡ sum_below n (λ x. sum_below q (population s x)) =
    mass-by_cell s n flow.state.numbers ∙ ap (λ (k : ℕ). sum_below n (λ x. sum_below k (population s x))) flow.state.directions in
    by_cell ∙ by_source ∙ by_direction ∙ arrived ∙ back_by_cell ∙ kept ∙ apart ∙ ap (λ (m : ℤ). m +ℤ all_gain case) (sym old)

-- the next state has the sizes of the state
pub IsStateOf-state_by : (case : FlowCase) (f : ℕ → ℕ → ℤ) → IsStateOf case (state_by case f)
IsStateOf-state_by case f = record { directions = refl; numbers = length-state_of case.stencil.directions (cells case.torus) f }

pub IsStateOf-next : (case : FlowCase) (s : FlowState) → IsStateOf case (next case s)
IsStateOf-next case s = IsStateOf-state_by case (λ x i. post case (source case x i) (population s (source case x i)) i)

pub IsFlow-next : (case : FlowCase) (s : FlowState) → IsFlow case s → IsFlow case (next case s)
IsFlow-next case s flow = record { set = flow.set; space = flow.space; state = IsStateOf-next case s }

-- a run that reaches a state goes on from a state in limits
pub goes_on : (worst : Option ℕ) (time : ℕ) (rest : RunEnd) (end : FlowState) → elim worst [ Some x ↦ range time x | None ↦ rest ] ≡ reached end → rest ≡ reached end
goes_on (Some x) time rest end e = absurd cc
goes_on None time rest end e = e

-- one gain more
one_more : (steps : ℕ) (m gain : ℤ) → m +ℤ gain +ℤ (pos steps *ℤ gain) ≡ m +ℤ (pos (suc steps) *ℤ gain)
one_more steps m gain = omega (arith, ints)

no_more : (m gain : ℤ) → m ≡ m +ℤ (pos 0 *ℤ gain)
no_more m gain = omega (arith, ints)

-- over a whole run
pub mass-run : MassOfRun
mass-run case s end time zero flow e =
    let same : s ≡ end = (let h : reached s ≡ reached end = goes_on (out_of_limits case s) time (reached s) end e in cc) in
    rw (← same) (no_more (mass s) (all_gain case))
mass-run case s end time (suc steps) flow e =
    let h : run case (next case s) (time + 1) steps ≡ reached end = goes_on (out_of_limits case s) time (run case (next case s) (time + 1) steps) end e in
    mass-run case (next case s) end (time + 1) steps (IsFlow-next case s flow) h
    ∙ ap (λ (m : ℤ). m +ℤ (pos steps *ℤ all_gain case)) (mass-next case s flow)
    ∙ one_more steps (mass s) (all_gain case)

-- without moving cells there is no gain
all_gain-none : (case : FlowCase) → ((x i : ℕ) → gain case x i ≡ pos 0) → all_gain case ≡ pos 0
all_gain-none case still =
    let cell : (x : ℕ) → cell_gain case x ≡ pos 0 = λ x. elim (cases_Bool (is_solid case x)) [
      | inl solid ↦ rw solid (sum_below-same case.stencil.directions (gain case x) (λ _. pos 0) (λ i _. still x i) ∙ sum_below-zero case.stencil.directions)
      | inr fluid ↦ rw fluid refl
    ] in
    sum_below-same (cells case.torus) (cell_gain case) (λ _. pos 0) (λ x _. cell x) ∙ sum_below-zero (cells case.torus)

pub all_gain-at_rest : NoGainAtRest
all_gain-at_rest case resting = all_gain-none case (λ x i. let still : is_moving case x ≡ false = rw resting refl in rw still refl)
