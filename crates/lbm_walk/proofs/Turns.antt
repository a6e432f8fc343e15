-- The turns of directions, and what puts one behind the other amount to.
use Rattle.std.proofs.Common.{◌≡◌, ◌≢◌, ◌⊎◌, ℕ, ◌+◌, ◌<◌, ◌≤◌, zero, suc, ◌-◌, ◌+ℤ◌, ◌-ℤ◌, pos, eqb, true, false, ℤ, neg_ℤ, min, unsigned_abs, inl, inr, refl, sym, ap, ◌∙◌, arith, lit<}
use Rattle.std.proofs.lemmas.Bool.{cases_lt, cases_eq, eq-eqb, ne_eqb, lt-ltb, le-ltb}
use Rattle.std.proofs.lemmas.Bool.Decides.{nat_tests}
use Rattle.std.proofs.lemmas.Int.{ints}
use Rattle.std.specs.Prelude.{◌==◌, nat_lt, if◌then◌else◌}
use Rattle.lbm_space.specs.Stencil.{Stencil, opposite, IsVelocitySet, velocity, part}
use Rattle.lbm_cell.proofs.Limits.{opposite_moves, moves}
use Rattle.lbm_walk.specs.Turns.{turn, IsUnderway, sum_before}
use Rattle.lbm_space.specs.Sum.{sum_below, sum_from_one}
use Rattle.lbm_space.proofs.Sums.{sum_below-same}

pub turn_rest : (v : Stencil) → turn v 0 ≡ 27
unfolding turn
turn_rest v = refl

pub turn_moving : (v : Stencil) (i : ℕ) → 0 < i → turn v i ≡ min i (opposite v i)
unfolding turn
turn_moving v i some = grind (arith, nat_tests)

own_negative : (z : ℤ) → z ≡ neg_ℤ z → unsigned_abs z ≡ 0
own_negative z e = omega (arith, ints)

-- the opposite of the rest direction, and of a moving one
pub opposite_rest : (v : Stencil) → IsVelocitySet v → opposite v 0 ≡ 0
opposite_rest v laws = elim (cases_lt 0 (opposite v 0)) [
  | inl some ↦ absurd (omega (arith, opposite_moves v (opposite v 0) laws some (laws.opposite_exists 0 laws.some_direction), laws.opposite_twice 0 laws.some_direction))
  | inr none ↦ omega arith
]

pub opposite_other : (v : Stencil) (i : ℕ) → IsVelocitySet v → 0 < i → i < v.directions → opposite v i ≢ i
opposite_other v i laws moving known = λ e.
    let zero_part : (a : ℕ) → a < 3 → unsigned_abs (part (velocity v i) a) ≡ 0 = λ a axis.
    own_negative (part (velocity v i) a) (ap (λ k. part (velocity v k) a) (sym e) ∙ laws.opposite_velocity i a known axis) in
    absurd (omega (arith, moves v i laws moving known, zero_part 0 (lit< tt), zero_part 1 (lit< tt), zero_part 2 (lit< tt)))

pub turn_opposite : (v : Stencil) (i : ℕ) → IsVelocitySet v → i < v.directions → turn v (opposite v i) ≡ turn v i
turn_opposite v i laws known = elim (cases_lt 0 i) [
  | inl moving ↦ (let e = laws.opposite_twice i known in
      omega (arith, turn_moving v i moving, turn_moving v (opposite v i) (opposite_moves v i laws moving known), e))
  | inr rest ↦ (let e : i ≡ 0 = omega arith in ap (λ k. turn v (opposite v k)) e ∙ ap (turn v) (opposite_rest v laws) ∙ sym (ap (turn v) e))
]

pub turn_last : (v : Stencil) (i : ℕ) → IsVelocitySet v → i < v.directions → turn v i < 28
turn_last v i laws known = elim (cases_lt 0 i) [
  | inl moving ↦ omega (arith, turn_moving v i moving, laws.few_directions)
  | inr rest ↦ (let e : i ≡ 0 = omega arith in omega (arith, ap (turn v) e, turn_rest v))
]

-- only the rest direction has the turn behind the pairs
pub turn_is_rest : (v : Stencil) (i : ℕ) → IsVelocitySet v → i < v.directions → 27 ≤ turn v i → i ≡ 0
turn_is_rest v i laws known late = elim (cases_lt 0 i) [
  | inl moving ↦ absurd (omega (arith, turn_moving v i moving, laws.few_directions))
  | inr rest ↦ omega arith
]

-- the directions of a turn
pub turn_is : (v : Stencil) (i k : ℕ) → IsVelocitySet v → k < v.directions → i < 27 → turn v k ≡ i → (0 < i) × (i < v.directions) × (i ≤ opposite v i) × ((k ≡ i) ⊎ (k ≡ opposite v i))
turn_is v i k laws known early is = elim (cases_lt 0 k) [
  | inr rest ↦ (let e : k ≡ 0 = omega arith in absurd (omega (arith, ap (turn v) e, turn_rest v)))
  | inl moving ↦ elim (cases_lt (opposite v k) k) [
    | inl second ↦ (
        let e : opposite v k ≡ i = omega (arith, turn_moving v k moving) in
        let back : opposite v i ≡ k = ap (opposite v) (sym e) ∙ laws.opposite_twice k known in
        let there = laws.opposite_exists k known in let some = opposite_moves v k laws moving known in
        (omega arith, omega arith, omega arith, inr (sym back)))
    | inr first ↦ (
        let e : k ≡ i = omega (arith, turn_moving v k moving) in
        let same = ap (opposite v) e in
        (omega arith, omega arith, omega arith, inl e))
  ]
]

module _ (v : Stencil) (n : ℕ) (after first : ℕ → ℕ → ℤ) (laws : IsVelocitySet v) where
  -- a turn at which nothing is put
  pub underway_none : (m : ℕ) (there sent : ℕ → ℕ → ℤ) → ((i : ℕ) → i < v.directions → turn v i ≢ m) → IsUnderway v n m after first there sent → IsUnderway v n (m + 1) after first there sent
  underway_none m there sent none is = record {
    done = λ i j known cell early. let ne : turn v i ≢ m = none i known in is.done i j known cell (omega arith);
    left = λ i j known cell late. is.left i j known cell (omega arith);
  }

  -- the turn of a pair, whose two directions are put one after the other
  pub underway_both : (i o : ℕ) (there sent there1 sent1 there2 sent2 : ℕ → ℕ → ℤ) → 0 < i → i < v.directions → i < 27 → o ≡ opposite v i → i ≤ o
      → ((j : ℕ) → j < n → sent1 i j ≡ after j i)
      → ((k j : ℕ) → k < v.directions → k ≢ i → j < n → sent1 k j ≡ sent k j)
      → ((k j : ℕ) → k < v.directions → k ≢ i → k ≢ opposite v i → j < n → there1 k j ≡ there k j)
      → ((j : ℕ) → j < n → sent2 o j ≡ after j o)
      → ((k j : ℕ) → k < v.directions → k ≢ o → j < n → sent2 k j ≡ sent1 k j)
      → ((k j : ℕ) → k < v.directions → k ≢ o → k ≢ opposite v o → j < n → there2 k j ≡ there1 k j)
      → IsUnderway v n i after first there sent → IsUnderway v n (i + 1) after first there2 sent2
  underway_both i o there sent there1 sent1 there2 sent2 moving known early o_is order put1 sent_on there_on put2 sent_on2 there_on2 is =
      let back : opposite v o ≡ i = ap (opposite v) o_is ∙ laws.opposite_twice i known in
      let apart : o ≢ i = λ e. opposite_other v i laws moving known (sym o_is ∙ e) in
      let own : turn v i ≡ i = omega (arith, turn_moving v i moving) in
      let others : turn v o ≡ i = ap (turn v) o_is ∙ turn_opposite v i laws known ∙ own in
      record {
        done = λ k j here cell before. elim (cases_eq k o) [
          | inl at_o ↦ (ap (λ m. sent2 m j) at_o ∙ put2 j cell ∙ ap (after j) (sym at_o))
          | inr not_o ↦ elim (cases_eq k i) [
            | inl at_i ↦ (sent_on2 k j here not_o cell ∙ ap (λ m. sent1 m j) at_i ∙ put1 j cell ∙ ap (after j) (sym at_i))
            | inr not_i ↦ (
                let ne : turn v k ≢ i = λ e. (elim ((turn_is v i k laws here early e).3) [ inl x ↦ not_i x | inr x ↦ not_o (x ∙ sym o_is) ]) in
                sent_on2 k j here not_o cell ∙ sent_on k j here not_i cell ∙ is.done k j here cell (omega arith))
          ]
        ];
        left = λ k j here cell late.
            let off_i : k ≢ i = λ e. absurd (omega (arith, ap (turn v) e)) in
            let off_o : k ≢ o = λ e. absurd (omega (arith, ap (turn v) e)) in
            there_on2 k j here off_o (λ e. off_i (e ∙ back)) cell ∙ there_on k j here off_i (λ e. off_o (e ∙ sym o_is)) cell ∙ is.left k j here cell (omega arith);
      }

-- the same, where numbers are told in other words
pub underway_at : (v : Stencil) (n n' m m' : ℕ) (after first there sent : ℕ → ℕ → ℤ) → n' ≡ n → m ≡ m' → IsUnderway v n m after first there sent → IsUnderway v n' m' after first there sent
underway_at v n n' m m' after first there sent count same is = record {
  done = λ i j known cell early. is.done i j known (omega arith) (omega arith);
  left = λ i j known cell late. is.left i j known (omega arith) (omega arith);
}

-- where all pairs were put and then the rest direction, all directions were put
pub underway_all : (v : Stencil) (n : ℕ) (after first there sent sent1 : ℕ → ℕ → ℤ) → IsVelocitySet v → IsUnderway v n 27 after first there sent
    → ((j : ℕ) → j < n → sent1 0 j ≡ after j 0)
    → ((k j : ℕ) → k < v.directions → k ≢ 0 → j < n → sent1 k j ≡ sent k j)
    → (i j : ℕ) → i < v.directions → j < n → sent1 i j ≡ after j i
underway_all v n after first there sent sent1 laws is put on i j known cell = elim (cases_eq i 0) [
  | inl rest ↦ (ap (λ m. sent1 m j) rest ∙ put j cell ∙ ap (after j) (sym rest))
  | inr moving ↦ (on i j known moving cell ∙ is.done i j known cell (omega (arith, turn_moving v i (omega arith), laws.few_directions)))
]

-- a sum that differs in one place
sum_one : (n a : ℕ) (g f : ℕ → ℤ) → a < n → ((k : ℕ) → k < n → k ≢ a → g k ≡ f k) → sum_below n g ≡ sum_below n f +ℤ (g a -ℤ f a)
sum_one zero a g f within same = absurd (omega arith)
sum_one (suc n) a g f within same = elim (cases_eq a n) [
  | inl last ↦ (
      let below : sum_below n g ≡ sum_below n f = sum_below-same n g f (λ k less. same k (omega arith) (omega arith)) in
      let g_is = ap g last in let f_is = ap f last in omega (arith, ints, below, g_is, f_is))
  | inr ne ↦ (
      let before = sum_one n a g f (omega arith) (λ k less off. same k (omega arith) off) in
      let last : g n ≡ f n = same n (omega arith) (λ e. ne (sym e)) in omega (arith, ints, before, last))
]

-- a sum that differs in two places
sum_two : (n a b : ℕ) (g f : ℕ → ℤ) → a < n → b < n → a ≢ b → ((k : ℕ) → k < n → k ≢ a → k ≢ b → g k ≡ f k) → sum_below n g ≡ sum_below n f +ℤ ((g a -ℤ f a) +ℤ (g b -ℤ f b))
sum_two n a b g f a_within b_within apart same =
    let m : ℕ → ℤ = λ k. if k == a then f k else g k in
    let at_a : m a ≡ f a = (let on : eqb a a ≡ true = eq-eqb a a refl in rw on refl) in
    let off_a : (k : ℕ) → k ≢ a → m k ≡ g k = λ k ne. (let off : eqb k a ≡ false = ne_eqb k a ne in rw off refl) in
    let first = sum_one n a g m a_within (λ k less ne. sym (off_a k ne)) in
    let second = sum_one n b m f b_within (λ k less ne. elim (cases_eq k a) [ inl e ↦ (ap m e ∙ at_a ∙ ap f (sym e)) | inr ne' ↦ (off_a k ne' ∙ same k less ne' ne) ]) in
    let at_b : m b ≡ g b = off_a b (λ e. apart (sym e)) in
    omega (arith, ints, first, second, at_a, at_b)

module _ (v : Stencil) (f : ℕ → ℤ) (laws : IsVelocitySet v) where
  abbrev part_before : ℕ → ℕ → ℤ
  part_before m k = if nat_lt (turn v (k + 1)) m then f (k + 1) else pos 0

  pub sum_none : (m : ℕ) → ((i : ℕ) → i < v.directions → turn v i ≢ m) → sum_before v (m + 1) f ≡ sum_before v m f
  sum_none m none = sum_below-same (v.directions - 1) (part_before (m + 1)) (part_before m) (λ k below.
      let ne : turn v (k + 1) ≢ m = none (k + 1) (omega arith) in
      let same : nat_lt (turn v (k + 1)) (m + 1) ≡ nat_lt (turn v (k + 1)) m = grind (arith, nat_tests) in rw same refl)

  pub sum_pair : (i o : ℕ) → 0 < i → i < v.directions → i < 27 → o ≡ opposite v i → i ≤ o → sum_before v (i + 1) f ≡ sum_before v i f +ℤ (f i +ℤ f o)
  sum_pair i o moving known early o_is order =
      let apart : o ≢ i = λ e. opposite_other v i laws moving known (sym o_is ∙ e) in
      let own : turn v i ≡ i = omega (arith, turn_moving v i moving) in
      let others : turn v o ≡ i = ap (turn v) o_is ∙ turn_opposite v i laws known ∙ own in
      let inside : o < v.directions = omega (arith, o_is, laws.opposite_exists i known) in
      let a : ℕ = i - 1 in let b : ℕ = o - 1 in
      let is_i : a + 1 ≡ i = omega arith in let is_o : b + 1 ≡ o = omega arith in
      let turn_a : turn v (a + 1) ≡ i = ap (turn v) is_i ∙ own in
      let turn_b : turn v (b + 1) ≡ i = ap (turn v) is_o ∙ others in
      let two = sum_two (v.directions - 1) a b (part_before (i + 1)) (part_before i) (omega arith) (omega arith) (omega arith) (λ k below not_a not_b.
      let ne : turn v (k + 1) ≢ i = λ e. (elim ((turn_is v i (k + 1) laws (omega arith) early e).3) [ inl x ↦ absurd (omega arith) | inr x ↦ absurd (omega (arith, o_is)) ]) in
      let same : nat_lt (turn v (k + 1)) (i + 1) ≡ nat_lt (turn v (k + 1)) i = grind (arith, nat_tests) in rw same refl) in
      let on_a : nat_lt (turn v (a + 1)) (i + 1) ≡ true = lt-ltb (turn v (a + 1)) (i + 1) (omega arith) in
      let on_b : nat_lt (turn v (b + 1)) (i + 1) ≡ true = lt-ltb (turn v (b + 1)) (i + 1) (omega arith) in
      let off_a : nat_lt (turn v (a + 1)) i ≡ false = le-ltb (turn v (a + 1)) i (omega arith) in
      let off_b : nat_lt (turn v (b + 1)) i ≡ false = le-ltb (turn v (b + 1)) i (omega arith) in
      let new_a : part_before (i + 1) a ≡ f i = rw on_a (ap f is_i) in
      let new_b : part_before (i + 1) b ≡ f o = rw on_b (ap f is_o) in
      let old_a : part_before i a ≡ pos 0 = rw off_a refl in
      let old_b : part_before i b ≡ pos 0 = rw off_b refl in
      omega (arith, ints, two, new_a, new_b, old_a, old_b)

  -- behind all pairs it is the sum of all that moves
  pub sum_all : sum_before v 27 f ≡ sum_from_one v.directions f
  sum_all = sum_below-same (v.directions - 1) (part_before 27) (λ k. f (k + 1)) (λ k below.
      let early : turn v (k + 1) < 27 = omega (arith, turn_moving v (k + 1) (omega arith), laws.few_directions) in
      let on : nat_lt (turn v (k + 1)) 27 ≡ true = lt-ltb (turn v (k + 1)) 27 early in rw on refl)
