-- Cells that a kernel has gone over, part by part.
use Rattle.std.proofs.Common.{◌≡◌, ℕ, ◌+◌, ◌-◌, ◌<◌, ◌≤◌, ℤ, Bool, true, false, inl, inr, Option, Some, None, refl, ap, sym, ◌∙◌, subst, arith}
use Rattle.std.specs.Option.{option_or}
use Rattle.std.proofs.lemmas.Bool.{cases_lt}
use Rattle.lbm_walk.specs.First.{IsFirst}
use Rattle.lbm_walk.specs.Orders.{done_from, done_to, next_from}
use Rattle.lbm_walk.specs.Walked.{AreTaken, IsWalked}
use Rattle.lbm_walk.proofs.Firsts.{first_none, first_later, first_earlier, first_lane_none}

-- the first part answers first
pub first_of_both : (test : ℕ → Bool) (a b c : ℕ) (low high : Option ℕ) → a ≤ b → b ≤ c → IsFirst test a b low → IsFirst test b c high → IsFirst test a c (option_or low high)
first_of_both test a b c None high le le' f g = first_later test a b c high le f g
first_of_both test a b c (Some x) high le le' f g = first_earlier test a b c x le' f

some_of_both : (low : Option ℕ) (x : ℕ) → option_or low (Some x) ≡ None → ⊥
some_of_both None x e = cc
some_of_both (Some y) x e = cc

-- what the cells of a span take, the first of which is the cell `next` of a row
module _ (q cell at width next n place : ℕ) (there first : ℕ → ℕ → ℤ) (is : (i j : ℕ) → i < q → j < n → there i j ≡ first i (place + j)) (here : place ≡ at + next) (fits : next + n ≤ width) where
  pub span_taken : (f : ℕ → ℕ → ℤ) → AreTaken q width (λ x. f (cell + x)) (λ i x. first i (at + x)) → AreTaken q n (λ j. f (cell + next + j)) there
  span_taken f taken = λ i j known lane.
      let p : place + j ≡ at + (next + j) = omega (arith, here) in let x : cell + (next + j) ≡ cell + next + j = omega arith in
      is i j known lane ∙ ap (first i) p ∙ taken i (next + j) known (omega (arith, lane, fits)) ∙ ap (λ z. f z i) x

  pub span_small : (small : ℕ → ℤ → Type 0) → ((i x : ℕ) → i < q → x < width → small (cell + x) (first i (at + x))) → (i j : ℕ) → i < q → j < n → small (cell + next + j) (there i j)
  span_small small all = λ i j known lane.
      let p : at + (next + j) ≡ place + j = omega (arith, here) in let x : cell + (next + j) ≡ cell + next + j = omega arith in
      let value : first i (at + (next + j)) ≡ there i j = ap (first i) p ∙ sym (is i j known lane) in
      subst (λ (m : ℕ × ℤ). small m.0 m.1) (λ k. (x k, value k)) (all i (next + j) known (omega (arith, lane, fits)))

module _ (sound : ℕ → (ℕ → ℤ) → Bool) (post : ℕ → (ℕ → ℤ) → ℕ → ℤ) (q : ℕ) (place : ℕ → ℕ) (f : ℕ → ℕ → ℤ) where
  abbrev Walked : ℕ → ℕ → (ℕ → ℕ → ℤ) → Option ℕ → Type 0
  Walked from to after answer = IsWalked sound post q place from to f after answer

  abbrev test : ℕ → Bool
  test x = sound x (f x)

  pub walked_none : (a b : ℕ) (after : ℕ → ℕ → ℤ) → a ≡ b → Walked a b after None
  walked_none a b after same = record {
    first = subst (λ (m : ℕ). IsFirst test a m None) same (first_none test a);
    sent = λ e i x known low high. absurd (omega (arith, same, low, high));
  }

  -- where the same stands at their places
  pub walked_as : (a b : ℕ) (after after2 : ℕ → ℕ → ℤ) → ((i x : ℕ) → i < q → a ≤ x → x < b → after2 i (place x) ≡ after i (place x)) → Walked a b after None → Walked a b after2 None
  walked_as a b after after2 same is = record { first = is.first; sent = λ e i x known low high. same i x known low high ∙ is.sent e i x known low high }

  walked_both : (a b c : ℕ) (after : ℕ → ℕ → ℤ) → a ≤ b → Walked a b after None → Walked b c after None → Walked a c after None
  walked_both a b c after le one two = record {
    first = first_later test a b c None le one.first two.first;
    sent = λ e i x known low high. elim (cases_lt x b) [ inl l ↦ one.sent refl i x known low l | inr h ↦ two.sent refl i x known h high ];
  }

  pub walked_fails : (a b x : ℕ) (after : ℕ → ℕ → ℤ) → IsFirst test a b (Some x) → Walked a b after (Some x)
  walked_fails a b x after first = record { first = first; sent = λ e. absurd cc }

  -- what the lanes of a span have sent
  pub walked_lanes : (cell n at : ℕ) (after sent : ℕ → ℕ → ℤ) → IsFirst (λ j. test (cell + j)) 0 n None → AreTaken q n (λ j. post (cell + j) (f (cell + j))) sent
      → ((i j : ℕ) → sent i j ≡ after i (at + j)) → ((j : ℕ) → j < n → place (cell + j) ≡ at + j) → Walked cell (cell + n) after None
  walked_lanes cell n at after sent first put is there = record {
    first = first_lane_none test cell n first;
    sent = λ e i x known low high.
        let j : ℕ = x - cell in let same : cell + j ≡ x = omega (arith, low) in let lane : j < n = omega (arith, low, high) in
        ap (after i) (sym (ap place same) ∙ there j lane) ∙ sym (is i j) ∙ put i j known lane ∙ ap (λ z. post z (f z) i) same;
  }

  module _ (number : ℕ → ℕ) (order : (a b : ℕ) → a ≤ b → number a ≤ number b) where
    -- the next n, after what is done
    pub walked_on : (rises : Bool) (count done n : ℕ) (after : ℕ → ℕ → ℤ) → done + n ≤ count
        → Walked (number (done_from rises count done)) (number (done_to rises count done)) after None
        → Walked (number (next_from rises count done n)) (number (next_from rises count done n + n)) after None
        → Walked (number (done_from rises count (done + n))) (number (done_to rises count (done + n))) after None
    walked_on true count done n after fits old next = walked_both (number 0) (number done) (number (done + n)) after (order 0 done (omega arith)) old next
    walked_on false count done n after fits old next =
        let from : count - done - n ≡ count - (done + n) = omega (arith, fits) in let to : count - done - n + n ≡ count - done = omega (arith, fits) in
        walked_both (number (count - (done + n))) (number (count - done)) (number count) after (order (count - (done + n)) (count - done) (omega arith))
        (subst (λ (p : ℕ × ℕ). Walked (number p.0) (number p.1) after None) (λ i. (from i, to i)) next) old

    -- all of them
    pub walked_all : (rises : Bool) (count done : ℕ) (after : ℕ → ℕ → ℤ) → done ≡ count
        → Walked (number (done_from rises count done)) (number (done_to rises count done)) after None → Walked (number 0) (number count) after None
    walked_all true count done after end is = subst (λ (m : ℕ). Walked (number 0) (number m) after None) end is
    walked_all false count done after end is = let none : count - done ≡ 0 = omega (arith, end) in subst (λ (m : ℕ). Walked (number m) (number count) after None) none is

    -- the first that a walk meets which rises
    pub found_rising : (rises : Bool) (count done n x : ℕ) (after after2 : ℕ → ℕ → ℤ) → rises ≡ true → done + n ≤ count
        → Walked (number (done_from rises count done)) (number (done_to rises count done)) after None
        → IsFirst test (number (next_from rises count done n)) (number (next_from rises count done n + n)) (Some x) → Walked (number 0) (number count) after2 (Some x)
    found_rising false count done n x after after2 e fits old next = absurd cc
    found_rising true count done n x after after2 e fits old next = walked_fails (number 0) (number count) x after2
        (first_earlier test (number 0) (number (done + n)) (number count) x (order (done + n) count fits)
        (first_later test (number 0) (number done) (number (done + n)) (Some x) (order 0 done (omega arith)) old.first next))

    -- and the first of those before one that was met in a walk that falls
    pub found_falling : (count start n x : ℕ) (low : Option ℕ) (after2 : ℕ → ℕ → ℤ) → start + n ≤ count → IsFirst test (number 0) (number start) low
        → IsFirst test (number start) (number (start + n)) (Some x) → Walked (number 0) (number count) after2 (option_or low (Some x))
    found_falling count start n x low after2 fits lesser next =
        let first = first_of_both test (number 0) (number start) (number count) low (Some x) (order 0 start (omega arith)) (order start count (omega (arith, fits))) lesser
        (first_earlier test (number start) (number (start + n)) (number count) x (order (start + n) count fits) next) in
        record { first = first; sent = λ e. absurd (some_of_both low x e) }
