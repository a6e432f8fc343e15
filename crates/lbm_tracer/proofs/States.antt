-- The state of a tracer, by its amounts.
use Rattle.std.proofs.Common.{◌≡◌, ◌≢◌, ℕ, ◌+◌, ◌*◌, ◌<◌, ◌≤◌, List, ℤ, pos, unsigned_abs, eqb, true, false, replicate, sym, ap, inl, inr, ◌∙◌, arith}
use Rattle.std.specs.Prelude.{if◌then◌else◌, ◌==◌}
use Rattle.std.proofs.lemmas.Bool.{cases_eq, eq-eqb, ne_eqb}
use Rattle.std.proofs.lemmas.List.{get_or-replicate}
use Rattle.lbm_space.specs.Torus.{Torus, IsSpace, cells, padded}
use Rattle.lbm_space.proofs.Sums.{sum_below-same}
use Rattle.lbm_cell.specs.Moments.{density}
use Rattle.lbm_model.specs.State.{population}
use Rattle.lbm_model.specs.Layout.{aa_layout, slot_of}
use Rattle.lbm_model.proofs.States.{state_by-same, population-state_by}
use Rattle.lbm_tracer.specs.Limits.{amount_bound}
use Rattle.lbm_tracer.specs.Collision.{first_amount}
use Rattle.lbm_tracer.specs.Tracing.{set_in, tracer_state_by, tracer_first}
use Rattle.lbm_tracer.specs.Carried.{places_of, amount_in, tracer_state_in, AreFew}
use Rattle.lbm_tracer.proofs.Places.{slot_known, layout_fits}

-- equal amounts, equal states
pub state-same : (t : Torus) (f g : ℕ → ℕ → ℤ) → ((x k : ℕ) → x < cells t → k < (set_in t).directions → f x k ≡ g x k) → tracer_state_by t f ≡ tracer_state_by t g
state-same t f g same = state_by-same (places_of t) f g same

pub amount-state : (t : Torus) (f : ℕ → ℕ → ℤ) (x k : ℕ) → x < cells t → k < (set_in t).directions → population (tracer_state_by t f) x k ≡ f x k
amount-state t f x k here known = population-state_by (places_of t) f x k here known

-- the amount of a cell
pub cell-state : (t : Torus) (f : ℕ → ℕ → ℤ) (x : ℕ) (g : ℕ → ℤ) → x < cells t → ((k : ℕ) → k < (set_in t).directions → g k ≡ f x k) → density (set_in t) g ≡ density (set_in t) (population (tracer_state_by t f) x)
cell-state t f x g here same = sum_below-same (set_in t).directions g (population (tracer_state_by t f) x) (λ k known. same k known ∙ sym (amount-state t f x k here known))

-- a region of zeros
amount-zero : (t : Torus) (n x k : ℕ) → IsSpace t → n ≡ (set_in t).directions * (2 + padded t) → x < cells t → k < (set_in t).directions → amount_in t 0 (replicate n (pos 0)) x k ≡ pos 0
amount-zero t n x k space size here known =
    get_or-replicate n (slot_of (places_of t) (aa_layout 0) x k) (pos 0) (pos 0) (rw size (slot_known t space (aa_layout 0) x k (layout_fits 0) here known))

module _ (t : Torus) (cell : ℕ) (amount : ℕ) (f : ℕ → ℕ → ℤ) (first : ℕ → ℤ)
    (here : (k : ℕ) → k < (set_in t).directions → f cell k ≡ first k) (others : (x k : ℕ) → x < cells t → k < (set_in t).directions → x ≢ cell → f x k ≡ pos 0) where
  -- one cell has all
  state-first : ((k : ℕ) → k < (set_in t).directions → first k ≡ first_amount (set_in t) (pos amount) k) → tracer_state_by t f ≡ tracer_first t amount cell
  state-first is = state-same t f (λ x k. if x == cell then first_amount (set_in t) (pos amount) k else pos 0) (λ x k there known. elim (cases_eq x cell) [
    | inl one ↦ (let on : eqb x cell ≡ true = eq-eqb x cell one in rw on (ap (λ (y : ℕ). f y k) one ∙ here k known ∙ is k known))
    | inr ne ↦ (let off : eqb x cell ≡ false = ne_eqb x cell ne in rw off (others x k there known ne))
  ])

  few-first : ((k : ℕ) → k < (set_in t).directions → unsigned_abs (first k) ≤ amount_bound) → AreFew t f
  few-first small x k there known = elim (cases_eq x cell) [
    | inl one ↦ rw (one, here k known) (small k known)
    | inr ne ↦ rw (others x k there known ne) (omega arith)
  ]

-- a region that was just made holds no amount
zeros : (t : Torus) (slots : List ℤ) (q : ℕ) → IsSpace t → q ≡ (set_in t).directions → slots ≡ replicate (q * (2 + padded t)) (pos 0)
    → (x k : ℕ) → x < cells t → k < (set_in t).directions → amount_in t 0 slots x k ≡ pos 0
zeros t slots q space count made x k here known =
    ap (λ (s : List ℤ). amount_in t 0 s x k) made ∙ amount-zero t (q * (2 + padded t)) x k space (ap (λ (n : ℕ). n * (2 + padded t)) count) here known

-- the first amounts of a cell are put into a region that was just made
pub first_placed : (t : Torus) (amount cell q : ℕ) (made placed : List ℤ) (first : ℕ → ℤ) → IsSpace t → q ≡ (set_in t).directions → made ≡ replicate (q * (2 + padded t)) (pos 0)
    → ((k : ℕ) → k < (set_in t).directions → amount_in t 0 placed cell k ≡ first k)
    → ((x k : ℕ) → x < cells t → k < (set_in t).directions → x ≢ cell → amount_in t 0 placed x k ≡ amount_in t 0 made x k)
    → ((k : ℕ) → k < (set_in t).directions → first k ≡ first_amount (set_in t) (pos amount) k)
    → ((k : ℕ) → k < (set_in t).directions → unsigned_abs (first k) ≤ amount_bound)
    → (tracer_state_in t 0 placed ≡ tracer_first t amount cell) × AreFew t (amount_in t 0 placed)
first_placed t amount cell q made placed first space count zero here kept is small =
    let others : (x k : ℕ) → x < cells t → k < (set_in t).directions → x ≢ cell → amount_in t 0 placed x k ≡ pos 0 =
    λ x k there known ne. kept x k there known ne ∙ zeros t made q space count zero x k there known in
    (state-first t cell amount (amount_in t 0 placed) first here others is, few-first t cell amount (amount_in t 0 placed) first here others small)
