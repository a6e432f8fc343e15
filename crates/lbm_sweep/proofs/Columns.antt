-- What a walk over a slab leaves in its ranges.
use Rattle.std.proofs.Common.{◌≡◌, ℕ, ℤ, ◌*◌, ◌<◌, ◌≤◌, Bool, List, slice_index, Option, sym, ◌∙◌, subst}
use Rattle.lbm_space.specs.Torus.{Torus, IsSpace}
use Rattle.lbm_cell.specs.Rows.{entry}
use Rattle.lbm_walk.specs.Places.{InRows, local}
use Rattle.lbm_walk.specs.Walked.{IsWalked}
use Rattle.lbm_sweep.specs.Slabs.{Ranges, InColumns}
use Rattle.lbm_sweep.proofs.Places.{cells_between}

-- now, after    what a walk takes before it begins and what it leaves: direction, then place
module _ (sound : ℕ → (ℕ → ℤ) → Bool) (post : ℕ → (ℕ → ℤ) → ℕ → ℤ) (q : ℕ) (writes : List ℕ) (t : Torus) (now after : ℕ → ℕ → ℤ) (old new : Ranges) (answer : Option ℕ) where
  abbrev Walked : ℕ × ℕ → Type 0
  Walked rows = (f : ℕ → ℕ → ℤ) → ((i x : ℕ) → i < q → InRows t rows x → now i (local t rows x) ≡ f x i) → IsWalked sound post q (local t rows) (rows.0 * t.nx) (rows.1 * t.nx) f after answer

  abbrev Others : ℕ × ℕ → Type 0
  Others rows = (k p : ℕ) → ((x : ℕ) → InRows t rows x → local t rows x ≡ p → ⊥) → entry new k p ≡ entry old k p

  pub columns_walked : IsSpace t → (rows told : ℕ × ℕ) → told ≡ rows → (before : ℕ × ℕ → Ranges → ℕ → ℕ → ℤ)
      → ((i x : ℕ) → i < q → InRows t rows x → now i (local t rows x) ≡ before rows old x i)
      → ((i p : ℕ) → i < q → after i p ≡ entry new (slice_index writes i) p)
      → Walked told → Others told → InColumns sound post q before writes t rows (rows.0 * t.nx) (rows.1 * t.nx) old new answer
  columns_walked space rows told is before taken put walked others = λ f same.
      let within : (x : ℕ) → InRows t rows x → (rows.0 * t.nx ≤ x) × (x < rows.1 * t.nx) = cells_between t space rows in
      let done = subst Walked is walked f (λ i x known here. taken i x known here ∙ same x i (within x here).0 (within x here).1 known) in
      record {
        first = done.first;
        swept = λ none. record {
          written = λ x i from to known. sym (put i (local t rows x) known) ∙ done.sent none i x known from to;
          others = λ s off. subst Others is others s.0 s.1 (λ x here at. off x (within x here).0 (within x here).1 at);
        };
      }
