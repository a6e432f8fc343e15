-- The kept rows as tiles take them and give them back, entry by entry.
use Rattle.std.proofs.Common.{◌≡◌, ℕ, ◌+◌, ◌-◌, ◌*◌, ◌<◌, ◌≤◌, List, [], ◌∷◌, ◌++◌, ℤ, length, set, get_or, ap, sym, ◌∙◌, arith, inl, inr}
use Rattle.std.proofs.lemmas.Bool.{cases_eq}
use Rattle.std.proofs.lemmas.List.{places, get_or-set_same, get_or-set_other}
use Rattle.lbm_space.specs.Torus.{rows}
use Rattle.lbm_model.specs.Case.{FlowCase, IsCase}
use Rattle.lbm_rows.specs.Lending.{entry_number}
use Rattle.lbm_rows.proofs.LentRows.{entry_once, entry_known}

pub in_front : (items : List (List ℤ)) (row : List ℤ) (i : ℕ) → i < length items → get_or (items ++ row ∷ []) i [] ≡ get_or items i []
in_front items row i below = grind (arith, places)

pub at_end : (items : List (List ℤ)) (row : List ℤ) (i : ℕ) → i ≡ length items → get_or (items ++ row ∷ []) i [] ≡ row
at_end items row i end = grind (arith, places)

module _ (case : FlowCase) (allowed : IsCase case) (time : ℕ) (bounds : ℕ × ℕ) (some : bounds.0 < bounds.1) (inside : bounds.1 ≤ rows case.torus) (first kept : List (List ℤ)) (j number : ℕ) (below : j < case.stencil.directions * (bounds.1 - bounds.0)) (is : number ≡ entry_number case time bounds j) where
  earlier : (i : ℕ) → i < j → entry_number case time bounds i ≡ number → ⊥
  earlier i less same = let e = entry_once case allowed time bounds some inside i j (omega arith) below (same ∙ is) in absurd (omega arith)

  -- one more is taken
  module _ (items : List (List ℤ)) (long : length items ≡ j) (left : (m : ℕ) → ((i : ℕ) → i < j → m ≡ entry_number case time bounds i → ⊥) → get_or kept m [] ≡ get_or first m []) where
    pub lent_more : (row : List ℤ) → row ≡ get_or kept number [] → ((i : ℕ) → i < j → get_or items i [] ≡ get_or first (entry_number case time bounds i) [])
        → (i : ℕ) → i < j + 1 → get_or (items ++ row ∷ []) i [] ≡ get_or first (entry_number case time bounds i) []
    lent_more row was lent i more = elim (cases_eq i j) [
      | inl same ↦ at_end items row i (same ∙ sym long) ∙ was ∙ left number (λ k less e. earlier k less (sym e)) ∙ ap (λ (m : ℕ). get_or first m []) is ∙ (λ z. get_or first (entry_number case time bounds (sym same z)) [])
      | inr ne ↦ in_front items row i (omega arith) ∙ lent i (omega arith)
    ]

  -- the others are as they were
  pub left_more : ((m : ℕ) → ((i : ℕ) → i < j → m ≡ entry_number case time bounds i → ⊥) → get_or kept m [] ≡ get_or first m [])
      → (new : List ℤ) (m : ℕ) → ((i : ℕ) → i < j + 1 → m ≡ entry_number case time bounds i → ⊥) → get_or (set kept number new) m [] ≡ get_or first m []
  left_more left new m off = get_or-set_other kept number m new [] (λ same. off j (omega arith) (same ∙ is)) ∙ left m (λ i less. off i (omega arith))

  -- one more is given back
  pub back_more : (items : List (List ℤ)) (row : List ℤ) → length kept ≡ case.stencil.directions * rows case.torus → row ≡ get_or items j [] → ((i : ℕ) → i < j → get_or kept (entry_number case time bounds i) [] ≡ get_or items i [])
      → (i : ℕ) → i < j + 1 → get_or (set kept number row) (entry_number case time bounds i) [] ≡ get_or items i []
  back_more items row count was back i more = elim (cases_eq i j) [
    | inl same ↦ (let here = entry_known case allowed time bounds some inside j below in
        (λ z. get_or (set kept number row) (entry_number case time bounds (same z)) []) ∙ ap (λ (m : ℕ). get_or (set kept number row) m []) (sym is) ∙ get_or-set_same kept number row [] (omega (arith, here, is, count))
        ∙ was ∙ ap (λ (m : ℕ). get_or items m []) (sym same))
    | inr ne ↦ get_or-set_other kept number (entry_number case time bounds i) row [] (earlier i (omega arith)) ∙ back i (omega arith)
  ]
