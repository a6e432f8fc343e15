-- The cells of a row, and the rows of a box one after another.
use Rattle.std.proofs.Common.{◌≡◌, ℕ, ◌+◌, ◌*◌, ◌%◌, ◌<◌, ◌≤◌, List, ℤ, slice_index, Bool, true, false, Option, Some, None, is_some, refl, sym, ap, subst, ◌∙◌, arith}
use Rattle.std.proofs.Math.Nat.{mul-le-mul_right}
use Rattle.lbm_space.specs.Stencil.{Stencil}
use Rattle.lbm_space.specs.Torus.{Torus, cells, rows}
use Rattle.lbm_walk.specs.First.{IsFirst}
use Rattle.lbm_walk.proofs.Firsts.{first_earlier}
use Rattle.lbm_model.specs.State.{population}
use Rattle.lbm_model.specs.Case.{FlowCase}
use Rattle.lbm_model.specs.Flow.{is_sound}
use Rattle.lbm_model.specs.declared.layout.Layout.{Layout}
use Rattle.lbm_model.specs.Layout.{place_of, state_in}
use Rattle.lbm_model.proofs.RowPlaces.{in_row}
use Rattle.lbm_sweep.specs.declared.cell_row.CellRow.{CellRow}
use Rattle.lbm_sweep.specs.CellRows.{cell_at, IsRow}

module _ (v : Stencil) (r : CellRow) (is : IsRow v r) where
  -- a row's cells are cells of the box
  pub cell_known : (x : ℕ) → x < r.width → cell_at r x < cells r.case.now.torus
  cell_known x below =
      subst (λ (w : ℕ). r.number * w + x < cells r.case.now.torus) (sym is.width)
      (in_row r.case.now is.valid r.number 0 is.known is.valid.set.some_direction x (subst (λ (w : ℕ). x < w) is.width below))

  -- where a population stands
  pub place_is : (x i p : ℕ) → x < r.width → i < v.directions → p ≡ (x + slice_index r.aheads i) % r.width → slice_index r.firsts i + p ≡ place_of r.case.now r.layout (cell_at r x) i
  place_is x i p below known is_p =
      let at = (is.places i known).place x (subst (λ (w : ℕ). x < w) is.width below) in
      ap (λ (q : ℕ). slice_index r.firsts i + q) (is_p ∙ ap (λ (w : ℕ). (x + slice_index r.aheads i) % w) is.width) ∙ sym at
      ∙ ap (λ (w : ℕ). place_of r.case.now r.layout (r.number * w + x) i) (sym is.width)

-- the rows before one have no more cells than the box
pub rows_known : (t : Torus) (n : ℕ) → n ≤ rows t → n * t.nx ≤ cells t
rows_known t n known = let all = mul-le-mul_right t.nx known in omega (arith, all)

-- a number alone passes or fails
pub one_passes : (test : ℕ → Bool) (b : ℕ) → test b ≡ true → IsFirst test b (b + 1) None
one_passes test b pass = record { failed = λ k e. cc; passed = λ k low high. let one : b ≡ k = omega arith in subst (λ (j : ℕ). test j ≡ true) one pass }

pub one_fails : (test : ℕ → Bool) (b : ℕ) → test b ≡ false → IsFirst test b (b + 1) (Some b)
one_fails test b fail = record {
  failed = λ k same. let one : b ≡ k = cc in (omega arith, omega arith, subst (λ (j : ℕ). test j ≡ false) one fail);
  passed = λ k low high. absurd (omega arith);
}

-- an answer that is none, and one that ends a search early
pub none_of : (o : Option ℕ) → is_some o ≡ false → o ≡ None
none_of None is = refl
none_of (Some x) is = cc

pub early : (test : ℕ → Bool) (a b c : ℕ) (o : Option ℕ) → b ≤ c → is_some o ≡ true → IsFirst test a b o → IsFirst test a c o
early test a b c None le is first = cc
early test a b c (Some x) le is first = first_earlier test a b c x le first

-- what a row answers, in terms of its case
pub row_answer : (v : Stencil) (r : CellRow) (is : IsRow v r) (case : FlowCase) (layout : Layout) (number : ℕ) (slots : List ℤ) (o : Option ℕ) → r.case.now ≡ case → r.layout ≡ layout → r.number ≡ number
    → IsFirst (λ y. is_sound r.case.now y (population (state_in r.case.now r.layout slots) y)) (cell_at r 0) (cell_at r r.width) o
    → IsFirst (λ y. is_sound case y (population (state_in case layout slots) y)) (number * case.torus.nx) ((number + 1) * case.torus.nx) o
row_answer v r is case layout number slots o case_is layout_is number_is first =
    let wide : r.width ≡ case.torus.nx = is.width ∙ ap (λ (w : FlowCase). w.torus.nx) case_is in
    let test : ℕ → Bool = λ y. is_sound case y (population (state_in case layout slots) y) in
    let low : number * case.torus.nx + 0 ≡ number * case.torus.nx = omega arith in
    let high : number * case.torus.nx + case.torus.nx ≡ (number + 1) * case.torus.nx = omega arith in
    subst (λ (w : ℕ × ℕ). IsFirst test w.0 w.1 o) (λ j. (low j, high j))
    (subst (λ (w : FlowCase × Layout × ℕ × ℕ). IsFirst (λ y. is_sound w.0 y (population (state_in w.0 w.1 slots) y)) (w.2 * w.3 + 0) (w.2 * w.3 + w.3) o)
    (λ j. (case_is j, layout_is j, number_is j, wide j)) first)
