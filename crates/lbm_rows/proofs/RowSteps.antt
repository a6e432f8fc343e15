-- The rows of a tile, one after the other.
use Rattle.std.proofs.Common.{◌≡◌, ℕ, ◌+◌, ◌-◌, ◌*◌, ◌/◌, ◌%◌, ◌<◌, ◌≤◌, Bool, true, false, List, [], ℤ, pos, slice_index, refl, ap, ◌∙◌, sym, subst, arith, inl, inr}
use Rattle.std.specs.Prelude.{Option, Some, None, slice_index_or}
use Rattle.std.specs.Option.{is_some}
use Rattle.std.proofs.lemmas.Nat.{div-mul-add, mod-mul-add, div_below}
use Rattle.std.proofs.Math.Nat.{mul-le-mul_right}
use Rattle.std.proofs.lemmas.Bool.{cases_lt}
use Rattle.lbm_space.specs.Stencil.{Stencil, opposite}
use Rattle.lbm_cell.specs.Rows.{entry}
use Rattle.lbm_walk.specs.First.{IsFirst, end_of}
use Rattle.lbm_rows.specs.declared.ways.Ways.{Ways}
use Rattle.lbm_rows.specs.TileRows.{takes, puts, around, taken_by, sent_by, AreTakenBy, IsAlike, IsExchange, HasRows}

pub none_if : (r : Option ℕ) → is_some r ≡ false → r ≡ None
none_if None e = refl
none_if (Some k) e = absurd cc

-- the first of some cells is the first of more, where those before are in limits
pub first_after : (test : ℕ → Bool) (low from to high : ℕ) (answer : Option ℕ) → low ≤ from → to ≤ high → ((k : ℕ) → low ≤ k → k < from → test k ≡ true) → IsFirst test from to answer → is_some answer ≡ true → IsFirst test low high answer
first_after test low from to high None before after passed first some = absurd cc
first_after test low from to high (Some k) before after passed first some =
    record {
      failed = λ j e. let h = first.failed j e in let a = h.0 in let b = h.1 in (omega arith, omega arith, h.2);
      passed = λ j above below. elim (cases_lt j from) [ inl less ↦ passed j above less | inr more ↦ first.passed j more below ];
    }

module _ (w : Ways) (first width n x : ℕ) (below : x < width) where
  row_of : ((first + n) * width + x) / width - first ≡ n
  row_of = let e = div-mul-add (first + n) width x below in omega (arith, e)

  column_of : ((first + n) * width + x) % width ≡ x
  column_of = mod-mul-add (first + n) width x below

  pub taken_in_row : (kept : List (List ℤ)) (i : ℕ) → taken_by kept w first width ((first + n) * width + x) i ≡ entry kept (takes w n i) (around width (slice_index w.from i) x)
  taken_in_row kept i = λ j. entry kept (takes w (row_of j) i) (around width (slice_index w.from i) (column_of j))

  pub sent_in_row : (kept : List (List ℤ)) (i : ℕ) → sent_by kept w first width ((first + n) * width + x) i ≡ entry kept (puts w n i) (around width (slice_index w.to i) x)
  sent_in_row kept i = λ j. entry kept (puts w (row_of j) i) (around width (slice_index w.to i) (column_of j))

-- old, now      the kept rows before the first row, and before row n
module _ (v : Stencil) (w : Ways) (rows : ℕ × ℕ) (width : ℕ) (some : 1 ≤ width) (old now : List (List ℤ)) (n : ℕ) (inside : n < rows.1 - rows.0)
    (left : (i m : ℕ) → i < v.directions → n ≤ m → m < rows.1 - rows.0 → slice_index_or now (takes w m i) [] ≡ slice_index_or old (takes w m i) []) where
  abbrev cell : ℕ
  cell = (rows.0 + n) * width

  pub row_low : rows.0 * width ≤ cell
  row_low = omega arith

  pub row_high : cell + width ≤ rows.1 * width
  row_high = let m = mul-le-mul_right width (let h : rows.0 + n + 1 ≤ rows.1 = omega arith in h) in omega (arith, m)

  now_is : (x i : ℕ) → i < v.directions → x < width → entry now (takes w n i) (around width (slice_index w.from i) x) ≡ taken_by old w rows.0 width (cell + x) i
  now_is x i known below =
      ap (λ (r : List ℤ). slice_index_or r (around width (slice_index w.from i) x) (pos 0)) (left i n known (omega arith) inside) ∙ sym (taken_in_row w rows.0 width n x below old i)

  pub taken_now : (f : ℕ → ℕ → ℤ) → AreTakenBy v.directions old w rows width f → (i x : ℕ) → i < v.directions → x < width → entry now (takes w n i) (around width (slice_index w.from i) x) ≡ f (cell + x) i
  taken_now f same i x known below = let low = row_low in let high = row_high in now_is x i known below ∙ same (cell + x) i (omega arith) (omega arith) known

  pub small_now : (P : ℕ → ℤ → Type 0) → ((x i : ℕ) → rows.0 * width ≤ x → x < rows.1 * width → i < v.directions → P x (taken_by old w rows.0 width x i))
      → (i x : ℕ) → i < v.directions → x < width → P (cell + x) (entry now (takes w n i) (around width (slice_index w.from i) x))
  small_now P small i x known below = let low = row_low in let high = row_high in subst (P (cell + x)) (sym (now_is x i known below)) (small (cell + x) i (omega arith) (omega arith) known)

  -- new    the kept rows behind row n
  module _ (new : List (List ℤ)) (alike : IsAlike v w n now new) (tile : HasRows v w (rows.1 - rows.0) width old) (exchange : IsExchange v w) where
    pub left_new : (i m : ℕ) → i < v.directions → n + 1 ≤ m → m < rows.1 - rows.0 → slice_index_or new (takes w m i) [] ≡ slice_index_or old (takes w m i) []
    left_new i m known past below =
        alike.beside (takes w m i) (λ j known' same. let e = tile.apart i j m n known known' below inside same in omega arith) ∙ left i m known (omega arith) below

    still_sent : (x i : ℕ) → i < v.directions → rows.0 * width ≤ x → x < cell → sent_by new w rows.0 width x i ≡ sent_by now w rows.0 width x i
    still_sent x i known low high =
        let m : ℕ = x / width - rows.0 in let d = div_below x width (rows.0 + n) (omega arith) (omega arith) in
        let positive : 0 < n = elim (cases_lt 0 n) [ inl more ↦ more | inr none ↦ (let z : n ≡ 0 = omega arith in let e : cell ≡ rows.0 * width = ap (λ (k : ℕ). (rows.0 + k) * width) z ∙ omega arith in absurd (omega arith)) ] in
        let before : m < n = omega arith in
        ap (λ (r : List ℤ). slice_index_or r (around width (slice_index w.to i) (x % width)) (pos 0)) (alike.beside (puts w m i) (λ j known' same.
        let put : puts w m i ≡ takes w m (opposite v i) = ap (λ (k : ℕ). k + m) (exchange.puts i known) in
        let e = tile.apart (opposite v i) j m n (exchange.opposites i known) known' (omega arith) inside (sym put ∙ same) in omega arith))

    pub passed_more : (test : ℕ → Bool) (answer : Option ℕ) → ((x : ℕ) → rows.0 * width ≤ x → x < cell → test x ≡ true) → IsFirst test cell (cell + width) answer → answer ≡ None → (x : ℕ) → rows.0 * width ≤ x → x < cell + width → test x ≡ true
    passed_more test answer before first none x low high = elim (cases_lt x cell) [
      | inl less ↦ before x low less
      | inr more ↦ first.passed x more (subst (λ (a : Option ℕ). x < end_of a (cell + width)) (sym none) high)
    ]

    pub sent_more : (made : ℕ → ℕ → ℤ) → ((x i : ℕ) → rows.0 * width ≤ x → x < cell → i < v.directions → sent_by now w rows.0 width x i ≡ made x i)
        → ((i x : ℕ) → i < v.directions → x < width → entry new (puts w n i) (around width (slice_index w.to i) x) ≡ made (cell + x) i)
        → (x i : ℕ) → rows.0 * width ≤ x → x < cell + width → i < v.directions → sent_by new w rows.0 width x i ≡ made x i
    sent_more made before here x i low high known = elim (cases_lt x cell) [
      | inl less ↦ still_sent x i known low less ∙ before x i low less known
      | inr more ↦ (let y : ℕ = x - cell in let e : cell + y ≡ x = omega arith in let below : y < width = omega arith in
          subst (λ (z : ℕ). sent_by new w rows.0 width z i ≡ made z i) e (sent_in_row w rows.0 width n y below new i ∙ here i y known below))
    ]
