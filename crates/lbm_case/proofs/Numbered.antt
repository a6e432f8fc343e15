-- Numbered characters, row by row.
use Rattle.std.proofs.Common.{◌≡◌, ℕ, suc, ◌+◌, ◌<◌, ◌≤◌, eqb, ◌==◌, if◌then◌else◌, List, [], ◌∷◌, ◌++◌, map, filter, length, take, drop, get_or, refl, ap, ◌∙◌, append_assoc, append-nil, add-zero, subst, arith, inl, inr}
use Rattle.std.specs.List.{range_with_len}
use Rattle.std.specs.Str.{chars}
use Rattle.std.proofs.lemmas.Bool.{cases_Bool}
use Rattle.std.proofs.lemmas.List.{take_more, map-append, length-append, take-append-drop, length_push}
use Rattle.std.proofs.Math.Seq.{get_or-append_seam}
use Rattle.std.proofs.lemmas.Grind.{flat_map-append}
use Rattle.toml.specs.declared.value.Value.{Value}
use Rattle.toml.specs.View.{view}
use Rattle.lbm_case.specs.Views.{text_of, texts_view, drawing_view}
use Rattle.lbm_case.specs.Drawing.{equals, cells_of, moving_in}

-- the numbers of the characters that stand for a moving wall, where n is the number of the first one
abbrev pub moving_from : ℕ → List ℕ → List ℕ
moving_from n [] = []
moving_from n (c ∷ cs) = if c == equals then n ∷ moving_from (n + 1) cs else moving_from (n + 1) cs

pub same_items : (xs : List ℕ) → map (λ x. x) xs ≡ xs
same_items [] = refl
same_items (x ∷ xs) = ap (λ ys. x ∷ ys) (same_items xs)

pub moving_from-append : (n : ℕ) (xs ys : List ℕ) → moving_from n (xs ++ ys) ≡ moving_from n xs ++ moving_from (n + length xs) ys
moving_from-append n [] ys = rw add-zero refl
moving_from-append n (x ∷ xs) ys =
    let more = moving_from-append (n + 1) xs ys in
    let next : n + 1 + length xs ≡ n + suc (length xs) = omega arith in
    elim (cases_Bool (eqb x 61)) [
      | inl moves ↦ rw (moves, more, next) refl
      | inr still ↦ rw (still, more, next) refl
    ]

-- the cells that move, where some cells stand before
moving_in-after : (front cells : List ℕ) → filter (λ x. get_or (front ++ cells) x 0 == 61) (range_with_len (length front) (length cells)) ≡ moving_from (length front) cells
moving_in-after front [] = refl
moving_in-after front (c ∷ cells) =
    let here : get_or (front ++ c ∷ cells) (length front) 0 ≡ c = get_or-append_seam front c cells 0 in
    let joined : (front ++ c ∷ []) ++ cells ≡ front ++ c ∷ cells = append_assoc front (c ∷ []) cells in
    let more : filter (λ x. get_or (front ++ c ∷ cells) x 0 == 61) (range_with_len (length front + 1) (length cells)) ≡ moving_from (length front + 1) cells =
    subst (λ n. filter (λ x. get_or (front ++ c ∷ cells) x 0 == 61) (range_with_len n (length cells)) ≡ moving_from n cells) (length_push front c)
    (subst (λ (xs : List ℕ). filter (λ x. get_or xs x 0 == 61) (range_with_len (length (front ++ c ∷ [])) (length cells)) ≡ moving_from (length (front ++ c ∷ [])) cells) joined (moving_in-after (front ++ c ∷ []) cells)) in
    rw (here, more) refl

pub moving_in-from : (cells : List ℕ) → moving_in cells ≡ moving_from 0 cells
moving_in-from cells = moving_in-after [] cells

-- the cells of the rows up to one more
cells_of-append : (rows others : List Value) → cells_of (drawing_view (rows ++ others)) ≡ cells_of (drawing_view rows) ++ cells_of (drawing_view others)
cells_of-append rows others =
    rw (map-append (λ value. text_of (view value)) rows others, map-append chars (texts_view rows) (texts_view others)) (flat_map-append (λ cs. cs) (drawing_view rows) (drawing_view others))

pub cells_of-more : (rows : List Value) (i : ℕ) (v : Value) → i < length rows → v ≡ get_or rows i v
    → cells_of (drawing_view (take (i + 1) rows)) ≡ cells_of (drawing_view (take i rows)) ++ chars (text_of (view v))
cells_of-more rows i v within at = rw (take_more rows i v within, ← at) (cells_of-append (take i rows) (v ∷ []) ∙ ap (λ cs. cells_of (drawing_view (take i rows)) ++ cs) (append-nil (chars (text_of (view v)))))

-- the rows so far have no more cells than all rows
pub length-cells_of-take : (rows : List Value) (i : ℕ) → length (cells_of (drawing_view (take i rows))) ≤ length (cells_of (drawing_view rows))
length-cells_of-take rows i =
    let whole = ap length (cells_of-append (take i rows) (drop i rows)) in
    let parts = length-append (cells_of (drawing_view (take i rows))) (cells_of (drawing_view (drop i rows))) in
    let joined = ap (λ xs. length (cells_of (drawing_view xs))) (take-append-drop i rows) in
    omega arith

-- the cells of a row that move, by their numbers in the whole drawing
later : (a n : ℕ) (cs : List ℕ) → map (λ x. a + x) (moving_from n cs) ≡ moving_from (a + n) cs
later a n [] = refl
later a n (c ∷ cs) =
    let same : a + (n + 1) ≡ a + n + 1 = omega arith in
    let more : map (λ x. a + x) (moving_from (n + 1) cs) ≡ moving_from (a + n + 1) cs = later a (n + 1) cs ∙ ap (λ m. moving_from m cs) same in
    elim (cases_Bool (eqb c 61)) [
      | inl moves ↦ rw (moves, more) refl
      | inr still ↦ rw (still, more) refl
    ]

pub moving_in-later : (a : ℕ) (cs : List ℕ) → map (λ x. a + x) (moving_in cs) ≡ moving_from a cs
moving_in-later a cs = ap (map (λ x. a + x)) (moving_in-from cs) ∙ (later a 0 cs ∙ ap (λ n. moving_from n cs) (add-zero a))
