-- The lines and the words of a text, one after another.
use Rattle.std.proofs.Common.{◌≡◌, ℕ, suc, ◌+◌, ◌<◌, ◌≤◌, List, [], ◌∷◌, length, take, drop, get_or, Bool, true, false, not, refl, sym, ap, ◌∙◌, inl, inr, arith, Some, None, length-drop, drop-cons, add-one, ltb}
use Rattle.std.specs.Prelude.{filter, nat_lt}
use Rattle.std.specs.List.{slice_split, position_or_len}
use Rattle.std.proofs.lemmas.Bool.{cases_Bool, lt-ltb, ltb-true, ltb-false, not-true, cond-true, cond-false}
use Rattle.std.proofs.lemmas.List.{take_all, drop_all, length-take-le}
use Rattle.std.proofs.lemmas.List.Splits.{slice_split-cons_yes, slice_split_none, slice_split_first}
use Rattle.std.proofs.lemmas.List.Sums.{fails_before_first, passes_at_first}
use Rattle.lbm_voxel.specs.Text.{is_line_feed, without_return, first_line, is_blank, words}

-- ---- lines

not_below : (a b : ℕ) → b ≤ a → ltb a b ≡ false
not_below a b past = elim (cases_Bool (ltb a b)) [
  | inl less ↦ (let below : a < b = ltb-true _ _ less in absurd (omega arith))
  | inr other ↦ other
]

pub first_line-none : (text : List ℕ) (n : ℕ) → n ≡ position_or_len is_line_feed text → length text ≤ n → first_line text ≡ None
unfolding first_line
first_line-none text n first past = rw (cond-false (ltb (position_or_len is_line_feed text) (length text)) (Some (position_or_len is_line_feed text)) None (not_below (position_or_len is_line_feed text) (length text) (omega arith))) refl

pub first_line-some : (text : List ℕ) (n : ℕ) → n ≡ position_or_len is_line_feed text → n < length text
    → first_line text ≡ Some (without_return (take n text), drop (n + 1) text)
unfolding first_line
first_line-some text n first within = rw (first, cond-true (ltb (position_or_len is_line_feed text) (length text)) (Some (position_or_len is_line_feed text)) None (lt-ltb (position_or_len is_line_feed text) (length text) (omega arith))) refl

-- ---- words

-- the runs between the bytes that pass
abbrev runs : (ℕ → Bool) → List ℕ → List (List ℕ)
runs p text = filter (λ run. nat_lt 0 (length run)) (slice_split p text)

runs-pass : (p : ℕ → Bool) (c : ℕ) (cs : List ℕ) → p c ≡ true → runs p (c ∷ cs) ≡ runs p cs
runs-pass p c cs passes = rw (slice_split-cons_yes p c cs passes) refl

-- what passes at the front is in no run
runs-skip : (p : ℕ → Bool) (text : List ℕ) → runs p (drop (position_or_len (λ b. not (p b)) text) text) ≡ runs p text
runs-skip p [] = refl
runs-skip p (c ∷ cs) = elim (cases_Bool (p c)) [
  | inl passes ↦ (let more : 1 + position_or_len (λ b. not (p b)) cs ≡ suc (position_or_len (λ b. not (p b)) cs) = omega arith in rw (passes, more) (runs-skip p cs))
  | inr fails ↦ (let none : position_or_len (λ b. not (p b)) (c ∷ cs) ≡ 0 = rw fails refl in ap (λ (n : ℕ). runs p (drop n (c ∷ cs))) none)
]

-- what stands before the first byte that passes is the first run
runs-first : (p : ℕ → Bool) (text : List ℕ) (d n : ℕ) → n ≡ position_or_len p text → 0 < n → n < length text
    → runs p text ≡ take n text ∷ runs p (drop n text)
runs-first p text d n first some inside =
    let at : position_or_len p text < length text = omega arith in
    let passes : p (get_or text n d) ≡ true = rw first (passes_at_first p text d at) in
    let rest : runs p (drop n text) ≡ runs p (drop (n + 1) text) = rw (drop-cons text n d inside, add-one n) (runs-pass p (get_or text n d) (drop (suc n) text) passes) in
    let long : nat_lt 0 (length (take n text)) ≡ true = rw (length-take-le n text (omega arith)) (lt-ltb _ _ some) in
    let split : slice_split p text ≡ take n text ∷ slice_split p (drop (n + 1) text) = rw first (slice_split_first p text d at) in
    ap (filter (λ run. nat_lt 0 (length run))) split
    ∙ (cond-true (nat_lt 0 (length (take n text))) (take n text ∷ runs p (drop (n + 1) text)) (runs p (drop (n + 1) text)) long
    ∙ ap (λ (r : List (List ℕ)). take n text ∷ r) (sym rest))

-- where no byte passes, the text is the run
runs-whole : (p : ℕ → Bool) (text : List ℕ) (n : ℕ) → n ≡ position_or_len p text → 0 < length text → length text ≤ n
    → runs p text ≡ take n text ∷ runs p (drop n text)
runs-whole p text n first some whole =
    let none = slice_split_none p text (λ k d within. fails_before_first p text k d (omega arith)) in
    rw (none, take_all n text whole, drop_all n text whole, lt-ltb 0 (length text) some) refl

-- a byte that does not pass is in the first run
some-run : (p : ℕ → Bool) (x : ℕ) (xs : List ℕ) → p x ≡ false → 0 < position_or_len p (x ∷ xs)
some-run p x xs fails = rw fails (omega arith)

-- after what passes at the front a run is left
runs-split : (p : ℕ → Bool) (text rest : List ℕ) (m : ℕ) → rest ≡ drop (position_or_len (λ b. not (p b)) text) text → 0 < length rest → m ≡ position_or_len p rest
    → runs p text ≡ take m rest ∷ runs p (drop m rest)
runs-split p text rest m left some long =
    let start : ℕ = position_or_len (λ b. not (p b)) text in
    let inside : start < length text = omega (arith, length-drop start text, ap length left) in
    let fails : p (get_or text start 0) ≡ false = not-true _ (passes_at_first (λ b. not (p b)) text 0 inside) in
    let front : rest ≡ get_or text start 0 ∷ drop (suc start) text = left ∙ drop-cons text start 0 inside in
    let some_m : 0 < m = rw (long, front) (some-run p (get_or text start 0) (drop (suc start) text) fails) in
    let whole : runs p text ≡ runs p rest = sym (runs-skip p text) ∙ ap (runs p) (sym left) in
    whole ∙ elim (cases_Bool (ltb m (length rest))) [
      | inl less ↦ runs-first p rest 0 m long some_m (ltb-true _ _ less)
      | inr past ↦ runs-whole p rest m long some (ltb-false _ _ past)
    ]

-- a byte that is in a word
abbrev pub is_other : ℕ → Bool
is_other byte = not (is_blank byte)

-- after the blank bytes nothing is left
pub words-none : (text rest : List ℕ) → rest ≡ drop (position_or_len is_other text) text → length rest ≡ 0 → words text ≡ []
unfolding words
words-none text [] left none = sym (runs-skip is_blank text) ∙ ap (runs is_blank) (sym left)
words-none text (x ∷ xs) left none = absurd (omega arith)

-- after the blank bytes a word is left
pub words-first : (text rest : List ℕ) (m : ℕ) → rest ≡ drop (position_or_len is_other text) text → 0 < length rest → m ≡ position_or_len is_blank rest
    → words text ≡ take m rest ∷ words (drop m rest)
unfolding words
words-first text rest m left some long = runs-split is_blank text rest m left some long
