-- A kept row is a ring.
use Rattle.std.proofs.Common.{◌≡◌, ℕ, zero, suc, ◌+◌, ◌-◌, ◌*◌, ◌%◌, ◌<◌, ◌≤◌, ℤ, pos, negsuc, ◌+ℤ◌, ◌-ℤ◌, neg_ℤ, unsigned_abs, ltb, false, List, length, set, get_or, refl, ap, sym, ◌∙◌, inl, inr, arith}
use Rattle.std.proofs.Math.Nat.{mod-eq_of_lt, mod_self, zero-mod}
use Rattle.std.proofs.lemmas.Nat.{mod-mul-add}
use Rattle.std.proofs.lemmas.Bool.{cases_lt, cases_eq, le-ltb}
use Rattle.std.proofs.lemmas.List.{get_or-set_same, get_or-set_other, length-set}
use Rattle.lbm_space.specs.Torus.{modulo}
use Rattle.lbm_rows.specs.TileRows.{around, with_pads, without_pads}

-- once round
round : (n a : ℕ) → a < n → (a + n) % n ≡ a
round n a below = let e : a + n ≡ 1 * n + a = omega arith in ap (λ (m : ℕ). m % n) e ∙ mod-mul-add 1 n a below

-- the slots where they do not meet the ends
pub around_in : (width start x : ℕ) → 0 < start + x → start + x ≤ width → around width start x ≡ start + x
around_in width start x low high =
    let y : ℕ = start + x - 1 in let e : x + start + (width - 1) ≡ y + width = omega arith in
    ap (λ (m : ℕ). 1 + m % width) e ∙ ap (λ (m : ℕ). 1 + m) (round width y (omega arith)) ∙ omega arith

pub around_low : (width : ℕ) → 0 < width → around width 0 0 ≡ width
around_low width some = let e : 0 + 0 + (width - 1) ≡ width - 1 = omega arith in ap (λ (m : ℕ). 1 + m % width) e ∙ ap (λ (m : ℕ). 1 + m) (mod-eq_of_lt (omega arith)) ∙ omega arith

pub around_high : (width start x : ℕ) → start + x ≡ width + 1 → x < width → around width start x ≡ 1
around_high width start x end below =
    let e : x + start + (width - 1) ≡ width + width = omega arith in
    ap (λ (m : ℕ). 1 + m % width) e ∙ ap (λ (m : ℕ). 1 + m) (let f : width + width ≡ 2 * width + 0 = omega arith in ap (λ (m : ℕ). m % width) f ∙ mod-mul-add 2 width 0 (omega arith))

pub around_none : (width start x : ℕ) → start + x ≡ 0 → x < width → around width start x ≡ width
around_none width start x none below = let a : start ≡ 0 = omega arith in let b : x ≡ 0 = omega arith in (λ j. around width (a j) (b j)) ∙ around_low width (omega arith)

-- one step up and one step down on a ring
up : (n a : ℕ) → a < n → 1 + (a + 1) % n ≡ around n 2 a
up n a below = elim (cases_lt (a + 1) n) [
  | inl more ↦ ap (λ (m : ℕ). 1 + m) (mod-eq_of_lt more) ∙ (let e : 1 + (a + 1) ≡ 2 + a = omega arith in e) ∙ sym (around_in n 2 a (omega arith) (omega arith))
  | inr last ↦ (let e : a + 1 ≡ n = omega arith in ap (λ (m : ℕ). 1 + m % n) e ∙ ap (λ (m : ℕ). 1 + m) (mod_self n) ∙ sym (around_high n 2 a (omega arith) below))
]

-- a cell's slot, and that of the cell to which a part of a velocity leads
pub step_around : (n a : ℕ) (c : ℤ) → a < n → unsigned_abs c ≤ 1 → 1 + modulo (pos a -ℤ neg_ℤ c) n ≡ around n (unsigned_abs (pos 1 +ℤ c)) a
step_around n a (pos zero) below unit =
    let e : a + 0 ≡ a = omega arith in
    ap (λ (m : ℕ). 1 + m % n) e ∙ ap (λ (m : ℕ). 1 + m) (mod-eq_of_lt below) ∙ sym (around_in n 1 a (omega arith) (omega arith))
step_around n a (pos (suc zero)) below unit = up n a below
step_around n a (pos (suc (suc k))) below unit = absurd (omega arith)
step_around n zero (negsuc zero) below unit = ap (λ (m : ℕ). 1 + m) (let e : 0 % n ≡ 0 = zero-mod n in rw e (omega arith)) ∙ (let e : 1 + (n - 1) ≡ n = omega arith in e) ∙ sym (around_low n below)
step_around n (suc b) (negsuc zero) below unit =
    let some : ltb (suc b) 1 ≡ false = le-ltb (suc b) 1 (omega arith) in let e : suc b - 1 ≡ b = omega arith in
    ap (λ (m : ℕ). 1 + m) (rw (some, e) (mod-eq_of_lt (omega arith))) ∙ (let f : 1 + b ≡ 0 + suc b = omega arith in f) ∙ sym (around_in n 0 (suc b) (omega arith) (omega arith))
step_around n a (negsuc (suc k)) below unit = absurd (omega arith)

pub own_around : (n a : ℕ) → a < n → 1 + a ≡ around n 1 a
own_around n a below = sym (around_in n 1 a (omega arith) (omega arith))

-- a row whose pads are set
module _ (width : ℕ) (row : List ℤ) (some : 1 ≤ width) (long : length row ≡ width + 2) where
  abbrev low : List ℤ
  low = set row 0 (get_or row width (pos 0))

  long-low : length low ≡ width + 2
  long-low = length-set row 0 (get_or row width (pos 0)) ∙ long

  pub length-with_pads : length (with_pads width row) ≡ length row
  length-with_pads = length-set low (width + 1) (get_or row 1 (pos 0)) ∙ length-set row 0 (get_or row width (pos 0))

  padded_low : get_or (with_pads width row) 0 (pos 0) ≡ get_or row width (pos 0)
  padded_low = get_or-set_other low (width + 1) 0 (get_or row 1 (pos 0)) (pos 0) (λ e. omega arith) ∙ get_or-set_same row 0 (get_or row width (pos 0)) (pos 0) (omega arith)

  padded_high : get_or (with_pads width row) (width + 1) (pos 0) ≡ get_or row 1 (pos 0)
  padded_high = let l = long-low in get_or-set_same low (width + 1) (get_or row 1 (pos 0)) (pos 0) (omega arith)

  padded_in : (k : ℕ) → 0 < k → k ≤ width → get_or (with_pads width row) k (pos 0) ≡ get_or row k (pos 0)
  padded_in k above below = get_or-set_other low (width + 1) k (get_or row 1 (pos 0)) (pos 0) (λ e. omega arith) ∙ get_or-set_other row 0 k (get_or row width (pos 0)) (pos 0) (λ e. omega arith)

  pub loaded_at : (start x : ℕ) → start ≤ 2 → x < width → get_or (with_pads width row) (start + x) (pos 0) ≡ get_or row (around width start x) (pos 0)
  loaded_at zero zero few below = padded_low ∙ ap (λ (k : ℕ). get_or row k (pos 0)) (sym (around_low width below))
  loaded_at start x few below = elim (cases_lt (start + x) (width + 1)) [
    | inr past ↦ (let e : start + x ≡ width + 1 = omega arith in ap (λ (k : ℕ). get_or (with_pads width row) k (pos 0)) e ∙ padded_high ∙ ap (λ (k : ℕ). get_or row k (pos 0)) (sym (around_high width start x e below)))
    | inl inside ↦ elim (cases_eq (start + x) 0) [
      | inl none ↦ (let a : start ≡ 0 = omega arith in let b : x ≡ 0 = omega arith in
          (λ j. get_or (with_pads width row) (a j + b j) (pos 0)) ∙ padded_low ∙ ap (λ (k : ℕ). get_or row k (pos 0)) (sym (around_low width some)) ∙ (λ j. get_or row (around width (sym a j) (sym b j)) (pos 0)))
      | inr more ↦ (let h : 0 < start + x = omega arith in padded_in (start + x) h (omega arith) ∙ ap (λ (k : ℕ). get_or row k (pos 0)) (sym (around_in width start x h (omega arith))))
    ]
  ]

  pub length-without_pads : (start : ℕ) → length (without_pads width start row) ≡ length row
  length-without_pads zero = length-set row width (get_or row 0 (pos 0))
  length-without_pads (suc zero) = refl
  length-without_pads (suc (suc k)) = length-set row 1 (get_or row (width + 1) (pos 0))

  pub stored_at : (start x : ℕ) → start ≤ 2 → x < width → get_or (without_pads width start row) (around width start x) (pos 0) ≡ get_or row (start + x) (pos 0)
  stored_at zero zero few below = ap (λ (k : ℕ). get_or (without_pads width 0 row) k (pos 0)) (around_low width below) ∙ get_or-set_same row width (get_or row 0 (pos 0)) (pos 0) (omega arith)
  stored_at zero (suc y) few below =
      let e = around_in width 0 (suc y) (omega arith) (omega arith) in
      ap (λ (k : ℕ). get_or (without_pads width 0 row) k (pos 0)) e ∙ get_or-set_other row width (0 + suc y) (get_or row 0 (pos 0)) (pos 0) (λ same. omega arith)
  stored_at (suc zero) x few below = ap (λ (k : ℕ). get_or row k (pos 0)) (around_in width 1 x (omega arith) (omega arith))
  stored_at (suc (suc zero)) x few below = elim (cases_lt (x + 1) width) [
    | inl more ↦ ap (λ (k : ℕ). get_or (without_pads width 2 row) k (pos 0)) (around_in width 2 x (omega arith) (omega arith)) ∙ get_or-set_other row 1 (2 + x) (get_or row (width + 1) (pos 0)) (pos 0) (λ same. omega arith)
    | inr last ↦ (let e : 2 + x ≡ width + 1 = omega arith in ap (λ (k : ℕ). get_or (without_pads width 2 row) k (pos 0)) (around_high width 2 x e below) ∙ get_or-set_same row 1 (get_or row (width + 1) (pos 0)) (pos 0) (omega arith) ∙ ap (λ (k : ℕ). get_or row k (pos 0)) (sym e))
  ]
  stored_at (suc (suc (suc k))) x few below = absurd (omega arith)
