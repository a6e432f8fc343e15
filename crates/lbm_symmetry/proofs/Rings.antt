-- A ring of n places: steps back by one, shifts and reversal.
use Rattle.std.proofs.Common.{◌≡◌, ℕ, zero, suc, ◌+◌, ◌-◌, ◌%◌, ◌<◌, ◌≤◌, Bool, true, false, ltb, ℤ, pos, negsuc, ◌-ℤ◌, neg_ℤ, unsigned_abs, refl, sym, ap, ◌∙◌, inl, inr, arith}
use Rattle.std.specs.Prelude.{if◌then◌else◌}
use Rattle.std.proofs.lemmas.Bool.{cases_lt, le-ltb}
use Rattle.std.proofs.lemmas.Nat.{mod_below}
use Rattle.std.proofs.Math.Nat.{mod-eq_of_lt, mod_self, zero-mod, add-mod_right, mod-add-mod, add-mod-mod}
use Rattle.lbm_space.specs.Torus.{modulo}
use Rattle.lbm_symmetry.specs.Motions.{signed, moved_coordinate}
use Rattle.lbm_symmetry.proofs.Axes.{size-signed}

-- a number that is y, or a round or two farther, comes to y
once_round : (n x y : ℕ) → y < n → x ≡ y + n → x % n ≡ y
once_round n x y below is = rw is (add-mod_right y n ∙ mod-eq_of_lt below)

twice_round : (n x y : ℕ) → y < n → x ≡ y + n + n → x % n ≡ y
twice_round n x y below is = rw is (add-mod_right (y + n) n ∙ once_round n (y + n) y below refl)

-- how many steps forward lead back by c
abbrev behind : ℤ → ℕ → ℕ
behind (pos k) n = n - k
behind (negsuc k) n = n + suc k

-- a step back by -1, 0 or 1
pub modulo_is : (n x : ℕ) (c : ℤ) → x < n → unsigned_abs c ≤ 1 → modulo (pos x -ℤ c) n ≡ (x + behind c n) % n
modulo_is n x (pos zero) below unit =
    let e : x + 0 ≡ x = omega arith in
    let stays : modulo (pos x -ℤ pos 0) n ≡ x = rw e (mod-eq_of_lt below) in
    stays ∙ sym (once_round n (x + (n - 0)) x below (omega arith))
modulo_is n zero (pos (suc zero)) below unit =
    let e : 0 % n ≡ 0 = zero-mod n in
    let down : modulo (pos 0 -ℤ pos 1) n ≡ n - 1 = rw e (omega arith) in
    down ∙ sym (let same : 0 + (n - 1) ≡ n - 1 = omega arith in rw same (mod-eq_of_lt (omega arith)))
modulo_is n (suc y) (pos (suc zero)) below unit =
    let some : ltb (suc y) 1 ≡ false = le-ltb (suc y) 1 (omega arith) in
    let e : suc y - 1 ≡ y = omega arith in
    let down : modulo (pos (suc y) -ℤ pos 1) n ≡ y = rw (some, e) (mod-eq_of_lt (omega arith)) in
    down ∙ sym (once_round n (suc y + (n - 1)) y (omega arith) (omega arith))
modulo_is n x (pos (suc (suc k))) below unit = absurd (omega arith)
modulo_is n x (negsuc zero) below unit = elim (cases_lt (x + 1) n) [
  | inl more ↦ (
      let up : modulo (pos x -ℤ negsuc 0) n ≡ x + 1 = mod-eq_of_lt more in
      up ∙ sym (once_round n (x + (n + 1)) (x + 1) more (omega arith)))
  | inr last ↦ (
      let end : x + 1 ≡ n = omega arith in
      let up : modulo (pos x -ℤ negsuc 0) n ≡ 0 = rw end (mod_self n) in
      up ∙ sym (twice_round n (x + (n + 1)) 0 (omega arith) (omega arith)))
]
modulo_is n x (negsuc (suc k)) below unit = absurd (omega arith)

-- a shift goes past steps
shift-step : (n k x b : ℕ) → ((k + x) % n + b) % n ≡ (k + (x + b) % n) % n
shift-step n k x b =
    let e : k + x + b ≡ k + (x + b) = omega arith in
    mod-add-mod (k + x) n b ∙ ap (λ (z : ℕ). z % n) e ∙ sym (add-mod-mod k (x + b) n)

-- reversal turns them
reversal-step : (n x : ℕ) (c : ℤ) → x < n → unsigned_abs c ≤ 1 → (n - 1 - x + behind (neg_ℤ c) n) % n ≡ n - 1 - (x + behind c n) % n
reversal-step n x (pos zero) below unit =
    let there : (x + (n - 0)) % n ≡ x = once_round n (x + (n - 0)) x below (omega arith) in
    rw there (once_round n (n - 1 - x + (n - 0)) (n - 1 - x) (omega arith) (omega arith))
reversal-step n zero (pos (suc zero)) below unit =
    let there : (0 + (n - 1)) % n ≡ n - 1 = let same : 0 + (n - 1) ≡ n - 1 = omega arith in rw same (mod-eq_of_lt (omega arith)) in
    let here : (n - 1 - 0 + (n + 1)) % n ≡ 0 = twice_round n (n - 1 - 0 + (n + 1)) 0 below (omega arith) in
    rw there (here ∙ omega arith)
reversal-step n (suc y) (pos (suc zero)) below unit =
    let there : (suc y + (n - 1)) % n ≡ y = once_round n (suc y + (n - 1)) y (omega arith) (omega arith) in
    rw there (once_round n (n - 1 - suc y + (n + 1)) (n - 1 - y) (omega arith) (omega arith))
reversal-step n x (pos (suc (suc k))) below unit = absurd (omega arith)
reversal-step n x (negsuc zero) below unit = elim (cases_lt (x + 1) n) [
  | inl more ↦ (
      let there : (x + (n + 1)) % n ≡ x + 1 = once_round n (x + (n + 1)) (x + 1) more (omega arith) in
      rw there (once_round n (n - 1 - x + (n - 1)) (n - 1 - (x + 1)) (omega arith) (omega arith)))
  | inr last ↦ (
      let there : (x + (n + 1)) % n ≡ 0 = twice_round n (x + (n + 1)) 0 (omega arith) (omega arith) in
      let none : n - 1 - x + (n - 1) ≡ n - 1 = omega arith in
      rw (there, none) (mod-eq_of_lt (omega arith) ∙ omega arith))
]
reversal-step n x (negsuc (suc k)) below unit = absurd (omega arith)

-- a coordinate counted from one end or the other
abbrev counted : ℕ → Bool → ℕ → ℕ
counted n reversed x = if reversed then n - 1 - x else x

counted-step : (n : ℕ) (r : Bool) (x : ℕ) (c : ℤ) → x < n → unsigned_abs c ≤ 1 → (counted n r x + behind (signed r c) n) % n ≡ counted n r ((x + behind c n) % n)
counted-step n true x c below unit = reversal-step n x c below unit
counted-step n false x c below unit = refl

counted_below : (n : ℕ) (r : Bool) (x : ℕ) → x < n → counted n r x < n
counted_below n true x below = omega arith
counted_below n false x below = below

counted_twice : (n : ℕ) (r : Bool) (x : ℕ) → x < n → counted n r (counted n r x) ≡ x
counted_twice n true x below = omega arith
counted_twice n false x below = refl

pub moved_coordinate_below : (n : ℕ) (r : Bool) (s : ℤ) (x : ℕ) → 0 < n → moved_coordinate n r s x < n
moved_coordinate_below n r s x some = mod_below (modulo s n + counted n r x) n some

-- to step back and then to move is to move and then to step back by what the step has become
pub moved_coordinate-step : (n : ℕ) (r : Bool) (s : ℤ) (x : ℕ) (c : ℤ) → x < n → unsigned_abs c ≤ 1 →
    moved_coordinate n r s (modulo (pos x -ℤ c) n) ≡ modulo (pos (moved_coordinate n r s x) -ℤ signed r c) n
moved_coordinate-step n r s x c below unit =
    let k : ℕ = modulo s n in
    let unit_moved : unsigned_abs (signed r c) ≤ 1 = rw (size-signed r c) unit in
    let there : moved_coordinate n r s x < n = moved_coordinate_below n r s x (omega arith) in
    sym (modulo_is n (moved_coordinate n r s x) (signed r c) there unit_moved
    ∙ shift-step n k (counted n r x) (behind (signed r c) n)
    ∙ ap (λ (z : ℕ). (k + z) % n) (counted-step n r x c below unit)
    ∙ ap (λ (z : ℕ). (k + counted n r z) % n) (sym (modulo_is n x c below unit)))

-- ---- the coordinate that is moved to y

abbrev pub former_coordinate : ℕ → Bool → ℤ → ℕ → ℕ
former_coordinate n reversed shift y = counted n reversed ((y + (n - modulo shift n % n)) % n)

pub former_coordinate_below : (n : ℕ) (r : Bool) (s : ℤ) (y : ℕ) → 0 < n → former_coordinate n r s y < n
former_coordinate_below n r s y some = counted_below n r ((y + (n - modulo s n % n)) % n) (mod_below (y + (n - modulo s n % n)) n some)

shifted_back : (n k y : ℕ) → y < n → (k + (y + (n - k % n)) % n) % n ≡ y
shifted_back n k y below =
    let within : k % n < n = mod_below k n (omega arith) in
    add-mod-mod k (y + (n - k % n)) n ∙ sym (mod-add-mod k n (y + (n - k % n))) ∙ once_round n (k % n + (y + (n - k % n))) y below (omega (arith, within))

back_shifted : (n k x : ℕ) → x < n → ((k + x) % n + (n - k % n)) % n ≡ x
back_shifted n k x below =
    let within : k % n < n = mod_below k n (omega arith) in
    let e : k + x + (n - k % n) ≡ k + (x + (n - k % n)) = omega arith in
    mod-add-mod (k + x) n (n - k % n) ∙ ap (λ (z : ℕ). z % n) e ∙ sym (mod-add-mod k n (x + (n - k % n))) ∙ once_round n (k % n + (x + (n - k % n))) x below (omega (arith, within))

pub moved-former_coordinate : (n : ℕ) (r : Bool) (s : ℤ) (y : ℕ) → y < n → moved_coordinate n r s (former_coordinate n r s y) ≡ y
moved-former_coordinate n r s y below =
    let k : ℕ = modulo s n in
    ap (λ (z : ℕ). (k + z) % n) (counted_twice n r ((y + (n - k % n)) % n) (mod_below (y + (n - k % n)) n (omega arith))) ∙ shifted_back n k y below

pub former-moved_coordinate : (n : ℕ) (r : Bool) (s : ℤ) (x : ℕ) → x < n → former_coordinate n r s (moved_coordinate n r s x) ≡ x
former-moved_coordinate n r s x below =
    ap (counted n r) (back_shifted n (modulo s n) (counted n r x) (counted_below n r x below)) ∙ counted_twice n r x below
