-- The parts of a sweep, done side by side in any order, are the sweep of all cells.
use Rattle.std.proofs.Common.{◌≡◌, ◌⊎◌, ℕ, zero, suc, ◌+◌, ◌<◌, ◌≤◌, min, ℤ, Bool, List, [], ◌∷◌, length, get_or, Option, Some, None, inl, inr, refl, ap, arith, subst}
use Rattle.std.proofs.lemmas.Bool.{cases_lt}
use Rattle.lbm_arrays.specs.Least.{lesser, least}
use Rattle.lbm_walk.specs.First.{IsFirst}
use Rattle.lbm_sweep.specs.Sweep.{IsCollided}
use Rattle.lbm_walk.proofs.Firsts.{first_none, first_later, first_earlier}

-- the part in which a number lies
pub part_at : (B : ℕ → ℕ) (n x : ℕ) → B 0 ≤ x → x < B n → (s : ℕ) × (s < n) × (B s ≤ x) × (x < B (s + 1))
part_at B zero x low high = absurd (omega arith)
part_at B (suc n) x low high = elim (cases_lt x (B n)) [
  | inl l ↦ (let r = part_at B n x low l in let h = r.1 in (r.0, omega (arith, h), r.2, r.3))
  | inr g ↦ (let e : suc n ≡ n + 1 = omega arith in (n, omega arith, g, subst (λ m. x < B m) e high))
]

pub parts_rise : (B : ℕ → ℕ) (n s : ℕ) → ((k : ℕ) → k < n → B k ≤ B (k + 1)) → s < n → B (s + 1) ≤ B n
parts_rise B zero s rise l = absurd (omega arith)
parts_rise B (suc n) s rise l = elim (cases_lt s n) [
  | inl h ↦ (let one = parts_rise B n s (λ k l'. rise k (omega arith)) h in let two = rise n (omega arith) in let e : n + 1 ≡ suc n = omega arith in let f = ap B e in omega arith)
  | inr h ↦ (let e : s + 1 ≡ suc n = omega arith in let f = ap B e in omega arith)
]

pub parts_low : (B : ℕ → ℕ) (n s : ℕ) → ((k : ℕ) → k < n → B k ≤ B (k + 1)) → s ≤ n → B 0 ≤ B s
parts_low B n zero rise l = omega arith
parts_low B n (suc s) rise l = let one = parts_low B n s rise (omega arith) in let two = rise s (omega arith) in let e : s + 1 ≡ suc s = omega arith in let f = ap B e in omega arith

-- the least answer is none only where all are
pub least_None : (rs : List (Option ℕ)) → least rs ≡ None → (k : ℕ) → get_or rs k None ≡ None
least_None [] e k = refl
least_None (None ∷ rest) e zero = refl
least_None (None ∷ rest) e (suc k) = least_None rest e k
least_None (Some x ∷ rest) e k = absurd (never (least rest) e)
  where
    never : (r : Option ℕ) → lesser (Some x) r ≡ None → ⊥
    never None e = cc
    never (Some y) e = cc

earlier_least : (test : ℕ → Bool) (a b c x : ℕ) (r : Option ℕ) → b ≤ c → IsFirst test a b (Some x) → IsFirst test b c r → IsFirst test a c (lesser (Some x) r)
earlier_least test a b c x None le f g = first_earlier test a b c x le f
earlier_least test a b c x (Some y) le f g =
    let h = (f.failed x refl).1 in let h' = (g.failed y refl).0 in let e : x ≡ min x y = omega arith in
    subst (λ (z : ℕ). IsFirst test a c (Some z)) e (first_earlier test a b c x le f)

pub first_least : (test : ℕ → Bool) (rs : List (Option ℕ)) (B : ℕ → ℕ) → ((k : ℕ) → k < length rs → B k ≤ B (k + 1)) → ((k : ℕ) → k < length rs → IsFirst test (B k) (B (k + 1)) (get_or rs k None)) → IsFirst test (B 0) (B (length rs)) (least rs)
first_least test [] B rise h = first_none test (B 0)
first_least test (a ∷ rest) B rise h =
    let later : IsFirst test (B 1) (B (suc (length rest))) (least rest) =
    first_least test rest (λ k. B (suc k)) (λ k l. let e : suc k + 1 ≡ suc (k + 1) = omega arith in subst (λ m. B (suc k) ≤ B m) e (rise (suc k) (omega arith)))
    (λ k l. let e : suc k + 1 ≡ suc (k + 1) = omega arith in subst (λ m. IsFirst test (B (suc k)) (B m) (get_or rest k None)) e (h (suc k) (omega arith))) in
    let up : B 1 ≤ B (suc (length rest)) = parts_rise B (suc (length rest)) 0 rise (omega arith) in
    let here : B 0 ≤ B 1 = rise 0 (omega arith) in
    joined a later up here (h 0 (omega arith))
  where
    joined : (a : Option ℕ) → IsFirst test (B 1) (B (suc (length rest))) (least rest) → B 1 ≤ B (suc (length rest)) → B 0 ≤ B 1 → IsFirst test (B 0) (B 1) a → IsFirst test (B 0) (B (suc (length rest))) (lesser a (least rest))
    joined None later up here f = first_later test (B 0) (B 1) (B (suc (length rest))) (least rest) here f later
    joined (Some x) later up here f = earlier_least test (B 0) (B 1) (B (suc (length rest))) x (least rest) up f later

-- One part: what it says of the slots that it owns.
pub record IsPart {S : Type 0} (sound : ℕ → (ℕ → ℤ) → Bool) (post : ℕ → (ℕ → ℤ) → ℕ → ℤ) (q : ℕ) (before : ℕ → ℕ → ℤ) (writes : ℕ → ℕ → S) (touches : ℕ → S → Type 0) (owns : S → Type 0) (from to : ℕ) (old new : S → ℤ) (answer : Option ℕ) : Type 0 where
  pub first : IsFirst (λ x. sound x (before x)) from to answer
  pub written : answer ≡ None → (x i : ℕ) → from ≤ x → x < to → i < q → new (writes x i) ≡ post x (before x) i
  pub others : answer ≡ None → (s : S) → owns s → ((x : ℕ) → from ≤ x → x < to → touches x s → ⊥) → new s ≡ old s

-- Parts that own all slots that change give the whole, for any cutting.
pub parts_collide : {S : Type 0} (sound : ℕ → (ℕ → ℤ) → Bool) (post : ℕ → (ℕ → ℤ) → ℕ → ℤ) (q : ℕ) (before : ℕ → ℕ → ℤ) (writes : ℕ → ℕ → S) (touches : ℕ → S → Type 0) (owns : ℕ → S → Type 0)
    (B : ℕ → ℕ) (answers : List (Option ℕ)) (old new : S → ℤ)
    → ((k : ℕ) → k < length answers → B k ≤ B (k + 1))
    → ((k : ℕ) → k < length answers → IsPart sound post q before writes touches (owns k) (B k) (B (k + 1)) old new (get_or answers k None))
    → ((s : S) → ((k : ℕ) × (k < length answers) × owns k s) ⊎ (new s ≡ old s))
    → IsCollided sound post q before writes touches (B 0) (B (length answers)) old new (least answers)
parts_collide sound post q before writes touches owns B answers old new rise part cover = record {
  first = first_least (λ x. sound x (before x)) answers B rise (λ k l. (part k l).first);
  swept = λ e. record {
    written = λ x i low high here. let at = part_at B (length answers) x low high in (part at.0 at.1).written (least_None answers e at.0) x i at.2 at.3 here;
    others = λ s off. elim (cover s) [
      | inr same ↦ same
      | inl owner ↦ (part owner.0 owner.1).others (least_None answers e owner.0) s owner.2 (λ x low high t.
          let a = parts_low B (length answers) owner.0 rise (let l = owner.1 in omega (arith, l)) in let b = parts_rise B (length answers) owner.0 rise owner.1 in
          off x (omega (arith, low, a)) (omega (arith, high, b)) t)
    ];
  };
}
