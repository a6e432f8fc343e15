-- The motions by name are motions.
use Rattle.std.proofs.Common.{◌≡◌, ℕ, ◌<◌, ◌≤◌, true, false, eqb, cond, refl, sym, ap, ◌∙◌, inl, inr, arith}
use Rattle.std.proofs.lemmas.Bool.{cases_eq, eq-eqb, ne_eqb}
use Rattle.lbm_symmetry.specs.Motions.{IsMotion, translation, mirror, exchange, quarter_turn}
use Rattle.lbm_symmetry.specs.Laws.{TranslationsAreMotions, MirrorsAreMotions, ExchangesAreMotions, TurnsAreMotions}

pub translations : TranslationsAreMotions
translations dimension d = record { known = λ a known. known; distinct = λ a b _ _ same. same; flat = λ a _ _. refl }

pub mirrors : MirrorsAreMotions
mirrors dimension a = record { known = λ b known. known; distinct = λ b c _ _ same. same; flat = λ b _ _. refl }

-- an exchange of a and b
abbrev exchanged : ℕ → ℕ → ℕ → ℕ
exchanged a b c = cond (eqb c a) b (cond (eqb c b) a c)

exchanged-known : (a b c : ℕ) → a < 3 → b < 3 → c < 3 → exchanged a b c < 3
exchanged-known a b c known_a known_b known_c = elim (cases_eq c a) [
  | inl first ↦ (let on : eqb c a ≡ true = eq-eqb c a first in rw on known_b)
  | inr other ↦ (
      let off : eqb c a ≡ false = ne_eqb c a other in
      elim (cases_eq c b) [
        | inl second ↦ (let on : eqb c b ≡ true = eq-eqb c b second in rw (off, on) known_a)
        | inr last ↦ (let out : eqb c b ≡ false = ne_eqb c b last in rw (off, out) known_c)
      ])
]

-- done twice it is undone
exchanged_twice : (a b c : ℕ) → exchanged a b (exchanged a b c) ≡ c
exchanged_twice a b c = elim (cases_eq c a) [
  | inl first ↦ (
      let on : eqb c a ≡ true = eq-eqb c a first in
      elim (cases_eq b a) [
        | inl same ↦ (let both : eqb b a ≡ true = eq-eqb b a same in rw (on, both) (same ∙ sym first))
        | inr other ↦ (
            let off : eqb b a ≡ false = ne_eqb b a other in
            let own : eqb b b ≡ true = eq-eqb b b refl in
            rw (on, off, own) (sym first))
      ])
  | inr other ↦ (
      let off : eqb c a ≡ false = ne_eqb c a other in
      elim (cases_eq c b) [
        | inl second ↦ (
            let on : eqb c b ≡ true = eq-eqb c b second in
            let own : eqb a a ≡ true = eq-eqb a a refl in
            rw (off, on, own) (sym second))
        | inr last ↦ (let out : eqb c b ≡ false = ne_eqb c b last in rw (off, out, off, out) refl)
      ])
]

exchanged-past : (a b c d : ℕ) → a < d → b < d → d ≤ c → exchanged a b c ≡ c
exchanged-past a b c d known_a known_b past =
    let off : eqb c a ≡ false = ne_eqb c a (λ same. omega arith) in
    let out : eqb c b ≡ false = ne_eqb c b (λ same. omega arith) in
    rw (off, out) refl

exchanged-distinct : (a b c d : ℕ) → exchanged a b c ≡ exchanged a b d → c ≡ d
exchanged-distinct a b c d same = sym (exchanged_twice a b c) ∙ ap (exchanged a b) same ∙ exchanged_twice a b d

pub exchanges : ExchangesAreMotions
exchanges dimension a b few known_a known_b = record {
  known = λ c known. exchanged-known a b c (omega arith) (omega arith) known;
  distinct = λ c d _ _ same. exchanged-distinct a b c d same;
  flat = λ c _ past. exchanged-past a b c dimension known_a known_b past;
}

pub turns : TurnsAreMotions
turns dimension a b few known_a known_b = record {
  known = λ c known. exchanged-known a b c (omega arith) (omega arith) known;
  distinct = λ c d _ _ same. exchanged-distinct a b c d same;
  flat = λ c _ past. exchanged-past a b c dimension known_a known_b past;
}
