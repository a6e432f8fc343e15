use Rattle.std.proofs.Common.{◌≡◌, ◌<◌, ◌≤◌, ◌^◌, ◌+◌, ◌-◌, ◌+ℤ◌, ◌-ℤ◌, ℕ, unsigned_abs, ℤ, to_z, of_z, w64, true, false, eqb, length, refl, sym, ap, ◌∙◌, inl, inr, arith, rules, get_or-set_same, get_or-set_other}
use Rattle.std.proofs.lemmas.Int.{ints}
use Rattle.std.proofs.lemmas.Bool.{cases_eq, eq-eqb, ne_eqb}
use Rattle.lbm_space.specs.Sum.{sum_below, sum_from_one}
use Rattle.lbm_space.proofs.Sums.{sum_below_more}
use Rattle.lbm_cell.specs.Moments.{populations}
use Rattle.lbm_tracer.specs.Sets.{stencil_of}
use Rattle.lbm_tracer.proofs.Sets.{named_facts}
use Rattle.lbm_tracer.proofs.Numbers.{held}
use Rattle.lbm_tracer.proofs.collision.with_rest.Goals as goal

pub loop-k-preserved : goal.loop-k-preserved
loop-k-preserved c =
    let k = c.loop-k.k in let f = populations c.args.moving in
    let from_one : 1 ≤ k = c.loop-k.auto.k in
    let few = (named_facts c.args.set).few in
    let known : k < (stencil_of c.args.set).directions = omega (arith, c.q-k-end.ensures, c.loop-k-test.true) in
    let size : unsigned_abs (f k) ≤ 2 ^ 31 = c.requires.moving k from_one known in
    let old = c.loop-k.invariant in
    let gone = to_z w64 c.loop-k.gone-bits in
    let same : to_z w64 (of_z w64 (f k)) ≡ f k = held (f k) (omega (arith, size)) in
    let added : to_z w64 (of_z w64 (gone +ℤ f k)) ≡ gone +ℤ f k = held (gone +ℤ f k) (omega (arith, ints, size, old.small, few)) in
    let one_more : k + 1 - 1 ≡ k - 1 + 1 = omega arith in
    let here : k - 1 + 1 ≡ k = omega arith in
    record {
      some = omega arith;
      done = rw (one_more, same, added) (ap (λ (s : ℤ). s +ℤ f k) old.done ∙ ap (λ (j : ℕ). sum_below (k - 1) (λ i. f (i + 1)) +ℤ f j) (sym here) ∙ sym (sum_below_more (k - 1) (λ i. f (i + 1))));
      small = rw (same, added) (omega (arith, ints, size, old.small));
    }

pub returns-clause-value : goal.returns-clause-value
returns-clause-value c =
    let f = populations c.args.moving in let v = stencil_of c.args.set in
    let facts = named_facts c.args.set in let old = c.loop-k.invariant in
    let gone = to_z w64 c.loop-k.gone-bits in let total = c.args.total in
    let all : c.loop-k.k ≡ v.directions = omega (arith, c.q-k-end.ensures, c.loop-k-test.false, c.loop-k.auto.k-end, facts.some) in
    let whole : gone ≡ sum_from_one v.directions f = old.done ∙ ap (λ (n : ℕ). sum_below (n - 1) (λ i. f (i + 1))) all in
    let rest : to_z w64 (of_z w64 (to_z w64 (of_z w64 total) -ℤ gone)) ≡ total -ℤ gone =
    rw (held total (omega (arith, c.requires.total))) (held (total -ℤ gone) (omega (arith, ints, c.requires.total, old.small, facts.few, all))) in
    let within : 0 < length c.args.moving = search rules in
    λ k known. elim (cases_eq k 0) [
      | inl first ↦ (let on : eqb k 0 ≡ true = eq-eqb k 0 first in rw (on, first, get_or-set_same) (rest ∙ ap (λ (s : ℤ). total -ℤ s) whole))
      | inr ne ↦ (let off : eqb k 0 ≡ false = ne_eqb k 0 ne in rw (off, get_or-set_other) refl)
    ]
