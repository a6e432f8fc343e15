use Rattle.std.proofs.Common.{◌≡◌, ◌⊎◌, ℕ, ◌+◌, ◌-◌, ◌*◌, ◌<◌, ◌≤◌, inl, inr, slice_index, ap, ◌∙◌, subst, arith}
use Rattle.std.proofs.lemmas.Bool.{cases_lt}
use Rattle.lbm_space.specs.Torus.{padded}
use Rattle.lbm_space.specs.Cuttings.{first_row, end_row}
use Rattle.lbm_arrays.specs.Arrays.{held}
use Rattle.lbm_arrays.specs.Pads.{place_slot}
use Rattle.lbm_arrays.proofs.Slots.{up_to}
use Rattle.lbm_grid.specs.Strips.{strip_of, first_of, past_of, room_at, kept_at, IsSaved}
use Rattle.lbm_grid.proofs.Rooms.{room_inside}
use Rattle.lbm_grid.proofs.Saving.{strip_size, saved_off}
use Rattle.lbm_grid.proofs.strips.save_slab.Goals as goal

pub copy_run-requires-clause-to : goal.copy_run-requires-clause-to
copy_run-requires-clause-to g c =
    let t = c.args.space.now in let v = g.V.VelocitySet.stencil in let bounds = c.args.cut.now in let j = c.args.j in let k = c.loop-k.k in let rises = c.args.rises in
    let known : k < v.directions = omega (arith, g.met.V.VelocitySet.constants.0, c.Q-k-end.ensures, c.loop-k-test.true) in
    let a = c.slab-rows.ensures.first in let b = c.slab-rows.ensures.end in
    let first : c.strip-first.result.0 ≡ first_of (strip_of t v rises k (first_row bounds j) (end_row bounds j)) = c.strip-first.ensures.first ∙ (λ i. first_of (strip_of t v rises k (a i) (b i))) in
    let past : c.strip-first.result.1 ≡ past_of (strip_of t v rises k (first_row bounds j) (end_row bounds j)) = c.strip-first.ensures.past ∙ (λ i. past_of (strip_of t v rises k (a i) (b i))) in
    let few = strip_size t c.padded.ensures.valid v g.met.V.VelocitySet.laws c.requires.from.dimension rises bounds c.slabs-slabs.ensures.cutting c.requires.cutting j k c.strip-first.result.0 c.strip-first.result.1 c.requires.slab known first past in
    let room = room_inside t v bounds c.args.rooms.now.begins.now c.args.rooms.now.width _ c.requires.rooms j c.requires.slab in
    let at = ap (slice_index c.args.rooms.now.begins.now) a in let next = up_to k v.directions c.args.rooms.now.width known in let whole = c.requires.rooms.whole in let long = c.loop-k.invariant.long in
    omega (arith, few, room, at, next, whole, long)

pub copy_run-requires-clause-from : goal.copy_run-requires-clause-from
copy_run-requires-clause-from g c =
    let t = c.args.space.now in let v = g.V.VelocitySet.stencil in let k = c.loop-k.k in let from = c.args.from.now in
    let known : k < v.directions = omega (arith, g.met.V.VelocitySet.constants.0, c.Q-k-end.ensures, c.loop-k-test.true) in
    let size = c.padded.ensures.count in let same : k * (from.margin + c.padded.result) ≡ k * (from.margin + padded t) = ap (λ n. k * (from.margin + n)) size in
    let next = up_to k v.directions (from.margin + padded t) known in let inside = c.strip-first.ensures.inside in let order = c.strip-first.ensures.order in let room = c.requires.from.room in let whole = c.requires.from.whole in
    omega (arith, same, next, inside, order, room, whole)

pub loop-k-preserved : goal.loop-k-preserved
loop-k-preserved g c =
    let t = c.args.space.now in let v = g.V.VelocitySet.stencil in let bounds = c.args.cut.now in let begins = c.args.rooms.now.begins.now in let width = c.args.rooms.now.width in let from = c.args.from.now in let slots = from.slots.now in
    let j = c.args.j in let k = c.loop-k.k in let rises = c.args.rises in let old = c.loop-k.kept in let new = c.copy_run.new.to in let inv = c.loop-k.invariant in
    let known : k < v.directions = omega (arith, g.met.V.VelocitySet.constants.0, c.Q-k-end.ensures, c.loop-k-test.true) in
    let a = c.slab-rows.ensures.first in let b = c.slab-rows.ensures.end in
    let first : c.strip-first.result.0 ≡ first_of (strip_of t v rises k (first_row bounds j) (end_row bounds j)) = c.strip-first.ensures.first ∙ (λ i. first_of (strip_of t v rises k (a i) (b i))) in
    let past : c.strip-first.result.1 ≡ past_of (strip_of t v rises k (first_row bounds j) (end_row bounds j)) = c.strip-first.ensures.past ∙ (λ i. past_of (strip_of t v rises k (a i) (b i))) in
    let few = strip_size t c.padded.ensures.valid v g.met.V.VelocitySet.laws c.requires.from.dimension rises bounds c.slabs-slabs.ensures.cutting c.requires.cutting j k c.strip-first.result.0 c.strip-first.result.1 c.requires.slab known first past in
    let at : k * width + slice_index begins c.slab-rows.result.0 ≡ room_at begins width k (first_row bounds j) = ap (λ r. k * width + slice_index begins r) a in
    let others : (s : ℕ) → (s < room_at begins width k (first_row bounds j)) ⊎ (room_at begins width k (first_row bounds j) + (c.strip-first.result.1 - c.strip-first.result.0) ≤ s) → held new s ≡ held old s =
    subst (λ (n : ℕ). (s : ℕ) → (s < n) ⊎ (n + (c.strip-first.result.1 - c.strip-first.result.0) ≤ s) → held new s ≡ held old s) at c.copy_run.ensures.others in
    let off = saved_off t c.padded.ensures.valid v g.met.V.VelocitySet.laws c.requires.from.dimension rises bounds c.slabs-slabs.ensures.cutting c.requires.cutting begins width _ c.requires.rooms from.margin from.base slots j k (c.strip-first.result.1 - c.strip-first.result.0) old new c.requires.slab few others in
    let size = ap (λ n. k * (from.margin + n)) c.padded.ensures.count in
    record {
      long = c.copy_run.ensures.size ∙ inv.long;
      saved = λ m p below. elim (cases_lt m k) [
        | inl front ↦ off j m p c.requires.slab (omega (arith, front, known)) (inr (λ e. omega (arith, e, front))) (inv.saved m p front)
        | inr last ↦ (
            let one : k ≡ m = omega (arith, below, last) in
            subst (λ (n : ℕ). IsSaved t v rises bounds begins width from.margin from.base slots new j n p) one (λ low high.
            let here : kept_at t v rises begins width k (first_row bounds j) (end_row bounds j) p ≡ k * width + slice_index begins c.slab-rows.result.0 + (p - c.strip-first.result.0) = omega (arith, at, first) in
            let there : k * (from.margin + c.padded.result) + (from.base + c.strip-first.result.0) + (p - c.strip-first.result.0) ≡ place_slot t from.margin k from.base p = omega (arith, size, first, low) in
            ap (held new) here ∙ c.copy_run.ensures.copied (p - c.strip-first.result.0) (omega (arith, first, past, low, high)) ∙ ap (held slots) there))
      ];
      others = λ i m p slab other known' was. off i m p slab known' (inl other) (inv.others i m p slab other known' was);
    }
