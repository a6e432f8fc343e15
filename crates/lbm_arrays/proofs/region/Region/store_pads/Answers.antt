use Rattle.std.proofs.Common.{◌≡◌, ℕ, ◌+◌, ◌-◌, ◌*◌, ◌≤◌, length, drop, sym, ap, subst, ◌∙◌, arith, rules}
use borrow.Rule.Slice.PartMut.{put_mid}
use Rattle.std.proofs.lemmas.List.{take_at}
use Rattle.std.proofs.Math.Nat.{mul-le-mul_right}
use Rattle.lbm_space.specs.Torus.{IsSpace}
use Rattle.lbm_space.specs.Padded.{offset}
use Rattle.lbm_arrays.specs.Arrays.{Arrays, array_size}
use Rattle.lbm_arrays.specs.Pads.{place_slot, IsOnce, IsStored}
use Rattle.lbm_arrays.proofs.Padding.{reached_once}
use Rattle.lbm_arrays.proofs.CopiedLines.{length-part, length-put_mid, stored_whole}
use Rattle.lbm_arrays.proofs.region.Region.store_pads.Goals as goal

pub returns-clause-once : goal.returns-clause-once
returns-clause-once g c =
    let r = c.args.self.now in let space : IsSpace r.space = subst (λ (b : Arrays). IsSpace b.space) c.self.view_is c.self.invariant.0.space in
    reached_once r.space space g.V.VelocitySet.stencil g.met.V.VelocitySet.laws c.requires.dimension c.args.dir c.requires.direction

pub store_places-requires-clause-once : goal.store_places-requires-clause-once
store_places-requires-clause-once g c =
    let r = c.args.self.now in let view = c.self.view_is in let space : IsSpace r.space = subst (λ (b : Arrays). IsSpace b.space) view c.self.invariant.0.space in
    subst (λ (A : Type 0). A) (λ i. IsOnce (sym view i).space (offset (sym view i).space (sym c.c-c.ensures i)))
    (reached_once r.space space g.V.VelocitySet.stencil g.met.V.VelocitySet.laws c.requires.dimension c.args.dir c.requires.direction)

pub returns-clause-stored : goal.returns-clause-stored
returns-clause-stored g c =
    let r = c.self.inside in let view = c.self.view_is in let dir = c.args.dir in let base = c.args.base in
    let count = c.padded-places.ensures.count in let region = c.self.invariant.0 in
    let places : ℕ = c.padded-places.result in let a : ℕ = dir * (r.margin + places) + base in let n : ℕ = a + places - a in
    let xs = c.deref_mut.result.now in let ys = c.store_places.new.places in
    let all : n ≡ places = omega arith in
    let size : r.margin + places ≡ array_size r.space r.margin = ap (λ m. r.margin + m) count in
    let known = c.requires.dir in let some : r.count ≡ c.args.self.now.count = ap (λ (b : Arrays). b.count) view in
    let up : (dir + 1) * array_size r.space r.margin ≤ r.count * array_size r.space r.margin = mul-le-mul_right (array_size r.space r.margin) (omega (arith, known, some)) in
    let room = c.requires.base in let margin : r.margin ≡ c.args.self.now.margin = ap (λ (b : Arrays). b.margin) view in
    let long : length xs ≡ r.count * array_size r.space r.margin = ap length c.deref_mut.ensures.value ∙ region.whole in
    let here : a ≡ place_slot r.space r.margin dir base 0 = ap (λ m. dir * m + base) size ∙ omega arith in
    let inside : a + n ≤ length xs = omega (arith, all, size, up, room, margin, long, here, count) in
    let whole : length ys ≡ n = c.store_places.ensures.length ∙ length-part a n xs inside in
    let made : IsStored r.space r.margin dir base (offset r.space c.c-c.result) xs (put_mid a n xs ys) = stored_whole a n xs ys inside whole r.space region.space r.margin dir base here (all ∙ count) (offset r.space c.c-c.result) c.store_places.ensures.stored in
    let kept : length (put_mid a n xs ys) ≡ r.slots.len = length-put_mid a n xs ys inside whole ∙ search rules in
    let new = sym (take_at (put_mid a n xs ys) (drop (length (put_mid a n xs ys)) r.slots.items) r.slots.len kept) in
    let old : xs ≡ c.args.self.now.slots = c.deref_mut.ensures.value ∙ ap (λ (b : Arrays). b.slots) view in
    subst (λ (A : Type 0). A) (λ i. IsStored (view i).space (view i).margin dir base (offset (view i).space (c.c-c.ensures i)) (old i) (new i)) made
