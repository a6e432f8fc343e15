use Rattle.std.proofs.Common.{◌≡◌, ℕ, ◌+◌, ◌*◌, ◌<◌, pos, length, FitsSigned, w64, sym, ap, ◌∙◌, arith, rules}
use Rattle.std.proofs.lemmas.Int.{to_z-of_z}
use Rattle.std.proofs.lemmas.List.{get_or_read}
use Rattle.lbm_arrays.specs.Arrays.{Arrays, array_size, held, slot_at}
use Rattle.lbm_arrays.proofs.Slots.{slot_below}
use Rattle.lbm_arrays.proofs.region.Region.get.Goals as goal

pub returns : goal.returns
returns g c =
    let r = c.self.inside in let is = c.self.view_is in
    let fits : FitsSigned w64 c.index.result.now = search rules in
    let place : ℕ = c.args.dir * r.size + c.args.at in
    let count : r.count ≡ c.args.self.now.count = ap (λ (a : Arrays). a.count) is in
    let size : r.size ≡ array_size c.args.self.now.space c.args.self.now.margin = c.self.invariant.1 ∙ ap (λ (a : Arrays). array_size a.space a.margin) is in
    let known = c.requires.dir in let at = c.requires.at in let whole = c.self.invariant.0.whole in
    let below = slot_below r.size r.count c.args.dir c.args.at (omega (arith, known, count)) (omega (arith, at, size)) in
    let sized : length r.slots.items ≡ r.count * r.size = whole ∙ ap (λ (n : ℕ). r.count * n) (sym c.self.invariant.1) in
    let inside : place < length r.slots.items = omega (arith, below, sized) in
    to_z-of_z w64 c.index.result.now fits ∙ get_or_read r.slots.items place c.index.result.now inside c.index.ensures (pos 0)
    ∙ (λ i. held r.slots.items (c.args.dir * c.self.invariant.1 i + c.args.at)) ∙ ap (λ (a : Arrays). held a.slots (slot_at a.space a.margin c.args.dir c.args.at)) is
