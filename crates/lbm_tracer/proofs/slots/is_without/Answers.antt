use Rattle.std.proofs.Common.{◌≡◌, ℕ, ◌+◌, ◌*◌, ◌<◌, ◌≤◌, List, ℤ, pos, length, slice_index, slice_index_or, sym, subst, ◌∙◌, arith}
use Rattle.std.specs.List.{between}
use Rattle.std.proofs.lemmas.List.Edits.{length-between, get_or-between}
use Rattle.lbm_space.specs.Torus.{padded}
use Rattle.lbm_tracer.proofs.Rows.{run_inside, run_zero}
use Rattle.lbm_tracer.proofs.slots.is_without.Goals as goal

pub slice_bounds-are_zeros-end : goal.slice_bounds-are_zeros-end
slice_bounds-are_zeros-end g c =
    let inside = run_inside c.args.row.now c.requires.row c.args.region.now c.requires.laid c.slots-slots.ensures.valid c.args.k c.requires.direction in
    rw (c.slots-slots.ensures.value, c.padded.ensures.count) inside

pub returns : goal.returns
returns g c =
    let r = c.args.row.now in let k = c.args.k in let slots = c.args.region.now.slots in
    let first = slice_index r.arrays k * (2 + padded r.space) + slice_index r.firsts k in
    let inside : first + r.width ≤ length slots = run_inside r c.requires.row c.args.region.now c.requires.laid c.slots-slots.ensures.valid k c.requires.direction in
    let run : ℕ × List ℤ → List ℤ = λ w. (let from = slice_index r.arrays k * (2 + w.0) + slice_index r.firsts k in between from (from + r.width) w.1) in
    let same : (c.padded.result, c.slots-slots.result.now) ≡ (padded r.space, slots) = λ j. (c.padded.ensures.count j, c.slots-slots.ensures.value j) in
    λ yes. run_zero r c.requires.row c.args.region.now c.requires.laid c.slots-slots.ensures.valid k c.requires.direction
    (λ y below.
    sym (get_or-between slots first (first + r.width) y (pos 0) (omega (arith, below)))
    ∙ subst (λ (w : ℕ × List ℤ). y < length (run w) → slice_index_or (run w) y (pos 0) ≡ pos 0) same (c.are_zeros.ensures yes y) (omega (arith, below, length-between slots first (first + r.width) inside)))
