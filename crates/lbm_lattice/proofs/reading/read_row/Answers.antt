use Rattle.std.proofs.Common.{◌≡◌, ℕ, ◌+◌, ◌-◌, ◌*◌, ◌<◌, ◌≤◌, List, ℤ, length, pos, slice_index_or, sym, ap, subst, ◌∙◌, arith}
use Rattle.lbm_space.specs.Stencil.{Stencil}
use Rattle.lbm_space.specs.Torus.{padded}
use Rattle.lbm_model.specs.Layout.{array_of, population_in}
use Rattle.lbm_lattice.proofs.Rows.{read_is, first_fits, second_fits}
use Rattle.lbm_lattice.proofs.reading.read_row.Goals as goal

pub copy_run-requires-clause-there : goal.copy_run-requires-clause-there
copy_run-requires-clause-there g c =
    let round = c.row-first.result in
    let size : c.args.layout.margin + c.padded.result ≡ c.args.layout.margin + padded c.args.case.now.torus = ap (λ (n : ℕ). c.args.layout.margin + n) (c.padded.ensures.count ∙ ap padded c.space.ensures.value) in
    let laid = c.requires.laid in
    let slots : length c.slots-slots.result.now ≡ c.args.case.now.stencil.directions * (c.args.layout.margin + padded c.args.case.now.torus) = ap length c.slots-slots.ensures.value ∙ c.slots-slots.ensures.valid.whole ∙ (λ j. laid.count j * (laid.margin j + padded (laid.space j))) in
    let known : c.array.result < c.args.case.now.stencil.directions = subst (λ (v : Stencil). c.array.result < v.directions) (sym c.requires.set) c.array.ensures.known in
    rw (size, slots, c.requires.room) (first_fits c.args.case.now c.args.layout c.args.row c.args.dir round c.row-first.ensures c.array.result known)

pub copy_run-requires-2-clause-there : goal.copy_run-requires-2-clause-there
copy_run-requires-2-clause-there g c =
    let round = c.row-first.result in
    let size : c.args.layout.margin + c.padded.result ≡ c.args.layout.margin + padded c.args.case.now.torus = ap (λ (n : ℕ). c.args.layout.margin + n) (c.padded.ensures.count ∙ ap padded c.space.ensures.value) in
    let laid = c.requires.laid in
    let slots : length c.slots-slots.result.now ≡ c.args.case.now.stencil.directions * (c.args.layout.margin + padded c.args.case.now.torus) = ap length c.slots-slots.ensures.value ∙ c.slots-slots.ensures.valid.whole ∙ (λ j. laid.count j * (laid.margin j + padded (laid.space j))) in
    let known : c.array.result < c.args.case.now.stencil.directions = subst (λ (v : Stencil). c.array.result < v.directions) (sym c.requires.set) c.array.ensures.known in
    rw (size, slots) (second_fits c.args.case.now c.args.layout c.args.row c.args.dir round c.row-first.ensures c.array.result known)

pub returns-clause-value : goal.returns-clause-value
returns-clause-value g c =
    let case = c.args.case.now in let layout = c.args.layout in let row = c.args.row in let i = c.args.dir in let round = c.row-first.result in
    let n = case.torus.nx in let pops = c.args.pops.now in let middle = c.copy_run.new.to in let last = c.copy_run-2.new.to in let from = c.slots-slots.result.now in
    let start = c.array.result * (layout.margin + c.padded.result) + round.0 in
    let size : c.args.layout.margin + c.padded.result ≡ c.args.layout.margin + padded c.args.case.now.torus = ap (λ (n : ℕ). c.args.layout.margin + n) (c.padded.ensures.count ∙ ap padded c.space.ensures.value) in
    let array : c.array.result ≡ array_of case.stencil layout i = c.array.ensures.array ∙ ap (λ (v : Stencil). array_of v layout i) (sym c.requires.set) in
    let start_is : start ≡ array_of case.stencil layout i * (layout.margin + padded case.torus) + round.0 = λ j. array j * size j + round.0 in
    let room : length pops ≡ n = c.requires.room in
    let first : (k : ℕ) → k < n - round.1 → slice_index_or middle (0 + k) (pos 0) ≡ slice_index_or from (start + round.1 + k) (pos 0) = subst (λ (m : ℕ). (k : ℕ) → k < m - round.1 → slice_index_or middle (0 + k) (pos 0) ≡ slice_index_or from (start + round.1 + k) (pos 0)) room c.copy_run.ensures.copied in
    let room2 : length middle ≡ n = c.copy_run.ensures.room ∙ room in
    let kept : (x : ℕ) → x < n - round.1 → slice_index_or last x (pos 0) ≡ slice_index_or middle x (pos 0) = subst (λ (m : ℕ). (x : ℕ) → x < m - round.1 → slice_index_or last x (pos 0) ≡ slice_index_or middle x (pos 0)) room c.copy_run-2.ensures.before in
    let second : (k : ℕ) → k < round.1 → slice_index_or last (n - round.1 + k) (pos 0) ≡ slice_index_or from (start + k) (pos 0) = subst (λ (m : ℕ). (k : ℕ) → k < round.1 → slice_index_or last (m - round.1 + k) (pos 0) ≡ slice_index_or from (start + k) (pos 0)) room c.copy_run-2.ensures.copied in
    λ x here. read_is case layout row i start round c.row-first.ensures from middle last start_is first kept second x here
    ∙ ap (λ (s : List ℤ). population_in case layout s (row * n + x) i) c.slots-slots.ensures.value
