use Rattle.std.proofs.Common.{◌≡◌, ℕ, ◌+◌, ◌*◌, ◌<◌, ◌++◌, ◌∷◌, [], take, length, pos, slice_index_or, to_z, of_z, FitsSigned, w32, w64, sym, ap, subst, ◌∙◌, arith, rules}
use Rattle.std.proofs.lemmas.Int.{to_z-of_z}
use Rattle.std.proofs.lemmas.List.{take_more}
use Rattle.std.proofs.lemmas.Nat.{mul-add-lt}
use Rattle.lbm_space.specs.Stencil.{Stencil}
use Rattle.lbm_space.specs.Torus.{cells}
use Rattle.lbm_model.proofs.States.{IsStateOf-state_by, population-state_by}
use Rattle.lbm_rows.specs.Kept.{population_kept, state_kept}
use Rattle.lbm_rows.specs.CellRows.{cell_at}
use Rattle.lbm_rows.proofs.KeptStates.{kept_fits}
use Rattle.lbm_rows.proofs.CellRows.{cell_known, own_set}
use Rattle.lbm_rows.proofs.reading.read_cell.Goals as goal

pub overflow_cast-population : goal.overflow_cast-population
overflow_cast-population g c =
    let r = c.args.row.now in let i = c.loop-i.i in
    let here = cell_known r (own_set g.V.VelocitySet.stencil r c.requires.row) c.args.x c.requires.x in
    let known : i < r.case.now.stencil.directions = subst (λ (v : Stencil). i < v.directions) (sym c.requires.row.set) (omega (arith, g.met.V.VelocitySet.constants.0, c.Q-i-end.ensures)) in
    let wide : FitsSigned w64 c.population.result = search rules in
    subst (FitsSigned w32) (sym (to_z-of_z w64 c.population.result wide ∙ c.population.ensures)) (kept_fits r.case.now r.time c.args.kept.now c.requires.small (cell_at r c.args.x) i here known)

pub loop-i-preserved : goal.loop-i-preserved
loop-i-preserved g c =
    let r = c.args.row.now in let case = r.case.now in let kept = c.args.kept.now in let i = c.loop-i.i in let y = cell_at r c.args.x in let q = g.V.VelocitySet.stencil.directions in
    let s = state_kept case r.time kept in let n = y * q + i in
    let here = cell_known r (own_set g.V.VelocitySet.stencil r c.requires.row) c.args.x c.requires.x in
    let of_set : case.stencil.directions ≡ q = ap (λ (v : Stencil). v.directions) c.requires.row.set in
    let within : i < q = omega (arith, g.met.V.VelocitySet.constants.0, c.Q-i-end.ensures) in
    let known : i < case.stencil.directions = omega (arith, of_set, within) in
    let inside = mul-add-lt y q i (cells case.torus) here within in
    let sizes = (IsStateOf-state_by case (population_kept case r.time kept)).numbers ∙ ap (λ (w : ℕ). cells case.torus * w) of_set in
    let below : n < length s.numbers = omega (arith, inside, sizes) in
    let wide : FitsSigned w64 c.population.result = search rules in
    let small : FitsSigned w32 c.population.result = subst (FitsSigned w32) (sym c.population.ensures) (kept_fits case r.time kept c.requires.small y i here known) in
    let sent = to_z w32 (of_z w32 (to_z w64 (of_z w64 c.population.result))) in
    let value : sent ≡ slice_index_or s.numbers n (pos 0) =
    ap (λ z. to_z w32 (of_z w32 z)) (to_z-of_z w64 _ wide) ∙ to_z-of_z w32 _ small ∙ c.population.ensures ∙ sym (population-state_by case (population_kept case r.time kept) y i here known)
    ∙ ap (λ (w : ℕ). slice_index_or s.numbers (y * w + i) (pos 0)) of_set in
    let next : n + 1 ≡ y * q + (i + 1) = omega arith in
    c.in_ok-push.ensures.items ∙ ap (λ xs. xs ++ sent ∷ []) c.loop-i.invariant ∙ ap (λ z. take n s.numbers ++ z ∷ []) value ∙ sym (take_more s.numbers n (pos 0) below)
    ∙ ap (λ (m : ℕ). take m s.numbers) next

pub returns : goal.returns
returns g c =
    let r = c.args.row.now in let q = g.V.VelocitySet.stencil.directions in let i = c.loop-i.i in
    let end : i ≡ q = omega (arith, g.met.V.VelocitySet.constants.0, c.Q-i-end.ensures, c.loop-i-test.false, c.loop-i.auto.i-end) in
    let next : cell_at r c.args.x * q + i ≡ cell_at r (c.args.x + 1) * q = omega (arith, end) in
    c.loop-i.invariant ∙ ap (λ (m : ℕ). take m (state_kept r.case.now r.time c.args.kept.now).numbers) next
