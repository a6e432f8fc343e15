use Rattle.std.proofs.Common.{◌≡◌, ℕ, ◌==◌, map, true, false, Ok, Err, refl, sym, ap, ap₂, subst, ◌∙◌}
use Rattle.std.proofs.lemmas.Bool.{eq-eqb, ne_eqb}
use Rattle.std.proofs.lemmas.Result.{err_from_is_err_and}
use Rattle.lbm_space.specs.Torus.{cells}
use Rattle.lbm_model.specs.Case.{FlowCase}
use Rattle.lbm_voxel.specs.declared.fault.VoxelFault.TheVariants.{Word}
use Rattle.lbm_voxel.specs.Text.{words}
use Rattle.lbm_voxel.specs.Head.{count_in, values_in}
use Rattle.lbm_voxel.specs.Refusals.{Refuses}
use Rattle.lbm_voxel.specs.Voxels.{densities_in}
use Rattle.lbm_voxel.proofs.FirstWords.{case_in-word, case_in-sides, case_in-count, case_in-then, refuses-then}
use Rattle.lbm_voxel.proofs.read.case_in.Goals as goal

pub returns-in_default-clause-value : goal.returns-in_default-clause-value
returns-in_default-clause-value c =
    let all = words c.args.body.now in
    let first = map (λ word. word.now) c.as_slice-words.result.now in
    let told = ap (map (λ word. word.now)) c.as_slice-words.ensures.value ∙ c.in_ok-found.ensures.value in
    case_in-word all first told c.args.case.now (sym c.in_default.ensures) ∙ ap (λ (n : ℕ). Err (Word n)) (sym c.strange_word-strange.ensures.value)

pub returns-in_default-space_in-clause-value : goal.returns-in_default-space_in-clause-value
returns-in_default-space_in-clause-value c =
    let all = words c.args.body.now in
    let first = map (λ word. word.now) c.as_slice-words.result.now in
    let told = ap (map (λ word. word.now)) c.as_slice-words.ensures.value ∙ c.in_ok-found.ensures.value in
    case_in-sides all first told c.args.case.now c.in-Some.head.now (sym c.in-Some.ensures) (sym c.in_default-space_in.ensures)

pub returns-then-count_in-count-clause-value : goal.returns-then-count_in-count-clause-value
returns-then-count_in-count-clause-value c =
    let all = words c.args.body.now in
    let first = map (λ word. word.now) c.as_slice-words.result.now in
    let told = ap (map (λ word. word.now)) c.as_slice-words.ensures.value ∙ c.in_ok-found.ensures.value in
    let head = c.in-Some.head.now in
    let space = c.in-Some-space_in.space in
    let other : (count_in head first == cells space) ≡ false =
    ap₂ (λ (a b : ℕ). a == b) (sym c.count_in.ensures) (sym c.cells-count.ensures.count) ∙ ne_eqb _ _ c.if-count_in-count.true in
    case_in-count all first told c.args.case.now head (sym c.in-Some.ensures) space (sym c.in-Some-space_in.ensures) other

pub returns-in_err-densities-clause-value : goal.returns-in_err-densities-clause-value
returns-in_err-densities-clause-value c =
    let all = words c.args.body.now in
    let first = map (λ word. word.now) c.as_slice-words.result.now in
    let told = ap (map (λ word. word.now)) c.as_slice-words.ensures.value ∙ c.in_ok-found.ensures.value in
    let head = c.in-Some.head.now in
    let space = c.in-Some-space_in.space in
    let case = c.args.case.now in
    let counted : (count_in head first == cells space) ≡ true =
    ap₂ (λ (a b : ℕ). a == b) (sym c.count_in.ensures) (sym c.cells-count.ensures.count) ∙ eq-eqb _ _ c.if-count_in-count.false in
    let reading = densities_in (values_in head all) (cells space) in
    let end = c.in_err-densities.field-0.0 in
    let is : Refuses end reading =
    subst (λ r. Refuses end r) (ap₂ densities_in c.after_words.ensures c.cells-count.ensures.count) c.in_err-densities.ensures.value in
    let p = err_from_is_err_and c.from_residual-in_err-densities.result c.from_residual-in_err-densities.ensures.1 in
    rw (p.1, p.2, case_in-then all first told case head (sym c.in-Some.ensures) space (sym c.in-Some-space_in.ensures) counted)
    (refuses-then end reading _ is)

pub returns-clause-value : goal.returns-clause-value
returns-clause-value c =
    let all = words c.args.body.now in
    let first = map (λ word. word.now) c.as_slice-words.result.now in
    let told = ap (map (λ word. word.now)) c.as_slice-words.ensures.value ∙ c.in_ok-found.ensures.value in
    let head = c.in-Some.head.now in
    let space = c.in-Some-space_in.space in
    let case = c.args.case.now in
    let counted : (count_in head first == cells space) ≡ true =
    ap₂ (λ (a b : ℕ). a == b) (sym c.count_in.ensures) (sym c.cells-count.ensures.count) ∙ eq-eqb _ _ c.if-count_in-count.false in
    let densities = c.in_ok-densities.densities.items in
    let read : densities_in (values_in head all) (cells space) ≡ Ok densities =
    ap₂ densities_in (sym c.after_words.ensures) (sym c.cells-count.ensures.count) ∙ c.in_ok-densities.ensures.value in
    case_in-then all first told case head (sym c.in-Some.ensures) space (sym c.in-Some-space_in.ensures) counted
    ∙ (rw read refl ∙ ap (λ (made : FlowCase). Ok made) (sym c.with_voxels.ensures))
