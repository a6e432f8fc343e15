use Rattle.std.proofs.Common.{◌≡◌, ℕ, ◌+◌, ◌*◌, ◌<◌, FitsSigned, get_or, inl, inr, length, pos, set, to_z, of_z, w64, length-set, sym, ap, ◌∙◌, arith, rules}
use Rattle.std.proofs.lemmas.Bool.{cases_eq}
use Rattle.std.proofs.lemmas.Int.{to_z-of_z}
use Rattle.std.proofs.lemmas.List.{get_or-set_same, get_or-set_other}
use Rattle.lbm_model.specs.Case.{FlowCase}
use Rattle.lbm_rows.specs.Kept.{population_kept}
use Rattle.lbm_rows.proofs.reading.read_direction.Goals as goal

pub loop-x-preserved : goal.loop-x-preserved
loop-x-preserved g c =
    let inv = c.loop-x.invariant in let x = c.loop-x.x in let pops = c.loop-x.pops in let case = c.args.case.now in let t = c.args.t in let kept = c.args.kept.now in let dir = c.args.dir in
    let r = c.of-cells.result in let made = c.of-cells.ensures in
    let wide : FitsSigned w64 c.population.result = search rules in let v = to_z w64 (of_z w64 c.population.result) in
    let width_is : r.width ≡ case.torus.nx = made.row.width ∙ ap (λ (m : FlowCase). m.torus.nx) made.case in
    let more = c.loop-x-test.true in let inside : x < length pops = omega (arith, more, width_is, inv.room) in
    let is : v ≡ population_kept case t kept (c.args.row * case.torus.nx + x) dir =
    to_z-of_z w64 c.population.result wide ∙ c.population.ensures ∙ (λ i. population_kept (made.case i) (made.time i) kept (made.number i * width_is i + x) dir) in
    record {
      room = length-set pops x v ∙ inv.room;
      value = λ y next. elim (cases_eq y x) [
        | inl same ↦ ap (λ (k : ℕ). get_or (set pops x v) k (pos 0)) same ∙ get_or-set_same pops x v (pos 0) inside ∙ is ∙ ap (λ (k : ℕ). population_kept case t kept (c.args.row * case.torus.nx + k) dir) (sym same)
        | inr ne ↦ get_or-set_other pops x y v (pos 0) ne ∙ inv.value y (omega (arith, next, ne))
      ];
    }
