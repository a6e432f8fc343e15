use Rattle.std.proofs.Common.{rules, ◌≡◌, ◌+◌, ◌*◌, ◌/◌, ◌%◌, List, [], ℤ, pos, length, ap, sym, ◌∙◌, arith, inl, inr}
use Rattle.std.specs.Prelude.{slice_index_or}
use Rattle.std.proofs.lemmas.Bool.{cases_eq}
use Rattle.lbm_space.specs.Stencil.{Stencil}
use Rattle.lbm_space.specs.Torus.{rows}
use Rattle.lbm_rows.specs.Kept.{placed}
use Rattle.lbm_rows.proofs.LentTiles.{in_front, at_end}
use Rattle.lbm_rows.proofs.KeptStates.{made_state}
use Rattle.lbm_rows.proofs.standing.make_rows.Goals as goal

pub loop-j-preserved : goal.loop-j-preserved
loop-j-preserved g c =
    let inv = c.loop-j.invariant in let pushed = c.push_reserved.ensures.items in let r = c.rows-rows.result in let items = c.loop-j.kept.items in let one = c.in_ok-make_row.field-0 in record {
      count = search rules;
      space = search rules;
      lengths = λ j below. elim (cases_eq j c.loop-j.j) [
        | inl same ↦ (λ z. length (slice_index_or (pushed z) j [])) ∙ ap (λ (row : List ℤ). length row) (at_end items one j (same ∙ sym inv.count)) ∙ c.in_ok-make_row.ensures.long
        | inr ne ↦ (λ z. length (slice_index_or (pushed z) j [])) ∙ ap (λ (row : List ℤ). length row) (in_front items one j (omega (arith, inv.count))) ∙ inv.lengths j (omega arith)
      ];
      slots = λ j x below here. elim (cases_eq j c.loop-j.j) [
        | inl same ↦ (λ z. slice_index_or (slice_index_or (pushed z) j []) (1 + x) (pos 0)) ∙ ap (λ (row : List ℤ). slice_index_or row (1 + x) (pos 0)) (at_end items one j (same ∙ sym inv.count)) ∙ c.in_ok-make_row.ensures.slots x here
            ∙ (λ z. placed c.args.case.now c.args.t c.args.state.now (sym same z / r) (sym same z % r * c.args.case.now.torus.nx + x))
        | inr ne ↦ (λ z. slice_index_or (slice_index_or (pushed z) j []) (1 + x) (pos 0)) ∙ ap (λ (row : List ℤ). slice_index_or row (1 + x) (pos 0)) (in_front items one j (omega (arith, inv.count))) ∙ inv.slots j x (omega arith) here
      ];
    }

pub returns-clause-sized : goal.returns-clause-sized
returns-clause-sized g c =
    let case = c.args.case.now in let inv = c.loop-j.invariant in let past = c.loop-j-test.false in let end = c.loop-j.auto.j-end in
    let total : c.rows-rows.result ≡ rows case.torus = c.rows-rows.ensures.count ∙ ap rows c.space.ensures.value in
    let q : c.Q.result ≡ case.stencil.directions = c.Q.ensures ∙ g.met.V.VelocitySet.constants.0 ∙ ap (λ (v : Stencil). v.directions) (sym c.requires.set) in
    let all : c.Q.result * c.rows-rows.result ≡ case.stencil.directions * rows case.torus = (λ z. q z * total z) in record {
      count = omega (arith, inv.count, past, end, all);
      lengths = λ j below. inv.lengths j (omega (arith, past, end, all, below));
    }

pub returns-clause-placed : goal.returns-clause-placed
returns-clause-placed g c =
    let case = c.args.case.now in let inv = c.loop-j.invariant in let past = c.loop-j-test.false in let end = c.loop-j.auto.j-end in
    let total : c.rows-rows.result ≡ rows case.torus = c.rows-rows.ensures.count ∙ ap rows c.space.ensures.value in
    let q : c.Q.result ≡ case.stencil.directions = c.Q.ensures ∙ g.met.V.VelocitySet.constants.0 ∙ ap (λ (v : Stencil). v.directions) (sym c.requires.set) in
    let all : c.Q.result * c.rows-rows.result ≡ case.stencil.directions * rows case.torus = (λ z. q z * total z) in
    made_state case c.requires.valid c.args.t c.args.state.now c.loop-j.kept.items c.requires.state (λ j x below here.
    inv.slots j x (omega (arith, past, end, all, below)) here ∙ (λ z. placed case c.args.t c.args.state.now (j / total z) (j % total z * case.torus.nx + x)))
