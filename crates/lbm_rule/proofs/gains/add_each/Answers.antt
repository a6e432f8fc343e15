use Rattle.std.proofs.Common.{◌≡◌, ◌≢◌, ◌+◌, ◌<◌, ℕ, ℤ, ◌+ℤ◌, ap, arith, ◌∙◌, inl, inr, subst}
use Rattle.std.proofs.lemmas.Bool.{cases_lt}
use Rattle.lbm_model.specs.Case.{gain}
use Rattle.lbm_rule.proofs.gains.add_each.Goals as goal

pub loop-i-preserved : goal.loop-i-preserved
loop-i-preserved g c =
    let R = g.R.Rows in let i = c.loop-i.i in let rows = c.args.rows.now in let v = g.V.VelocitySet.stencil in let before = c.loop-i.invariant in
    let known : i < v.directions = omega (arith, g.met.V.VelocitySet.constants.0) in
    record {
      done = λ k j below cell.
          let here : j < R.count c.loop-i.rows = omega (arith, cell, before.count) in
          elim (cases_lt k i) [
            | inl front ↦ (let ne : k ≢ i = omega arith in c.put.ensures.still_sent k j (omega arith) ne here ∙ before.done k j front cell)
            | inr last ↦ (
                let same : i ≡ k = omega arith in
                let counted : j < c.count-n.result = omega (arith, cell, c.count-n.ensures.value) in
                subst (λ (m : ℕ). R.sent c.put.new.self m j ≡ R.sent rows m j +ℤ gain c.args.case.now (c.args.cell + j) m) same
                (c.put.ensures.sent j here ∙ c.gained-lanes.ensures j counted ∙ ap (λ (z : ℤ). z +ℤ gain c.args.case.now (c.args.cell + j) i) (c.sent-sent.ensures j here ∙ before.left i j (omega arith) known cell)))
          ];
      left = λ k j past within cell.
          let here : j < R.count c.loop-i.rows = omega (arith, cell, before.count) in
          let ne : k ≢ i = omega arith in
          c.put.ensures.still_sent k j within ne here ∙ before.left k j (omega arith) within cell;
      count = c.put.ensures.count ∙ before.count;
      kept = g.met.R.Rows.kept_on rows c.loop-i.rows c.put.new.self before.kept c.put.ensures.kept;
    }
