use Rattle.std.proofs.Common.{◌≡◌, ◌+◌, ◌<◌, ◌≤◌, ℕ, ◌+ℤ◌}
use Rattle.lbm_model.specs.Case.{gain}
use Rattle.lbm_rule.proofs.gains.add_each.Given as goal

abbrev pub invariant-loop-i : goal.invariant-loop-i
invariant-loop-i g l =
    let R = g.R.Rows in let rows = l.initial.rows in
    record {
      done : (k j : ℕ) → k < l.i → j < R.count rows → R.sent l.rows k j ≡ R.sent rows k j +ℤ gain l.case (l.cell + j) k;
      left : (k j : ℕ) → l.i ≤ k → k < g.V.VelocitySet.stencil.directions → j < R.count rows → R.sent l.rows k j ≡ R.sent rows k j;
      count : R.count l.rows ≡ R.count rows;
      kept : R.kept rows l.rows;
    }
