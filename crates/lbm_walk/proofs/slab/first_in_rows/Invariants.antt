use Rattle.std.proofs.Common.{◌≡◌, ◌*◌, ◌<◌, ◌≤◌, ℕ, ℤ, None}
use Rattle.lbm_walk.specs.First.{IsFirst}
use Rattle.lbm_walk.specs.Places.{InRows, local}
use Rattle.lbm_walk.proofs.slab.first_in_rows.Given as goal

abbrev pub invariant-loop-number : goal.invariant-loop-number
invariant-loop-number g l = record {
  low : l.rows.0 ≤ l.number;
  high : l.number ≤ l.rows.1;
  before : (i p : ℕ) → g.W.Walk.before l.walk i p ≡ g.W.Walk.before l.initial.walk i p;
  holds : (k p : ℕ) → g.W.Walk.holds l.walk k p ≡ g.W.Walk.holds l.initial.walk k p;
  places : g.W.Walk.places l.walk ≡ g.W.Walk.places l.initial.walk;
  same : g.W.Walk.same l.initial.walk l.walk;
  first : (f : ℕ → ℕ → ℤ) → ((i x : ℕ) → i < g.V.VelocitySet.stencil.directions → InRows l.space l.rows x → g.W.Walk.before l.initial.walk i (local l.space l.rows x) ≡ f x i) → IsFirst (λ x. g.K.Kernel.sound l.kernel x (f x)) (l.rows.0 * l.space.nx) (l.number * l.space.nx) None;
}
