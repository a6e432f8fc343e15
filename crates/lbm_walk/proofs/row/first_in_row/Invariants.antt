use Rattle.std.proofs.Common.{◌≡◌, ◌-◌, ◌+◌, ◌≤◌, ℕ, ℤ, None}
use Rattle.lbm_walk.specs.First.{IsFirst}
use Rattle.lbm_walk.specs.Walked.{AreTaken}
use Rattle.lbm_walk.proofs.row.first_in_row.Given as goal

abbrev pub invariant-loop-seen : goal.invariant-loop-seen
invariant-loop-seen g l = record {
  within : l.seen ≤ l.width;
  before : (i p : ℕ) → g.W.Walk.before l.walk i p ≡ g.W.Walk.before l.initial.walk i p;
  after : (i p : ℕ) → g.W.Walk.after l.walk i p ≡ g.W.Walk.after l.initial.walk i p;
  holds : (k p : ℕ) → g.W.Walk.holds l.walk k p ≡ g.W.Walk.holds l.initial.walk k p;
  places : g.W.Walk.places l.walk ≡ g.W.Walk.places l.initial.walk;
  same : g.W.Walk.same l.initial.walk l.walk;
  first : (f : ℕ → ℕ → ℤ) → AreTaken g.V.VelocitySet.stencil.directions l.width (λ x. f (l.cell + x)) (λ i x. g.W.Walk.before l.initial.walk i (l.at + x)) → IsFirst (λ x. g.K.Kernel.sound l.kernel x (f x)) l.cell (l.cell + l.seen) None;
}

abbrev pub decreases-loop-seen : goal.decreases-loop-seen
decreases-loop-seen g l = l.width - l.seen
