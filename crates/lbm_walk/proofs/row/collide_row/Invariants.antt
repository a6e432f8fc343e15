use Rattle.std.proofs.Common.{◌≡◌, ◌⊎◌, ◌-◌, ◌+◌, ◌<◌, ◌≤◌, ℕ, ℤ, None}
use Rattle.lbm_walk.specs.Orders.{done_from, done_to}
use Rattle.lbm_walk.specs.Walked.{AreTaken, IsPending, IsWalked}
use Rattle.lbm_walk.proofs.row.collide_row.Given as goal

abbrev pub invariant-loop-done : goal.invariant-loop-done
invariant-loop-done g l = record {
  within : l.done ≤ l.width;
  pending : (i p : ℕ) → i < g.V.VelocitySet.stencil.directions → IsPending g.W.Walk.RISES (l.at + done_from g.W.Walk.RISES l.width l.done) l.done p → g.W.Walk.before l.walk i p ≡ g.W.Walk.before l.initial.walk i p;
  beside : (i p : ℕ) → i < g.V.VelocitySet.stencil.directions → (p < l.at) ⊎ (l.at + l.width ≤ p) → g.W.Walk.after l.walk i p ≡ g.W.Walk.after l.initial.walk i p;
  others : (k p : ℕ) → (p < l.at) ⊎ (l.at + l.width ≤ p) → g.W.Walk.holds l.walk k p ≡ g.W.Walk.holds l.initial.walk k p;
  places : g.W.Walk.places l.walk ≡ g.W.Walk.places l.initial.walk;
  same : g.W.Walk.same l.initial.walk l.walk;
  cells : (f : ℕ → ℕ → ℤ) → AreTaken g.V.VelocitySet.stencil.directions l.width (λ x. f (l.cell + x)) (λ i x. g.W.Walk.before l.initial.walk i (l.at + x)) → (place : ℕ → ℕ) → ((x : ℕ) → x < l.width → place (l.cell + x) ≡ l.at + x)
      → IsWalked (g.K.Kernel.sound l.kernel) (g.K.Kernel.post l.kernel) g.V.VelocitySet.stencil.directions place (l.cell + done_from g.W.Walk.RISES l.width l.done) (l.cell + done_to g.W.Walk.RISES l.width l.done) f (g.W.Walk.after l.walk) None;
}

abbrev pub decreases-loop-done : goal.decreases-loop-done
decreases-loop-done g l = l.width - l.done
