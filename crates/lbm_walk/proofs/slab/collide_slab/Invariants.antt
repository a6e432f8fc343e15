use Rattle.std.proofs.Common.{◌≡◌, ◌+◌, ◌*◌, ◌/◌, ◌<◌, ℕ, ℤ, None}
use Rattle.lbm_walk.specs.Orders.{done_from, done_to}
use Rattle.lbm_walk.specs.Places.{InRows, local}
use Rattle.lbm_walk.specs.Walked.{IsPending, IsWalked}
use Rattle.lbm_walk.proofs.slab.collide_slab.Given as goal

abbrev pub invariant-loop-done : goal.invariant-loop-done
invariant-loop-done g l = record {
  pending : (i x : ℕ) → i < g.V.VelocitySet.stencil.directions → InRows l.space l.rows x → IsPending g.W.Walk.RISES (l.rows.0 + done_from g.W.Walk.RISES l.count l.done) l.done (x / l.space.nx) → g.W.Walk.before l.walk i (local l.space l.rows x) ≡ g.W.Walk.before l.initial.walk i (local l.space l.rows x);
  others : (k p : ℕ) → ((x : ℕ) → InRows l.space l.rows x → local l.space l.rows x ≡ p → ⊥) → g.W.Walk.holds l.walk k p ≡ g.W.Walk.holds l.initial.walk k p;
  places : g.W.Walk.places l.walk ≡ g.W.Walk.places l.initial.walk;
  same : g.W.Walk.same l.initial.walk l.walk;
  cells : (f : ℕ → ℕ → ℤ) → ((i x : ℕ) → i < g.V.VelocitySet.stencil.directions → InRows l.space l.rows x → g.W.Walk.before l.initial.walk i (local l.space l.rows x) ≡ f x i)
      → IsWalked (g.K.Kernel.sound l.kernel) (g.K.Kernel.post l.kernel) g.V.VelocitySet.stencil.directions (local l.space l.rows) ((l.rows.0 + done_from g.W.Walk.RISES l.count l.done) * l.space.nx) ((l.rows.0 + done_to g.W.Walk.RISES l.count l.done) * l.space.nx) f (g.W.Walk.after l.walk) None;
}
