use Rattle.std.proofs.Common.{◌≡◌, ℕ, ap, sym, subst, ◌∙◌, arith}
use Rattle.lbm_arrays.specs.Lent.{first_slot}
use Rattle.lbm_walk.specs.Places.{local}
use Rattle.lbm_sweep.specs.Held.{width}
use Rattle.lbm_grid.specs.Near.{reading_at, reading_of, seen, taken_near}
use Rattle.lbm_grid.proofs.There.{all_there}
use Rattle.lbm_grid.proofs.near.NearSource.collide.Goals as goal

pub collide_taking-requires-clause-fitting : goal.collide_taking-requires-clause-fitting
collide_taking-requires-clause-fitting g c =
    let v = g.V.VelocitySet.stencil in let m = c.requires.matched in let near = c.requires.made_ready in let w = c.args.self.now in let loan = c.args.loan.now in let begins = c.args.call.now.places.now in
    let count = m.table.count in (
      c.requires.spared,
      λ i known. c.first_slots-to.ensures i (omega (arith, count, known)) ∙ ap (first_slot loan.place) (c.requires.spared i known),
      all_there w.space v g.W.Way.RISES begins w.width _ loan.rows loan.ranges (width loan.ranges) c.readings-readings.result near (near.sized.lengths 0 m.table.some)
          (λ i known. c.readings-readings.ensures i known ∙ ap (λ (rows : ℕ × ℕ). reading_of w.space v g.W.Way.RISES begins w.width rows i) c.rows-rows.ensures),
      c.bounds-least.ensures,
    )

pub collide_taking-requires-clause-small : goal.collide_taking-requires-clause-small
collide_taking-requires-clause-small g c = λ i x known here.
    let v = g.V.VelocitySet.stencil in let loan = c.args.loan.now in let w = c.args.self.now in let m = c.requires.matched in let rises = g.W.Way.RISES in let call = c.args.call.now in
    let is : reading_at c.readings-readings.result i ≡ reading_of w.space v rises call.places.now w.width loan.rows i = c.readings-readings.ensures i known ∙ ap (λ (rows : ℕ × ℕ). reading_of w.space v rises call.places.now w.width rows i) c.rows-rows.ensures in
    subst (g.K.Kernel.small c.args.kernel.now x) (λ j. seen rises call.read.now loan.ranges i (sym is j) (local (m.same_space j) loan.rows x)) (c.requires.small x i here known)

pub returns-clause-done : goal.returns-clause-done
returns-clause-done g c =
    let v = g.V.VelocitySet.stencil in let loan = c.args.loan.now in let w = c.args.self.now in let m = c.requires.matched in let rises = g.W.Way.RISES in let call = c.args.call.now in
    c.collide_taking.ensures.done (λ rows ranges x i. taken_near w.space v rises call.places.now w.width call.read.now rows ranges x i)
    (λ i x known here.
    let is : reading_at c.readings-readings.result i ≡ reading_of w.space v rises call.places.now w.width loan.rows i = c.readings-readings.ensures i known ∙ ap (λ (rows : ℕ × ℕ). reading_of w.space v rises call.places.now w.width rows i) c.rows-rows.ensures in
    (λ j. seen rises call.read.now loan.ranges i (is j) (local (sym m.same_space j) loan.rows x)))
