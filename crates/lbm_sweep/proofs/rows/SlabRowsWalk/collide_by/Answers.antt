use Rattle.std.proofs.Common.{◌≡◌, ◌+◌, ◌<◌, ℕ, refl, sym, subst}
use Rattle.lbm_arrays.specs.Lent.{Place}
use Rattle.lbm_walk.specs.First.{IsFirst}
use Rattle.lbm_walk.specs.Walked.{AreTaken}
use Rattle.lbm_sweep.specs.Held.{BeginAt, IsSameBut, IsWithin}
use Rattle.lbm_sweep.proofs.Held.{within_but}
use Rattle.lbm_sweep.proofs.rows.SlabRowsWalk.collide_by.Goals as goal

pub collide_clear-requires-clause-within : goal.collide_clear-requires-clause-within
collide_clear-requires-clause-within g c = let w = c.args.self.now in subst (λ (n : ℕ). IsWithin g.V.VelocitySet.stencil.directions w.loan.now.ranges w.at n) c.if-self-eq8.true w.within

pub invariant_of-self : goal.invariant_of-self
invariant_of-self g c =
    let w = c.args.self.now in let done = c.collide_clear.ensures in let whole : w.n ≡ 8 = c.if-self-eq8.true in
    let but : IsSameBut w.at (w.at + w.n) w.loan.now c.collide_clear.new.loan = subst (λ (n : ℕ). IsSameBut w.at (w.at + n) w.loan.now c.collide_clear.new.loan) (sym whole) done.but in
    let q = g.V.VelocitySet.stencil.directions in
    record {
      within = within_but q w.at w.n w.loan.now c.collide_clear.new.loan but w.within;
      table = w.table;
      begins = subst (λ (p : Place). BeginAt q p w.writes.now w.to.now) (sym but.place) w.begins;
      fitting = g.met.T.Taking.still_fits w.taking.now w.writes.now w.loan.now c.collide_clear.new.loan w.at (w.at + w.n) but w.fitting;
    }

pub returns-then-is_clear-clause-first : goal.returns-then-is_clear-clause-first
returns-then-is_clear-clause-first g c = λ f taken.
    let w = c.args.self.now in let done = c.collide_clear.ensures in let whole : w.n ≡ 8 = c.if-self-eq8.true in
    let K = g.K.Kernel in
    subst (λ (n : ℕ). IsFirst (λ j. K.sound c.args.kernel.now (c.args.cell + j) (f j)) 0 n c.collide_clear.result) (sym whole)
    (done.first f (subst (λ (n : ℕ). AreTaken g.V.VelocitySet.stencil.directions n f (λ i j. g.T.Taking.taken w.taking.now w.loan.now i (w.at + j))) whole taken))

pub returns-then-is_clear-clause-post : goal.returns-then-is_clear-clause-post
returns-then-is_clear-clause-post g c = λ f taken none i j known lane.
    let w = c.args.self.now in let done = c.collide_clear.ensures in let whole : w.n ≡ 8 = c.if-self-eq8.true in
    done.post f (subst (λ (n : ℕ). AreTaken g.V.VelocitySet.stencil.directions n f (λ i j. g.T.Taking.taken w.taking.now w.loan.now i (w.at + j))) whole taken) none i j known (subst (λ (n : ℕ). j < n) whole lane)

pub returns-then-is_clear-clause-stopped : goal.returns-then-is_clear-clause-stopped
returns-then-is_clear-clause-stopped g c = λ k is i p.
    let w = c.args.self.now in let done = c.collide_clear.ensures in let whole : w.n ≡ 8 = c.if-self-eq8.true in
    (λ m. g.T.Taking.taken w.taking.now (done.stopped k is m) i p)

pub returns-then-is_clear-clause-kept : goal.returns-then-is_clear-clause-kept
returns-then-is_clear-clause-kept g c =
    let w = c.args.self.now in let done = c.collide_clear.ensures in let whole : w.n ≡ 8 = c.if-self-eq8.true in
    let but : IsSameBut w.at (w.at + w.n) w.loan.now c.collide_clear.new.loan = subst (λ (n : ℕ). IsSameBut w.at (w.at + n) w.loan.now c.collide_clear.new.loan) (sym whole) done.but in
    (refl, refl, refl, refl, refl, but)
