use Rattle.std.proofs.Common.{◌≡◌, ℕ, ◌+◌, ◌<◌, slice_index, refl, sym, subst}
use Rattle.lbm_walk.specs.First.{IsFirst}
use Rattle.lbm_walk.specs.Walked.{AreTaken}
use Rattle.lbm_rows.specs.TileRows.{takes, stands, AreCells, IsSameBut}
use Rattle.lbm_rows.proofs.RowPads.{has_alike}
use Rattle.lbm_rows.proofs.tile_row.TileRowWalk.collide_by.Goals as goal

pub collide_block-requires-clause-cells : goal.collide_block-requires-clause-cells
collide_block-requires-clause-cells g c = let w = c.args.self.now in subst (AreCells w.width w.at) c.if-self-eq8.true w.cells

pub invariant_of-self : goal.invariant_of-self
invariant_of-self g c =
    let w = c.args.self.now in let done = c.collide_block.ensures in
    record {
      cells = w.cells;
      has_row = has_alike g.V.VelocitySet.stencil w.ways.now w.row w.row w.width w.kept.now c.collide_block.new.kept done.but.alike w.has_row;
      exchange = w.exchange;
    }

pub returns-then-self-eq8-clause-first : goal.returns-then-self-eq8-clause-first
returns-then-self-eq8-clause-first g c = λ f taken.
    let w = c.args.self.now in let done = c.collide_block.ensures in let whole : w.n ≡ 8 = c.if-self-eq8.true in
    let K = g.K.Kernel in
    subst (λ (n : ℕ). IsFirst (λ j. K.sound c.args.kernel.now (c.args.cell + j) (f j)) 0 n c.collide_block.result) (sym whole)
    (done.first f (subst (λ (n : ℕ). AreTaken g.V.VelocitySet.stencil.directions n f (λ i j. stands w.kept.now (takes w.ways.now w.row i) (slice_index w.ways.now.from i) (w.at + j))) whole taken))

pub returns-then-self-eq8-clause-post : goal.returns-then-self-eq8-clause-post
returns-then-self-eq8-clause-post g c = λ f taken none i j known lane.
    let w = c.args.self.now in let done = c.collide_block.ensures in let whole : w.n ≡ 8 = c.if-self-eq8.true in
    done.post f (subst (λ (n : ℕ). AreTaken g.V.VelocitySet.stencil.directions n f (λ i j. stands w.kept.now (takes w.ways.now w.row i) (slice_index w.ways.now.from i) (w.at + j))) whole taken) none i j known (subst (λ (n : ℕ). j < n) whole lane)

pub returns-then-self-eq8-clause-stopped : goal.returns-then-self-eq8-clause-stopped
returns-then-self-eq8-clause-stopped g c = λ k is i p.
    let w = c.args.self.now in let done = c.collide_block.ensures in
    (λ m. stands (done.stopped k is m) (takes w.ways.now w.row i) (slice_index w.ways.now.from i) p)

pub returns-then-self-eq8-clause-kept : goal.returns-then-self-eq8-clause-kept
returns-then-self-eq8-clause-kept g c =
    let w = c.args.self.now in let done = c.collide_block.ensures in let whole : w.n ≡ 8 = c.if-self-eq8.true in
    let but : IsSameBut g.V.VelocitySet.stencil w.ways.now w.row w.at (w.at + w.n) w.kept.now c.collide_block.new.kept =
    subst (λ (n : ℕ). IsSameBut g.V.VelocitySet.stencil w.ways.now w.row w.at (w.at + n) w.kept.now c.collide_block.new.kept) (sym whole) done.but in
    (refl, refl, refl, refl, refl, refl, but)
