use Rattle.std.proofs.Common.{◌≡◌, ◌+◌, slice_index, sym, ◌∙◌, rules}
use Rattle.lbm_rows.specs.TileRows.{puts, stands}
use Rattle.lbm_rows.proofs.TileBlocks.{but_as, kept_as}
use Rattle.lbm_rows.proofs.tile_block.collide_block.Goals as goal

pub returns-clause-post : goal.returns-clause-post
returns-clause-post g c = λ f taken none i j known lane.
    let w = c.collide.new.rows in let told = c.collide.ensures.kept in let ways = c.args.ways.now in
    let found : stands w.kept.now (puts ways c.args.row i) (slice_index ways.to i) (c.args.at + j) ≡ g.K.Kernel.post c.args.kernel.now (c.args.cell + j) (f j) i =
    (λ z. stands w.kept.now (puts (sym told.1 z) (sym told.2 z) i) (slice_index (sym told.1 z).to i) (sym told.3 z + j)) ∙ c.collide.ensures.post f taken none i j known lane in
    search rules

pub returns-clause-stopped : goal.returns-clause-stopped
returns-clause-stopped g c = λ k is.
    let name = c.collide.ensures.kept.0 in
    kept_as _ _ _ (search rules) (λ m. (c.collide.ensures.stopped k is m).kept.now)

pub returns-clause-but : goal.returns-clause-but
returns-clause-but g c =
    let told = c.collide.ensures.kept in let name = told.0 in
    but_as g.V.VelocitySet.stencil c.args.ways.now c.args.row c.args.at _ c.args.kept.now c.collide.new.rows.kept.now _ (search rules) told.4
