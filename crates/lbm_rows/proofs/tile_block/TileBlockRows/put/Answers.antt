use Rattle.std.proofs.Common.{rules, ◌≡◌, ◌+◌, length, refl}
use Rattle.lbm_rows.proofs.TileBlocks.{put_but, put_here, put_others}
use Rattle.lbm_rows.proofs.tile_block.TileBlockRows.put.Goals as goal

pub returns-clause-sent : goal.returns-clause-sent
returns-clause-sent g c =
    let w = c.args.self.now in let long : length c.args.lanes ≡ 8 = search rules in
    put_here g.V.VelocitySet.stencil g.met.V.VelocitySet.laws w.ways.now w.row w.width w.at w.kept.now w.cells w.has_row w.exchange c.args.dir c.requires c.args.lanes long c.store_block_in.new.kept c.store_block_in.ensures

pub returns-clause-still_sent : goal.returns-clause-still_sent
returns-clause-still_sent g c = λ i j known ne lane.
    let w = c.args.self.now in let long : length c.args.lanes ≡ 8 = search rules in
    put_others g.V.VelocitySet.stencil g.met.V.VelocitySet.laws w.ways.now w.row w.width w.at w.kept.now w.cells w.has_row w.exchange c.args.dir c.requires c.args.lanes long c.store_block_in.new.kept c.store_block_in.ensures i (w.at + j) known ne

pub returns-clause-kept : goal.returns-clause-kept
returns-clause-kept g c =
    let w = c.args.self.now in let long : length c.args.lanes ≡ 8 = search rules in
    (refl, refl, refl, refl, put_but g.V.VelocitySet.stencil g.met.V.VelocitySet.laws w.ways.now w.row w.width w.at w.kept.now w.cells w.has_row w.exchange c.args.dir c.requires c.args.lanes long c.store_block_in.new.kept c.store_block_in.ensures)
