use Rattle.std.proofs.Common.{◌∙◌, pos, Bool, ap, subst, FitsSigned, w32}
use Rattle.std.specs.Prelude.{if◌then◌else◌, ◌&&◌, not}
use Rattle.std.proofs.lemmas.Bool.{lt-ltb}
use Rattle.lbm_cell.specs.Moments.{in_limits}
use Rattle.lbm_walk.specs.Blocks.{lane}
use Rattle.lbm_lanes.specs.Lanes.{has, becomes, held, is_out}
use Rattle.lbm_lanes.proofs.Outcome.{held_there, least_same}
use Rattle.lbm_lanes.proofs.collision.collide_block.Goals as goal

pub collide_rows-requires-clause-fits : goal.collide_rows-requires-clause-fits
collide_rows-requires-clause-fits g c = λ i j known below. subst (FitsSigned w32) (held_there 8 (λ k l. lane c.args.b.now.rows l k) i j below) (c.requires.fits i j known below)

pub returns-clause-post : goal.returns-clause-post
returns-clause-post g c i j known below =
    c.collide_rows.ensures.post i j known below
    ∙ ap (λ (b : Bool). becomes g.V.VelocitySet.stencil c.args.rule.now.rates c.args.rule.now.force (has c.args.fluid j) (has c.args.solid j) (λ k. if b then lane c.args.b.now.rows j k else pos 0) i) (lt-ltb j 8 below)

pub returns-clause-past : goal.returns-clause-past
returns-clause-past g c i j above = c.collide_rows.ensures.kept i j above

pub returns-clause-answer : goal.returns-clause-answer
returns-clause-answer g c =
    let v = g.V.VelocitySet.stencil in let rows = c.args.b.now.rows in
    c.collide_rows.ensures.answer
    ∙ least_same 8 (is_out v c.args.fluid (held 8 (λ k l. lane rows l k))) (is_out v c.args.fluid (lane rows)) (λ j below. ap (λ (b : Bool). has c.args.fluid j && not (in_limits v (λ k. if b then lane rows j k else pos 0))) (lt-ltb j 8 below))
