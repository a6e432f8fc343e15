use Rattle.std.proofs.Common.{◌<◌, Bool, sym, ap, ◌∙◌, arith}
use Rattle.std.specs.Prelude.{slice_index, nat_lt}
use Rattle.lbm_lanes.specs.Cells.{settled}
use Rattle.lbm_lanes.specs.Lanes.{held, has}
use Rattle.lbm_lanes.proofs.kernel.collide_mixed.Goals as goal

pub collide_sums-requires-clause-within : goal.collide_sums-requires-clause-within
collide_sums-requires-clause-within g c = λ l lane on. c.requires.within l lane (sym (c.flagged-colliding.ensures l lane) ∙ on)

pub returns-clause-sent : goal.returns-clause-sent
returns-clause-sent g c = λ k j known cell.
    let v = g.V.VelocitySet.stencil in let R = g.R.Rows in let rows = c.args.rows.now in let h = held (R.count rows) (R.there rows) j in
    let r = c.args.run.now.rates in let force = c.args.run.now.force in
    let lane : j < 8 = omega (arith, cell, c.count-count.ensures.value, c.count-count.ensures.few) in
    c.collide_sums.ensures.sent k j known cell
    ∙ ap (λ (b : Bool). settled v r force b (nat_lt 0 (slice_index c.flagged-turning.result j)) h k) (c.flagged-colliding.ensures j lane)
    ∙ ap (λ (b : Bool). settled v r force (has c.args.chosen j) b h k) (c.flagged-turning.ensures j lane)
