use Rattle.std.proofs.Common.{◌≡◌, ◌<◌, ℕ, w8, refl, ◌∙◌, arith}
use Rattle.std.specs.Prelude.{◌&&◌, bit_and}
use Rattle.std.specs.Int.{bit_not}
use Rattle.lbm_cell.specs.Moments.{in_limits}
use Rattle.lbm_lanes.specs.Lanes.{held, has}
use Rattle.lbm_lanes.proofs.Masks.{all_chosen, chosen_bit}
use Rattle.lbm_lanes.proofs.Outcome.{flip_not, becomes_is, becomes_all, chosen_within, on_within}
use Rattle.lbm_lanes.proofs.kernel.collide_lanes.Goals.{Start}
use Rattle.lbm_lanes.proofs.kernel.collide_lanes.Goals as goal

-- a lane is chosen where its cell is fluid and in limits
chosen_is : (g : _) (c : Start g) (j : ℕ) → j < 8 → has (bit_and c.args.fluid (bit_not w8 c.args.out)) j ≡ (has c.args.fluid j && in_limits g.V.VelocitySet.stencil (held (g.R.Rows.count c.args.rows.now) (g.R.Rows.there c.args.rows.now) j))
chosen_is g c j lane = chosen_within (has c.args.fluid j) (has c.args.out j) _ _ (chosen_bit c.args.fluid c.args.out j (omega arith) (omega arith) lane) (c.requires.out j lane)

pub collide_whole-requires-clause-fits : goal.collide_whole-requires-clause-fits
collide_whole-requires-clause-fits g c = c.requires.fits

pub collide_whole-requires-clause-run : goal.collide_whole-requires-clause-run
collide_whole-requires-clause-run g c = c.requires.run

pub collide_whole-requires-clause-sums : goal.collide_whole-requires-clause-sums
collide_whole-requires-clause-sums g c = c.requires.sums

pub collide_whole-requires-clause-within : goal.collide_whole-requires-clause-within
collide_whole-requires-clause-within g c l lane =
    let both = all_chosen c.args.fluid c.args.out _ l (omega arith) (omega arith) lane refl c.if-chosen.true in
    flip_not (has c.args.out l) _ (c.requires.out l lane) both.1

pub collide_mixed-requires-clause-fits : goal.collide_mixed-requires-clause-fits
collide_mixed-requires-clause-fits g c = c.requires.fits

pub collide_mixed-requires-clause-run : goal.collide_mixed-requires-clause-run
collide_mixed-requires-clause-run g c = c.requires.run

pub collide_mixed-requires-clause-sums : goal.collide_mixed-requires-clause-sums
collide_mixed-requires-clause-sums g c = c.requires.sums

pub collide_mixed-requires-clause-within : goal.collide_mixed-requires-clause-within
collide_mixed-requires-clause-within g c l lane on =
    let here = (goal.at.collide_mixed-requires-clause-within g c).Start in
    on_within (has c.args.fluid l) _ _ (chosen_is g here l lane) on

pub returns-then-chosen-clause-post : goal.returns-then-chosen-clause-post
returns-then-chosen-clause-post g c i j known cell =
    let v = g.V.VelocitySet.stencil in let R = g.R.Rows in let rows = c.args.rows.now in let h = held (R.count rows) (R.there rows) j in
    let lane : j < 8 = omega (arith, cell, c.count-count.ensures.value, c.count-count.ensures.few) in
    let both = all_chosen c.args.fluid c.args.out _ j (omega arith) (omega arith) lane refl c.if-chosen.true in
    c.collide_whole.ensures.sent i j known cell
    ∙ becomes_all v c.args.run.now.rates c.args.run.now.force (has c.args.fluid j) (has c.args.solid j) h i (c.requires.apart j lane) both.0 (flip_not (has c.args.out j) (in_limits v h) (c.requires.out j lane) both.1)

pub returns-clause-post : goal.returns-clause-post
returns-clause-post g c i j known cell =
    let here = (goal.at.returns-clause-post g c).Start in
    let v = g.V.VelocitySet.stencil in let R = g.R.Rows in let rows = c.args.rows.now in let h = held (R.count rows) (R.there rows) j in
    let lane : j < 8 = omega (arith, cell, c.count-count.ensures.value, c.count-count.ensures.few) in
    c.collide_mixed.ensures.sent i j known cell
    ∙ becomes_is v c.args.run.now.rates c.args.run.now.force (has c.args.fluid j) (has c.args.solid j) (has (bit_and c.args.fluid (bit_not w8 c.args.out)) j) (has c.args.solid j) h i (c.requires.apart j lane) (chosen_is g here j lane) refl
