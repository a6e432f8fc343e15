use Rattle.std.proofs.Common.{◌≡◌, ◌<◌, ◌≤◌, ℕ, ℤ, ◌-ℤ◌, unsigned_abs, subst, ap, ◌∙◌, arith, eqb}
use Rattle.lbm_lanes.specs.Progress.{IsProgress}
use Rattle.std.specs.Prelude.{slice_index, nat_lt, not}
use Rattle.std.proofs.lemmas.Int.{ints}
use Rattle.lbm_walk.proofs.Turns.{underway_all, turn_rest}
use Rattle.lbm_lanes.specs.Cells.{is_on, after}
use Rattle.lbm_lanes.specs.Lanes.{entry}
use Rattle.lbm_lanes.proofs.Advancing.{taken_is, left_fits}
use Rattle.lbm_lanes.proofs.Collided.{small_fits}
use Rattle.lbm_lanes.proofs.Outcome.{rest_is}
use Rattle.lbm_lanes.proofs.kernel.rest.Goals.{After-take-f}
use Rattle.lbm_lanes.proofs.kernel.rest.Goals as goal

own : (g : _) (c : After-take-f g) (A h : ℕ → ℕ → ℤ) → IsProgress g.V.VelocitySet.stencil (g.R.Rows.count c.args.rows.now) 27 A h (g.R.Rows.there c.args.rows.now) (g.R.Rows.sent c.args.rows.now) c.args.total → (l : ℕ) → h l 0 ≡ entry c.take-f.result l
own g c A h p l =
    let v = g.V.VelocitySet.stencil in let R = g.R.Rows in let rows = c.args.rows.now in let some = g.met.V.VelocitySet.laws.some_direction in
    taken_is (R.count rows) l (entry c.take-f.result l) (R.there rows 0 l) (h l 0) (c.take-f.ensures.cells l) (c.take-f.ensures.past l)
    (λ cell. p.underway.left 0 l some cell (omega (arith, turn_rest v))) (λ beyond. p.past 0 l some beyond)

pub signed-rho-requires : goal.signed-rho-requires
signed-rho-requires g c l lane = omega (arith, (c.requires.progress.1.ready l lane).sound.not_dense)

pub minus-left-requires-clause-first : goal.minus-left-requires-clause-first
minus-left-requires-clause-first g c l lane = omega (arith, ints, c.signed-rho.ensures l lane, (c.requires.progress.1.ready l lane).sound.not_dense)

pub minus-left-requires-clause-second : goal.minus-left-requires-clause-second
minus-left-requires-clause-second g c l lane = omega (arith, c.requires.progress.2.small l lane)

pub kept-own-requires-clause-first : goal.kept-own-requires-clause-first
kept-own-requires-clause-first g c l lane =
    left_fits (slice_index c.args.fluid.now.cells.rho l) (entry c.signed-rho.result l) (entry c.args.total l) (entry c.minus-left.result l) (c.signed-rho.ensures l lane) (c.minus-left.ensures l lane) (c.requires.progress.1.ready l lane).sound.not_dense (c.requires.progress.2.small l lane)

pub kept-own-requires-clause-rest : goal.kept-own-requires-clause-rest
kept-own-requires-clause-rest g c l lane =
    let here = (goal.at.kept-own-requires-clause-rest g c).After-take-f in let q = c.requires.progress in
    let size = subst (λ (z : ℤ). unsigned_abs z ≤ 2147483648) (own g here (after g.V.VelocitySet.stencil c.args.run.now.rates c.args.run.now.force (not (eqb g.row.MIXED 0)) c.args.fluid.now.flags.colliding c.args.fluid.now.flags.turning q.0) q.0 q.2 l) (q.1.small 0 l g.met.V.VelocitySet.laws.some_direction lane) in
    small_fits (entry c.take-f.result l) (omega (arith, size))

pub returns-clause-sent : goal.returns-clause-sent
returns-clause-sent g c h cells p =
    let v = g.V.VelocitySet.stencil in let laws = g.met.V.VelocitySet.laws in let here = (goal.at.returns-clause-sent g c).After-take-f in
    let R = g.R.Rows in let rows = c.args.rows.now in let one = c.put.new.self in let n = R.count rows in let k = c.args.fluid.now.flags in
    let A = after v c.args.run.now.rates c.args.run.now.force (not (eqb g.row.MIXED 0)) k.colliding k.turning h in
    let eight : (j : ℕ) → j < n → j < 8 = λ j cell. omega (arith, cell, c.count-count.ensures.value, c.count-count.ensures.few) in
    underway_all v n A h (R.there rows) (R.sent rows) (R.sent one) laws p.underway
    (λ j cell.
    let lane = eight j cell in let ready = cells.ready j lane in
    c.put.ensures.sent j cell ∙ rest_is v c.args.run.now.rates c.args.run.now.force (is_on (not (eqb g.row.MIXED 0)) (slice_index k.colliding j)) (nat_lt 0 (slice_index k.turning j)) (h j) (entry c.kept-own.result j) (entry c.minus-left.result j) (entry c.take-f.result j) (entry c.args.total j) (slice_index c.args.fluid.now.cells.rho j) laws
    (c.kept-own.ensures j lane) (c.minus-left.ensures j lane ∙ ap (λ (z : ℤ). z -ℤ entry c.args.total j) (c.signed-rho.ensures j lane)) (p.total_is j lane) (λ on. (ready.cell on).density_is) (own g here A h p j))
    (λ m j below off cell. c.put.ensures.still_sent m j below off cell)
