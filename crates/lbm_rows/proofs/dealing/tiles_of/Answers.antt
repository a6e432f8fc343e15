use Rattle.std.proofs.Common.{◌≡◌, ℕ, ◌*◌, min, ap, sym, ◌∙◌, subst, arith}
use Rattle.lbm_space.specs.Torus.{rows}
use Rattle.lbm_rows.specs.Tiles.{IsCut}
use Rattle.lbm_rows.proofs.StepMade.{cut_by}
use Rattle.lbm_rows.proofs.dealing.tiles_of.Goals as goal

pub lend_all-requires-clause-cut : goal.lend_all-requires-clause-cut
lend_all-requires-clause-cut g c =
    let total : c.rows-rows.result ≡ rows c.args.case.now.torus = c.rows-rows.ensures.count ∙ ap rows c.space.ensures.value in
    subst (λ (p : ℕ × ℕ). IsCut p.0 c.args.per_tile p.1) (λ j. (total j, (sym c.div_ceil-tiles.ensures ∙ sym c.in_ok-rooms.ensures.0) j)) (cut_by c.rows-rows.result c.args.per_tile c.requires.some)

pub lend_all-requires-clause-rooms : goal.lend_all-requires-clause-rooms
lend_all-requires-clause-rooms g c k d below =
    let total : c.rows-rows.result ≡ rows c.args.case.now.torus = c.rows-rows.ensures.count ∙ ap rows c.space.ensures.value in
    let q : c.Q.result ≡ g.V.VelocitySet.stencil.directions = c.Q.ensures ∙ g.met.V.VelocitySet.constants.0 in
    let room = c.in_ok-rooms.ensures.1 k d below in
    let wide : c.Q.result * c.min.result ≡ g.V.VelocitySet.stencil.directions * min c.args.per_tile (rows c.args.case.now.torus) = (λ j. q j * (c.min.ensures ∙ ap (λ (r : ℕ). min c.args.per_tile r) total) j) in
    omega (arith, room, wide)
