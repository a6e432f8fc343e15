use Rattle.std.proofs.Common.{◌≡◌, ℕ, ◌-◌, ◌*◌, ◌<◌, ◌≤◌, ℤ, unsigned_abs, refl, sym, ap, ◌∙◌, subst, arith}
use Rattle.lbm_space.specs.Stencil.{Stencil}
use Rattle.lbm_space.specs.Torus.{cells}
use Rattle.lbm_walk.specs.First.{IsFirst}
use Rattle.lbm_model.specs.Case.{FlowCase}
use Rattle.lbm_model.specs.Flow.{is_sound, post}
use Rattle.lbm_model.specs.Small.{size_limit}
use Rattle.lbm_sweep.proofs.Places.{cells_between}
use Rattle.lbm_rows.specs.TileRows.{taken_by, sent_by, AreWays, AreTakenBy, HasRows, IsExchange}
use Rattle.lbm_rows.specs.Lending.{tile_of, height, taken}
use Rattle.lbm_rows.proofs.Touching.{sent_is}
use Rattle.lbm_rows.proofs.TileCells.{known_cells, few_of_tile, tile_exchange, tile_rows, tile_small, tile_taken}
use Rattle.lbm_rows.proofs.tile.collide_kept.Goals as goal

pub collide_rows-requires-clause-known : goal.collide_rows-requires-clause-known
collide_rows-requires-clause-known g c =
    let case = c.args.case.now in let width = c.requires.width in let rule = c.of-rule.ensures in
    subst (λ (p : ℕ × FlowCase). c.args.rows.1 * p.0 ≤ cells p.1.torus) (λ j. (sym width j, sym rule j)) (known_cells case c.requires.valid c.args.t (tile_of c.args.rows c.args.kept.now) c.requires.ready)

pub collide_rows-requires-clause-fits : goal.collide_rows-requires-clause-fits
collide_rows-requires-clause-fits g c =
    let few = few_of_tile c.args.case.now c.requires.valid c.args.t (tile_of c.args.rows c.args.kept.now) c.requires.ready in
    let same = ap (λ (n : ℕ). c.args.rows.1 * n) c.requires.width in omega (arith, few, same)

pub collide_rows-requires-clause-tile : goal.collide_rows-requires-clause-tile
collide_rows-requires-clause-tile g c =
    let ways : AreWays c.args.case.now.stencil c.args.t (height (tile_of c.args.rows c.args.kept.now)) c.at-ways.result = subst (λ (v : Stencil). AreWays v c.args.t (c.args.rows.1 - c.args.rows.0) c.at-ways.result) (sym c.requires.set) c.at-ways.ensures in
    subst (λ (p : Stencil × ℕ). HasRows p.0 c.at-ways.result (c.args.rows.1 - c.args.rows.0) p.1 c.args.kept.now) (λ j. (c.requires.set j, sym c.requires.width j))
    (tile_rows c.args.case.now c.requires.valid c.args.t (tile_of c.args.rows c.args.kept.now) c.requires.ready c.at-ways.result ways)

pub collide_rows-requires-clause-exchange : goal.collide_rows-requires-clause-exchange
collide_rows-requires-clause-exchange g c =
    let ways : AreWays c.args.case.now.stencil c.args.t (height (tile_of c.args.rows c.args.kept.now)) c.at-ways.result = subst (λ (v : Stencil). AreWays v c.args.t (c.args.rows.1 - c.args.rows.0) c.at-ways.result) (sym c.requires.set) c.at-ways.ensures in
    subst (λ (v : Stencil). IsExchange v c.at-ways.result) c.requires.set (tile_exchange c.args.case.now c.requires.valid c.args.t (tile_of c.args.rows c.args.kept.now) c.requires.ready c.at-ways.result ways)

pub collide_rows-requires-clause-small : goal.collide_rows-requires-clause-small
collide_rows-requires-clause-small g c = λ x i low high known.
    let ways : AreWays c.args.case.now.stencil c.args.t (height (tile_of c.args.rows c.args.kept.now)) c.at-ways.result = subst (λ (v : Stencil). AreWays v c.args.t (c.args.rows.1 - c.args.rows.0) c.at-ways.result) (sym c.requires.set) c.at-ways.ensures in
    let rows = c.args.rows in let width = c.requires.width in
    subst (λ (p : ℕ × FlowCase). unsigned_abs (taken_by c.args.kept.now c.at-ways.result rows.0 p.0 x i) ≤ size_limit p.1 x) (λ j. (sym width j, sym c.of-rule.ensures j))
    (tile_small c.args.case.now c.requires.valid c.args.t (tile_of rows c.args.kept.now) c.requires.ready c.at-ways.result ways x i
    (subst (λ (n : ℕ). rows.0 * n ≤ x) width low) (subst (λ (n : ℕ). x < rows.1 * n) width high) (subst (λ (v : Stencil). i < v.directions) (sym c.requires.set) known))

pub returns-clause-shape : goal.returns-clause-shape
returns-clause-shape g c = record { first = refl; end = refl; count = c.collide_rows.ensures.count; lengths = λ j below. c.collide_rows.ensures.lengths j }

pub returns-clause-first : goal.returns-clause-first
returns-clause-first g c =
    let ways : AreWays c.args.case.now.stencil c.args.t (height (tile_of c.args.rows c.args.kept.now)) c.at-ways.result = subst (λ (v : Stencil). AreWays v c.args.t (c.args.rows.1 - c.args.rows.0) c.at-ways.result) (sym c.requires.set) c.at-ways.ensures in
    let agree : AreTakenBy g.V.VelocitySet.stencil.directions c.args.kept.now c.at-ways.result c.args.rows c.args.width (taken c.args.case.now c.args.t (tile_of c.args.rows c.args.kept.now)) =
    subst (λ (p : Stencil × ℕ). AreTakenBy p.0.directions c.args.kept.now c.at-ways.result c.args.rows p.1 (taken c.args.case.now c.args.t (tile_of c.args.rows c.args.kept.now))) (λ j. (c.requires.set j, sym c.requires.width j))
    (tile_taken c.args.case.now c.requires.valid c.args.t (tile_of c.args.rows c.args.kept.now) c.requires.ready c.at-ways.result ways) in
    let case = c.args.case.now in let f : ℕ → ℕ → ℤ = taken case c.args.t (tile_of c.args.rows c.args.kept.now) in
    subst (λ (p : ℕ × FlowCase). IsFirst (λ x. is_sound p.1 x (f x)) (c.args.rows.0 * p.0) (c.args.rows.1 * p.0) c.collide_rows.result) (λ j. (c.requires.width j, c.of-rule.ensures j)) (c.collide_rows.ensures.first f agree)

pub returns-clause-sent : goal.returns-clause-sent
returns-clause-sent g c = λ none x i at known.
    let ways : AreWays c.args.case.now.stencil c.args.t (height (tile_of c.args.rows c.args.kept.now)) c.at-ways.result = subst (λ (v : Stencil). AreWays v c.args.t (c.args.rows.1 - c.args.rows.0) c.at-ways.result) (sym c.requires.set) c.at-ways.ensures in
    let agree : AreTakenBy g.V.VelocitySet.stencil.directions c.args.kept.now c.at-ways.result c.args.rows c.args.width (taken c.args.case.now c.args.t (tile_of c.args.rows c.args.kept.now)) =
    subst (λ (p : Stencil × ℕ). AreTakenBy p.0.directions c.args.kept.now c.at-ways.result c.args.rows p.1 (taken c.args.case.now c.args.t (tile_of c.args.rows c.args.kept.now))) (λ j. (c.requires.set j, sym c.requires.width j))
    (tile_taken c.args.case.now c.requires.valid c.args.t (tile_of c.args.rows c.args.kept.now) c.requires.ready c.at-ways.result ways) in
    let case = c.args.case.now in let rows = c.args.rows in let f : ℕ → ℕ → ℤ = taken case c.args.t (tile_of rows c.args.kept.now) in let new = c.collide_rows.new.kept in let w = c.at-ways.result in
    let between = cells_between case.torus c.requires.valid.space rows x at in
    sym (sent_is case c.requires.valid c.args.t (tile_of rows new) w ways x i known)
    ∙ subst (λ (p : ℕ × FlowCase). sent_by new w rows.0 p.0 x i ≡ post p.1 x (f x) i) (λ j. (c.requires.width j, c.of-rule.ensures j))
    (c.collide_rows.ensures.sent f agree none x i (subst (λ (n : ℕ). rows.0 * n ≤ x) (sym c.requires.width) between.0) (subst (λ (n : ℕ). x < rows.1 * n) (sym c.requires.width) between.1) (subst (λ (v : Stencil). i < v.directions) c.requires.set known))
