use Rattle.std.proofs.Common.{◌≡◌, ℕ, ◌*◌, sym, ap, ◌∙◌, subst}
use Rattle.std.proofs.lemmas.List.{with_items_is}
use Rattle.lbm_space.specs.Torus.{Torus}
use Rattle.lbm_walk.specs.First.{IsFirst}
use Rattle.lbm_walk.proofs.Places.{width}
use Rattle.lbm_model.specs.Flow.{is_sound, post}
use Rattle.lbm_rows.specs.Lending.{TileModel, tile_of, InTile, IsReady, IsSameShape, taken, sent}
use Rattle.lbm_rows.proofs.tile.Tile.collide.Goals as goal

pub collide_kept-requires-clause-width : goal.collide_kept-requires-clause-width
collide_kept-requires-clause-width g c = width c.space.result.now c.sides.result c.sides.ensures.value ∙ ap (λ (t : Torus). t.nx) c.space.ensures.value

pub collide_kept-requires-clause-ready : goal.collide_kept-requires-clause-ready
collide_kept-requires-clause-ready g c =
    let rows : ℕ × ℕ = (c.self.inside.first, c.self.inside.end) in
    let fields : c.args.self.now ≡ tile_of rows c.as_mut_slice.result.now = sym c.self.view_is ∙ (λ j. tile_of rows (sym c.as_mut_slice.ensures.value j)) in
    subst (IsReady c.args.case.now c.args.t) fields c.requires.ready

pub returns-clause-first : goal.returns-clause-first
returns-clause-first g c =
    let rows : ℕ × ℕ = (c.self.inside.first, c.self.inside.end) in let case = c.args.case.now in
    let fields : tile_of rows c.as_mut_slice.result.now ≡ c.args.self.now = (λ j. tile_of rows (c.as_mut_slice.ensures.value j)) ∙ c.self.view_is in
    subst (λ (tile : TileModel). IsFirst (λ x. is_sound case x (taken case c.args.t tile x)) (tile.first * case.torus.nx) (tile.end * case.torus.nx) c.collide_kept.result) fields c.collide_kept.ensures.first

pub returns-clause-shape : goal.returns-clause-shape
returns-clause-shape g c =
    let rows : ℕ × ℕ = (c.self.inside.first, c.self.inside.end) in
    let fields : tile_of rows c.as_mut_slice.result.now ≡ c.args.self.now = (λ j. tile_of rows (c.as_mut_slice.ensures.value j)) ∙ c.self.view_is in
    let new = sym (with_items_is c.self.inside.kept c.collide_kept.new.kept (c.collide_kept.ensures.shape.count ∙ c.as_mut_slice.ensures.len)) in
    subst (λ (p : TileModel × TileModel). IsSameShape p.0 p.1) (λ j. (fields j, tile_of rows (new j))) c.collide_kept.ensures.shape

pub returns-clause-sent : goal.returns-clause-sent
returns-clause-sent g c = λ none x i at known.
    let rows : ℕ × ℕ = (c.self.inside.first, c.self.inside.end) in let case = c.args.case.now in
    let fields : tile_of rows c.as_mut_slice.result.now ≡ c.args.self.now = (λ j. tile_of rows (c.as_mut_slice.ensures.value j)) ∙ c.self.view_is in
    let new = sym (with_items_is c.self.inside.kept c.collide_kept.new.kept (c.collide_kept.ensures.shape.count ∙ c.as_mut_slice.ensures.len)) in
    subst (λ (p : TileModel × TileModel). sent case c.args.t p.1 x i ≡ post case x (taken case c.args.t p.0 x) i) (λ j. (fields j, tile_of rows (new j)))
    (c.collide_kept.ensures.sent none x i (subst (λ (tile : TileModel). InTile case tile x) (sym fields) at) known)
