use Rattle.std.proofs.Common.{◌≡◌, ℕ, ◌*◌, ◌<◌, ◌≤◌, [], length, sym, ap, ◌∙◌, subst}
use Rattle.std.specs.Prelude.{slice_index_or}
use Rattle.lbm_space.specs.Torus.{rows}
use Rattle.lbm_rows.specs.Lending.{TileModel, tile_of, height, entry_number}
use Rattle.lbm_rows.proofs.tile.Tile.put_back.Goals as goal

pub put_back-requires-clause-inside : goal.put_back-requires-clause-inside
put_back-requires-clause-inside g c = subst (λ (tile : TileModel). tile.end ≤ rows c.args.case.now.torus) (sym c.self.view_is) c.requires.inside

pub put_back-requires-clause-whole : goal.put_back-requires-clause-whole
put_back-requires-clause-whole g c =
    ap length c.as_mut_slice.ensures.value ∙ subst (λ (tile : TileModel). length tile.kept ≡ g.V.VelocitySet.stencil.directions * height tile) (sym c.self.view_is) c.requires.whole

pub returns-clause-back : goal.returns-clause-back
returns-clause-back g c =
    let bounds : ℕ × ℕ = (c.self.inside.first, c.self.inside.end) in
    let fields : tile_of bounds c.as_mut_slice.result.now ≡ c.args.self.now = (λ j. tile_of bounds (c.as_mut_slice.ensures.value j)) ∙ c.self.view_is in
    subst (λ (tile : TileModel). (j : ℕ) → j < length tile.kept → slice_index_or c.put_back.new.kept (entry_number c.args.case.now c.args.t (tile.first, tile.end) j) [] ≡ slice_index_or tile.kept j []) fields c.put_back.ensures.back

pub returns-clause-others : goal.returns-clause-others
returns-clause-others g c =
    let bounds : ℕ × ℕ = (c.self.inside.first, c.self.inside.end) in
    let fields : tile_of bounds c.as_mut_slice.result.now ≡ c.args.self.now = (λ j. tile_of bounds (c.as_mut_slice.ensures.value j)) ∙ c.self.view_is in
    subst (λ (tile : TileModel). (m : ℕ) → ((j : ℕ) → j < length tile.kept → m ≡ entry_number c.args.case.now c.args.t (tile.first, tile.end) j → ⊥) → slice_index_or c.put_back.new.kept m [] ≡ slice_index_or c.args.kept.now m []) fields c.put_back.ensures.others
