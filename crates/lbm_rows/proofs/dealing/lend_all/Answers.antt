use Rattle.std.proofs.Common.{rules, ◌≡◌, ℕ, ◌-◌, ◌*◌, ◌<◌, ◌≤◌, min, List, [], length, Some, slice_get, ap, sym, ◌∙◌, subst, arith}
use Rattle.std.specs.Prelude.{slice_index_or}
use Rattle.std.proofs.lemmas.List.Elements.{All-pop}
use Rattle.std.proofs.lemmas.Nat.{mul-le}
use Rattle.lbm_space.specs.Stencil.{Stencil}
use Rattle.lbm_space.specs.Torus.{rows}
use Rattle.lbm_rows.specs.declared.dealing.TileRoom.{TileRoom}
use Rattle.lbm_rows.specs.Lending.{TileModel, entry_number, IsLent}
use Rattle.lbm_rows.specs.Tiles.{tile_bounds, IsCut}
use Rattle.lbm_rows.proofs.Cuts.{pushed_at, lent_first, left_more}
use Rattle.lbm_rows.proofs.dealing.lend_all.Goals as goal

pub lend_tile-requires-clause-capacity : goal.lend_tile-requires-clause-capacity
lend_tile-requires-clause-capacity g c =
    let q = g.V.VelocitySet.stencil.directions in let all = rows c.args.case.now.torus in let b = c.bounds_of-bounds.result in
    let count : c.rows-rows.result ≡ all = c.rows-rows.ensures.count ∙ ap rows c.space.ensures.value in
    let room = (All-pop (λ (r : TileRoom). q * min c.args.per_tile all ≤ r.room) c.loop-room.rooms.items c.pop.new.self.items (Some c.in-Some.room) c.in-Some.ensures.items c.loop-room.invariant.rooms).1 in
    let few = c.bounds_of-bounds.ensures.few in let inside = c.bounds_of-bounds.ensures.inside in let fits = c.in-Some.room.fits in
    let tall : b.1 - b.0 ≤ min c.args.per_tile all = omega (arith, few, inside, count) in
    let less = mul-le q (b.1 - b.0) q (min c.args.per_tile all) (omega arith) tall in
    omega (arith, less, room, fits)

pub loop-room-preserved : goal.loop-room-preserved
loop-room-preserved g c =
    let case = c.args.case.now in let n = c.args.per_tile in let all = rows case.torus in let inv = c.loop-room.invariant in let done = c.loop-room.k in let count : ℕ = length c.args.rooms.items in
    let total : c.rows-rows.result ≡ all = c.rows-rows.ensures.count ∙ ap rows c.space.ensures.value in
    let bounds : c.bounds_of-bounds.result ≡ tile_bounds all n done = c.bounds_of-bounds.ensures.value ∙ ap (λ (r : ℕ). tile_bounds r n done) total in
    let q : g.V.VelocitySet.stencil.directions ≡ case.stencil.directions = ap (λ (v : Stencil). v.directions) (sym c.requires.set) in
    let tile = c.lend_tile.result in let first = c.args.kept.now in let now = c.loop-room.kept in let new = c.lend_tile.new.kept in
    let below : done < count = search rules in
    let same : (tile.first, tile.end) ≡ tile_bounds all n done = (λ j. (c.lend_tile.ensures.rows.0 j, c.lend_tile.ensures.rows.1 j)) ∙ bounds in
    let here : IsLent case c.args.t first tile × ((tile.first, tile.end) ≡ tile_bounds all n done) =
    (lent_first case c.requires.valid c.args.t n count c.requires.cut first now done below inv.others tile same c.lend_tile.ensures.lent, same) in
    let others = subst (λ (p : ℕ × ℕ × ℕ). (m : ℕ) → ((j : ℕ) → j < p.0 * (p.2 - p.1) → m ≡ entry_number case c.args.t (p.1, p.2) j → ⊥) → slice_index_or new m [] ≡ slice_index_or now m []) (λ j. (q j, (bounds j).0, (bounds j).1)) c.lend_tile.ensures.others in
    record {
      count = c.lend_tile.ensures.count ∙ inv.count;
      number = search rules;
      left = search rules;
      rooms = (All-pop (λ (r : TileRoom). g.V.VelocitySet.stencil.directions * min n all ≤ r.room) c.loop-room.rooms.items c.pop.new.self.items (Some c.in-Some.room) c.in-Some.ensures.items inv.rooms).0;
      space = search rules;
      lent = λ k one is. pushed_at (λ (m : ℕ) (t : TileModel). IsLent case c.args.t first t × ((t.first, t.end) ≡ tile_bounds all n m)) c.loop-room.list.items tile inv.lent
          (subst (λ (m : ℕ). IsLent case c.args.t first tile × ((tile.first, tile.end) ≡ tile_bounds all n m)) inv.number here) k one
          (subst (λ (l : List TileModel). slice_get l k ≡ Some one) c.push_reserved.ensures.items is);
      others = left_more case c.requires.valid c.args.t n count c.requires.cut first now done below inv.others new others;
    }

pub returns-clause-lent : goal.returns-clause-lent
returns-clause-lent g c =
    let inv = c.loop-room.invariant in
    let none : length c.loop-room.rooms.items ≡ 0 = search rules in
    let many : length c.args.rooms.items ≡ length c.loop-room.list.items = omega (arith, none, inv.left, inv.number) in record {
      cut = subst (IsCut (rows c.args.case.now.torus) c.args.per_tile) many c.requires.cut;
      lent = λ k tile is. (inv.lent k tile is).0;
      bounds = λ k tile is. (inv.lent k tile is).1;
    }
