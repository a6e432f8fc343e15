use Rattle.std.proofs.Common.{◌≡◌, ℕ, ◌*◌, ◌<◌, [], length, slice_get, Some, ap, sym, ◌∙◌, subst, arith}
use Rattle.std.specs.Prelude.{Option, IfSome, slice_index_or}
use Rattle.std.proofs.lemmas.List.{length-set, get_or-set_other}
use Rattle.std.proofs.lemmas.Option.{get_or_from_slice_get, slice_get_within}
use Rattle.lbm_space.specs.Stencil.{Stencil}
use Rattle.lbm_space.specs.Torus.{rows}
use Rattle.lbm_rows.specs.Lending.{TileModel, entry_number, IsTile}
use Rattle.lbm_rows.specs.Tiles.{IsTileAt}
use Rattle.lbm_rows.proofs.Cuts.{back_more, pieces_rows}
use Rattle.lbm_rows.proofs.returning.return_pieces.Goals as goal

pub return_piece-requires-clause-whole : goal.return_piece-requires-clause-whole
return_piece-requires-clause-whole g c =
    let k = c.loop-k.k in let inv = c.loop-k.invariant in let d = c.index-pieces-k.result in
    let below : k < length c.args.pieces.now = omega (arith, c.loop-k-test.true, inv.long) in let at = c.requires.pieces.at k below in
    let is : slice_index_or c.loop-k.pieces k d ≡ Some at.0 = inv.rest k d (omega arith) ∙ get_or_from_slice_get c.args.pieces.now k (Some at.0) d at.1 in
    subst (λ (e : Option TileModel). IfSome e (IsTile c.args.case.now)) (sym is) at.2.whole

pub loop-k-preserved : goal.loop-k-preserved
loop-k-preserved g c =
    let case = c.args.case.now in let are = c.requires.pieces in let new = c.return_piece.new.kept in let now = c.loop-k.kept in
    let k = c.loop-k.k in let inv = c.loop-k.invariant in let d = c.index-pieces-k.result in
    let below : k < length c.args.pieces.now = omega (arith, c.loop-k-test.true, inv.long) in let at = are.at k below in
    let is : slice_index_or c.loop-k.pieces k d ≡ Some at.0 = inv.rest k d (omega arith) ∙ get_or_from_slice_get c.args.pieces.now k (Some at.0) d at.1 in
    let back = subst (λ (e : Option TileModel). IfSome e (λ tile. (j : ℕ) → j < length tile.kept → slice_index_or new (entry_number case c.args.t (tile.first, tile.end) j) [] ≡ slice_index_or tile.kept j [])) is c.return_piece.ensures.back in
    let others = subst (λ (e : Option TileModel). IfSome e (λ tile. (m : ℕ) → ((j : ℕ) → j < length tile.kept → m ≡ entry_number case c.args.t (tile.first, tile.end) j → ⊥) → slice_index_or new m [] ≡ slice_index_or now m [])) is c.return_piece.ensures.others in
    record {
      count = c.return_piece.ensures.count ∙ inv.count;
      long = length-set c.loop-k.pieces k c.return_piece.new.piece ∙ inv.long;
      rest = λ m e past. get_or-set_other c.loop-k.pieces k m c.return_piece.new.piece e (λ same. absurd (omega (arith, same, past))) ∙ inv.rest m e (omega (arith, past));
      back = λ m tile less there. (let here = are.at m (slice_get_within c.args.pieces.now m (Some tile) there) in let same : here.0 ≡ tile = (let e : Some (Some here.0) ≡ Some (Some tile) = sym here.1 ∙ there in cc) in
          back_more case c.requires.valid c.args.t new are.n (length c.args.pieces.now) are.cut now k at.0 below at.2 back others m tile less (subst (IsTileAt case are.n m) same here.2)
          (λ e. (let one : Some (Some tile) ≡ Some (Some at.0) = sym there ∙ ap (slice_get c.args.pieces.now) e ∙ at.1 in cc)) (λ front. inv.back m tile front there));
    }

pub returns-clause-back : goal.returns-clause-back
returns-clause-back g c = λ k tile is.
    let inv = c.loop-k.invariant in let within = slice_get_within c.args.pieces.now k (Some tile) is in let past = c.loop-k-test.false in let end = c.loop-k.auto.k-end in
    inv.back k tile (omega (arith, within, past, end, inv.long)) is

pub returns-clause-rows : goal.returns-clause-rows
returns-clause-rows g c =
    let case = c.args.case.now in let inv = c.loop-k.invariant in let past = c.loop-k-test.false in let end = c.loop-k.auto.k-end in
    pieces_rows case c.requires.valid c.args.t c.loop-k.kept c.args.pieces.now c.requires.pieces
    (inv.count ∙ c.requires.count ∙ ap (λ (v : Stencil). v.directions * rows case.torus) (sym c.requires.set))
    (λ k tile is. let within = slice_get_within c.args.pieces.now k (Some tile) is in inv.back k tile (omega (arith, within, past, end, inv.long)) is)
