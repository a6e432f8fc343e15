use Rattle.std.proofs.Common.{◌≡◌, ◌*◌, ◌<◌, length, slice_get, Some, ap, sym, ◌∙◌, arith}
use Rattle.std.specs.Prelude.{slice_index_or}
use Rattle.std.proofs.lemmas.List.{length-set, get_or-set_other}
use Rattle.std.proofs.lemmas.Option.{slice_get-get_or, slice_get_within}
use Rattle.lbm_space.specs.Stencil.{Stencil}
use Rattle.lbm_space.specs.Torus.{rows}
use Rattle.lbm_rows.specs.Lending.{TileModel, height}
use Rattle.lbm_rows.proofs.Cuts.{back_more, tiles_rows}
use Rattle.lbm_rows.proofs.returning.return_tiles.Goals as goal

pub put_back-requires-clause-inside : goal.put_back-requires-clause-inside
put_back-requires-clause-inside g c =
    let k = c.loop-k.k in let inv = c.loop-k.invariant in let d = c.index-tiles-k.result in let el : TileModel = slice_index_or c.loop-k.tiles k d in
    let below : k < length c.args.tiles.now = omega (arith, c.loop-k-test.true, inv.long) in
    let is : slice_get c.args.tiles.now k ≡ Some el = slice_get-get_or c.args.tiles.now k d below ∙ ap Some (sym (inv.rest k d (omega arith))) in
    (c.requires.tiles.at k el is).whole.inside

pub put_back-requires-clause-whole : goal.put_back-requires-clause-whole
put_back-requires-clause-whole g c =
    let k = c.loop-k.k in let inv = c.loop-k.invariant in let d = c.index-tiles-k.result in let el : TileModel = slice_index_or c.loop-k.tiles k d in
    let below : k < length c.args.tiles.now = omega (arith, c.loop-k-test.true, inv.long) in
    let is : slice_get c.args.tiles.now k ≡ Some el = slice_get-get_or c.args.tiles.now k d below ∙ ap Some (sym (inv.rest k d (omega arith))) in
    (c.requires.tiles.at k el is).whole.sized.count ∙ ap (λ (v : Stencil). v.directions * height el) c.requires.set

pub loop-k-preserved : goal.loop-k-preserved
loop-k-preserved g c =
    let case = c.args.case.now in let are = c.requires.tiles in
    let k = c.loop-k.k in let inv = c.loop-k.invariant in let d = c.index-tiles-k.result in let el : TileModel = slice_index_or c.loop-k.tiles k d in
    let below : k < length c.args.tiles.now = omega (arith, c.loop-k-test.true, inv.long) in
    let is : slice_get c.args.tiles.now k ≡ Some el = slice_get-get_or c.args.tiles.now k d below ∙ ap Some (sym (inv.rest k d (omega arith))) in
    record {
      count = c.put_back.ensures.count ∙ inv.count;
      long = length-set c.loop-k.tiles k c.put_back.new.self ∙ inv.long;
      rest = λ m e past. get_or-set_other c.loop-k.tiles k m c.put_back.new.self e (λ same. absurd (omega (arith, same, past))) ∙ inv.rest m e (omega (arith, past));
      back = λ m tile less there. back_more case c.requires.valid c.args.t c.put_back.new.kept are.n (length c.args.tiles.now) are.cut c.loop-k.kept k el below (are.at k el is) c.put_back.ensures.back c.put_back.ensures.others m tile less (are.at m tile there)
          (λ e. (let one : Some tile ≡ Some el = sym there ∙ ap (slice_get c.args.tiles.now) e ∙ is in cc)) (λ front. inv.back m tile front there);
    }

pub returns-clause-back : goal.returns-clause-back
returns-clause-back g c = λ k tile is.
    let inv = c.loop-k.invariant in let within = slice_get_within c.args.tiles.now k tile is in let past = c.loop-k-test.false in let end = c.loop-k.auto.k-end in
    inv.back k tile (omega (arith, within, past, end, inv.long)) is

pub returns-clause-rows : goal.returns-clause-rows
returns-clause-rows g c =
    let case = c.args.case.now in let inv = c.loop-k.invariant in let past = c.loop-k-test.false in let end = c.loop-k.auto.k-end in
    tiles_rows case c.requires.valid c.args.t c.loop-k.kept c.args.tiles.now c.requires.tiles
    (inv.count ∙ c.requires.count ∙ ap (λ (v : Stencil). v.directions * rows case.torus) (sym c.requires.set))
    (λ k tile is. let within = slice_get_within c.args.tiles.now k tile is in inv.back k tile (omega (arith, within, past, end, inv.long)) is)
