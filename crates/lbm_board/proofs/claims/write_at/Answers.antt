use Rattle.std.proofs.Common.{◌<◌, length, get_or, arith, length-set, ◌∙◌}
use Rattle.lbm_board.proofs.Written.{written_more, kept_more}
use Rattle.lbm_board.proofs.claims.write_at.Goals as goal

pub loop-place-preserved : goal.loop-place-preserved
loop-place-preserved g c =
    let h = c.loop-place.invariant in
    let now = c.loop-place.list.items in
    let inside : c.loop-place.place-index < length c.args.places.now = omega arith in
    let long = h.long in
    let there : get_or c.args.places.now c.loop-place.place-index 0 < length now = let below = c.requires c.loop-place.place-index 0 inside in omega arith in
    record {
      long = length-set now (get_or c.args.places.now c.loop-place.place-index 0) c.args.value ∙ h.long;
      written = written_more c.args.list.now.items now c.args.value c.args.places.now c.loop-place.place-index inside there h.written;
      kept = kept_more c.args.list.now.items now c.args.value c.args.places.now c.loop-place.place-index inside there h.kept;
    }
