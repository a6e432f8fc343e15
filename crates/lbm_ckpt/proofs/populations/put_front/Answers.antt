use Rattle.std.proofs.Common.{rules, ◌≡◌, get_or, pos, ap, ◌∙◌, arith, FitsSigned, of_z}
use Rattle.std.specs.Int.{w32, to_be_bytes}
use Rattle.std.proofs.lemmas.Int.{to_z-of_z}
use Rattle.std.proofs.lemmas.Slice.{overwrites}
use Rattle.lbm_ckpt.specs.Ckpt.{population_bytes}
use Rattle.lbm_ckpt.proofs.Puts.{put_more}
use Rattle.lbm_ckpt.proofs.populations.put_front.Goals as goal

pub loop-pop-preserved : goal.loop-pop-preserved
loop-pop-preserved c =
    let fits : FitsSigned w32 (get_or c.args.pops.now c.loop-pop.pop-index (pos 0)) = search rules in
    let piece : c.copy_from_slice.new.self ≡ population_bytes (get_or c.args.pops.now c.loop-pop.pop-index (pos 0)) =
    c.copy_from_slice.ensures.after ∙ c.to_be_bytes.ensures ∙ ap (λ z. to_be_bytes w32 (of_z w32 z)) (to_z-of_z w32 (get_or c.args.pops.now c.loop-pop.pop-index (pos 0)) fits) in
    record {
      len = search (rules, overwrites);
      at = omega (arith, c.loop-pop.invariant.at);
      put = put_more c.loop-pop.front _ c.args.pops.now c.loop-pop.at c.loop-pop.pop-index _ (omega (arith, c.loop-pop.invariant.at, c.loop-pop.invariant.len, c.requires)) c.loop-pop-test.true c.loop-pop.invariant.put piece;
    }
