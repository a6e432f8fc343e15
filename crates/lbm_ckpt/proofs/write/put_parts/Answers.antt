use Rattle.std.proofs.Common.{List, ℕ, rules}
use Rattle.std.specs.Borrow.{Bor}
use Rattle.std.proofs.lemmas.Result.{err_from_is_err_and}
use Rattle.lbm_store.proofs.PutLemmas.{Puts-none, Puts-next_item, Puts-cut_item}
use Rattle.lbm_ckpt.proofs.Hashing.{Takes-none, Takes-then, Takes-is}
use Rattle.lbm_ckpt.proofs.Puts.{one_more}
use Rattle.lbm_ckpt.proofs.write.put_parts.Goals as goal

abbrev text : Bor (List ℕ) → List ℕ
text part = part.now

pub loop-part-init : goal.loop-part-init
loop-part-init g c = record { puts = Puts-none _ _; hashes = Takes-none _ }

pub returns-in_err-put_part-clause-puts : goal.returns-in_err-put_part-clause-puts
returns-in_err-put_part-clause-puts g c =
    let p = err_from_is_err_and c.from_residual.result c.from_residual.ensures.1 in
    rw (p.1, p.2) (Puts-cut_item _ text _ _ _ _ c.args.parts.now c.loop-part.part-index _ (search rules) c.loop-part.invariant.puts c.in_err-put_part.ensures.puts)

pub loop-part-preserved : goal.loop-part-preserved
loop-part-preserved g c = record {
  puts = Puts-next_item _ text _ _ _ _ c.args.parts.now c.loop-part.part-index _ (search rules) c.loop-part.invariant.puts c.in_ok-put_part.ensures.puts;
  hashes = Takes-is _ _ _ _ (one_more text c.args.parts.now c.loop-part.part-index _ (search rules)) (Takes-then _ _ _ _ _ c.loop-part.invariant.hashes c.put_part.ensures.hashes);
}
