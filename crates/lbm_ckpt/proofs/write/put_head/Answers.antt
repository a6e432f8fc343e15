use Rattle.std.proofs.Common.{rules}
use Rattle.lbm_store.proofs.PutLemmas.{Puts-is}
use Rattle.lbm_ckpt.proofs.Hashing.{Takes-on_ok}
use Rattle.lbm_ckpt.proofs.Puts.{head_parts}
use Rattle.lbm_ckpt.proofs.write.put_head.Goals as goal

pub returns-clause-puts : goal.returns-clause-puts
returns-clause-puts g c =
    Puts-is g.K.Sink.state _ _ _ _ _
    (head_parts c.args.case_digest.now c.args.step c.args.space.now c.args.q c.as_slice.result.now c.as_slice-2.result.now c.as_slice-3.result.now c.as_slice-4.result.now (search rules) (search rules) (search rules) (search rules))
    c.put_parts.ensures.puts

pub returns-clause-hashes : goal.returns-clause-hashes
returns-clause-hashes g c =
    Takes-on_ok _ _ _ _ _
    (head_parts c.args.case_digest.now c.args.step c.args.space.now c.args.q c.as_slice.result.now c.as_slice-2.result.now c.as_slice-3.result.now c.as_slice-4.result.now (search rules) (search rules) (search rules) (search rules))
    c.put_parts.ensures.hashes
