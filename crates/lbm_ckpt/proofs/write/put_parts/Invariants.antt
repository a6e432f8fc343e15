use Rattle.std.proofs.Common.{take}
use Rattle.std.specs.List.{flat_map}
use Rattle.lbm_store.specs.Pieces.{Puts}
use Rattle.lbm_store.proofs.PutLemmas.{done}
use Rattle.lbm_ckpt.specs.Hashing.{Takes}
use Rattle.lbm_ckpt.proofs.write.put_parts.Given as goal

-- those so far were put, and taken into the digest
abbrev pub invariant-loop-part : goal.invariant-loop-part
invariant-loop-part g l = record {
  puts : Puts g.K.Sink.state l.initial.pieces l.pieces done (flat_map (λ part. part.now) (take l.part-index l.parts));
  hashes : Takes l.initial.hasher l.hasher (flat_map (λ part. part.now) (take l.part-index l.parts));
}
