use Rattle.std.proofs.Common.{◌≡◌, List, ℤ, ◌++◌, length}
use Rattle.std.specs.List.{flat_map}
use Rattle.lbm_store.specs.Pieces.{Puts}
use Rattle.lbm_store.proofs.PutLemmas.{done}
use Rattle.lbm_ckpt.specs.Ckpt.{population_bytes}
use Rattle.lbm_ckpt.specs.Hashing.{Takes}
use Rattle.lbm_ckpt.proofs.write.put_populations.Given as goal

-- a front of the populations was put and taken into the digest, and the rest is left
abbrev pub invariant-loop-rest : goal.invariant-loop-rest
invariant-loop-rest g l = (front : List ℤ) × (l.pops ≡ front ++ l.rest)
    × Puts g.K.Sink.state l.initial.pieces l.pieces done (flat_map population_bytes front)
    × Takes l.initial.hasher l.hasher (flat_map population_bytes front)

abbrev pub decreases-loop-rest : goal.decreases-loop-rest
decreases-loop-rest g l = length l.rest
