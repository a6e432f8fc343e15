use Rattle.std.proofs.Common.{◌≡◌, List, ℕ, ◌++◌, length}
use Rattle.lbm_store.specs.Pieces.{Puts}
use Rattle.lbm_store.proofs.PutLemmas.{done}
use Rattle.lbm_store.proofs.pieces.Pieces.put.Given as goal

-- a front of the bytes was put, and the rest is left
abbrev pub invariant-loop-self : goal.invariant-loop-self
invariant-loop-self g l = (front : List ℕ) × (l.bytes ≡ front ++ l.rest) × Puts g.K.Sink.state l.initial.self l.self done front

abbrev pub decreases-loop-self : goal.decreases-loop-self
decreases-loop-self g l = length l.rest
