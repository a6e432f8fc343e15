use Rattle.std.proofs.Common.{◌≡◌, take}
use Rattle.lbm_model.proofs.lattice.Lattice.state.Given as goal

abbrev pub invariant-loop-k : goal.invariant-loop-k
invariant-loop-k g l = l.pops.items ≡ take l.k (g.Self.Lattice.standing l.self).state.numbers
