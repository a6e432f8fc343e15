use Rattle.lbm_grid.specs.Near.{AreBetween}
use Rattle.lbm_grid.proofs.reading.bounds.Given as goal

abbrev pub invariant-loop-k : goal.invariant-loop-k
invariant-loop-k g l = record { between : AreBetween l.k l.least l.most l.readings }
