use Rattle.std.proofs.Common.{take}
use Rattle.std.specs.List.{flat_map}
use Rattle.lbm_store.specs.Pieces.{Puts}
use Rattle.lbm_store.proofs.PutLemmas.{done}
use Rattle.lbm_vtk.specs.Vtk.{density, row}
use Rattle.lbm_vtk.proofs.put_densities.Given as goal

-- those so far were put
abbrev pub invariant-loop-cell : goal.invariant-loop-cell
invariant-loop-cell g l = Puts g.K.Sink.state l.initial.pieces l.pieces done (flat_map (λ cell. row l.format (density cell)) (take l.cell-index l.cells))
