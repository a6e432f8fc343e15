use Rattle.std.proofs.Common.{[], ◌∷◌, take}
use Rattle.std.specs.List.{flat_map}
use Rattle.lbm_store.specs.Pieces.{Puts}
use Rattle.lbm_store.proofs.PutLemmas.{done}
use Rattle.lbm_vtk.specs.declared.Format.TheVariants.{Ascii}
use Rattle.lbm_vtk.specs.Vtk.{row}
use Rattle.lbm_vtk.proofs.put_numbers.Given as goal

-- those so far were put
abbrev pub invariant-loop-number : goal.invariant-loop-number
invariant-loop-number g l = Puts g.K.Sink.state l.initial.pieces l.pieces done (flat_map (λ number. row Ascii (number ∷ [])) (take l.number-index l.numbers))
