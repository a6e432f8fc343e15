-- The file of a tracer.
use Rattle.std.specs.Prelude.{ℕ, ℤ, List, codes}
use Rattle.lbm_space.specs.Torus.{Torus}
use Rattle.lbm_vtk.specs.Vtk.{scalars}

-- the file of a space at a step, with the amounts of its cells in the order of their numbers
abbrev pub trace : Torus → ℕ → List ℤ → List ℕ
trace space step amounts = scalars space (codes "lattice Boltzmann tracer step ") step (codes "tracer") amounts
