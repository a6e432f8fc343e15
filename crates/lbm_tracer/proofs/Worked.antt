-- The worked cases, by computation.
use Rattle.std.proofs.Common.{refl}
use Rattle.lbm_tracer.specs.Worked.{two_cells, TwoCells, fast_cell, FastCell, walled_cell, WalledCell, cell_in_space, CellInSpace}

pub spread : TwoCells
unfolding two_cells
spread = record { at_first = refl; elsewhere = refl; after_one = refl; after_two = refl; total = refl; run_of_two = refl }

pub driven : FastCell
unfolding fast_cell
driven = record { against = refl; out_of_range = refl }

pub walled : WalledCell
unfolding walled_cell
walled = record { into_the_wall = refl; in_the_wall = refl; total = refl }

pub in_space : CellInSpace
unfolding cell_in_space
in_space = record { at_first = refl; after_one = refl }
