-- The worked files, by computation.
use Rattle.std.proofs.Common.{refl}
use Rattle.lbm_model.specs.Worked.{two_levels}
use Rattle.lbm_number.specs.Number.{number_of}
use Rattle.lbm_voxel.specs.Text.{first_line, words}
use Rattle.lbm_voxel.specs.Head.{fits, heads, fitting, head_in, strange_word, number_at}
use Rattle.lbm_voxel.specs.Voxels.{after_line, body_of, density_at, densities_in, case_in, voxels_of}
use Rattle.lbm_voxel.specs.Worked.{even, TwoCells, Refused}

pub two_cells : TwoCells
unfolding two_levels even first_line words number_of fits heads fitting head_in strange_word number_at after_line body_of density_at densities_in case_in voxels_of
two_cells = record { accepted = refl; other_spelling = refl }

pub refused : Refused
unfolding two_levels even first_line words number_of fits heads fitting head_in strange_word number_at after_line body_of density_at densities_in case_in voxels_of
refused = record {
  no_bytes = refl;
  no_line_feed = refl;
  binary = refl;
  other_dataset = refl;
  float_values = refl;
  no_word = refl;
  too_wide = refl;
  not_plane = refl;
  other_count = refl;
  other_value = refl;
  missing_value = refl;
}
