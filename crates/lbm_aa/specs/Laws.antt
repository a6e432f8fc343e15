-- The arrays have the same sizes at all times.
use Rattle.std.proofs.Common.{◌≡◌, ℕ, ◌+◌, ◌%◌, nat_eq, Bool, true, false, refl, sym, ◌∙◌, arith}
use Rattle.std.specs.Prelude.{if◌then◌else◌}
use Rattle.lbm_model.specs.declared.layout.Layout.{Layout}
use Rattle.lbm_model.specs.Case.{FlowCase}
use Rattle.lbm_model.specs.Layout.{aa_layout}
use Rattle.lbm_arrays.specs.Arrays.{Arrays}
use Rattle.lbm_sweep.specs.Lattices.{IsLaidOut}
use Rattle.lbm_lattice.specs.InPlace.{own_layout, turned_layout}

abbrev pub layout_of : Bool → Layout
layout_of even = if even then own_layout else turned_layout

room : (even : Bool) → ((layout_of even).margin ≡ 2) × ((layout_of even).base ≡ 1)
room true = (refl, refl)
room false = (refl, refl)

pub still_laid : (case : FlowCase) (time : ℕ) (region : Arrays) → IsLaidOut case (aa_layout time) region → IsLaidOut case (aa_layout (time + 1)) region
still_laid case time region laid =
    let now = room (nat_eq (time % 2) 0) in let later = room (nat_eq ((time + 1) % 2) 0) in record {
      space = laid.space;
      count = laid.count;
      margin = laid.margin ∙ now.0 ∙ sym later.0;
      base = omega (arith, later.0, later.1);
    }
