-- What a lattice in arrays keeps to from step to step.
use Rattle.std.proofs.Common.{◌≡◌, ℕ, Bool, true, false, not, List, refl, sym, ap, ◌∙◌}
use Rattle.std.specs.Prelude.{Option, Some, None}
use Rattle.std.specs.Option.{is_some}
use Rattle.lbm_space.specs.Stencil.{Stencil}
use Rattle.lbm_model.specs.Case.{FlowCase}
use Rattle.lbm_model.specs.declared.layout.Layout.{Layout}
use Rattle.lbm_model.specs.Layout.{state_in}
use Rattle.lbm_arrays.specs.Arrays.{Arrays}
use Rattle.lbm_sweep.specs.Lattices.{IsKept, IsLaidOut}
use Rattle.lbm_sweep.specs.Steps.{IsStep}
use Rattle.lbm_sweep.proofs.Lattices.{laid_again, small_stepped}

module _ (v : Stencil) (now later : Layout) (case : FlowCase) (spent : Option ℕ) (region last : Arrays) (bounds : List ℕ) (kept : IsKept v now case spent region bounds) (same : last ≡ record region { slots = last.slots }) where
  -- a step was made
  pub kept-stepped : (IsLaidOut case now last → IsLaidOut case later last) → spent ≡ None → IsStep case (state_in case now region.slots) later last.slots None → IsKept v later case spent last bounds
  kept-stepped still free step = record {
    set = kept.set;
    valid = kept.valid;
    laid = still (laid_again case now region last same kept.laid);
    cutting = kept.cutting;
    small = λ _. small_stepped case (state_in case now region.slots) later last.slots None kept.valid (kept.small free) step refl;
  }

  -- a cell has spent the lattice
  pub kept-spent : (cell : ℕ) → IsKept v now case (Some cell) last bounds
  kept-spent cell = record {
    set = kept.set;
    valid = kept.valid;
    laid = laid_again case now region last same kept.laid;
    cutting = kept.cutting;
    small = λ none. absurd cc;
  }

-- an answer that is not the absent one
pub not_none : (r : Option ℕ) (b : Bool) → is_some r ≡ not b → b ≡ false → r ≡ None → ⊥
not_none r b told some none = let h : false ≡ true = sym (ap is_some none) ∙ told ∙ ap not some in cc
