use Rattle.std.proofs.Common.{◌≡◌, ℕ, ◌%◌, nat_eq, Bool, true, false, List, ℤ, length, refl, sym, subst, eq-eqb, ne_eqb}
use Rattle.lbm_space.specs.Cuttings.{slabs_of}
use Rattle.lbm_model.specs.Layout.{state_in}
use Rattle.lbm_sweep.proofs.Lattices.{laid_again}
use Rattle.lbm_grid.specs.Strips.{AreRooms, AreSaved}
use Rattle.lbm_grid.specs.Sweeps.{far, base_of, layout_before, taken, AreLoadedFor, AreReady}
use Rattle.lbm_sweep.proofs.Cases.{small_taken}
use Rattle.lbm_grid.proofs.Sweeps.{loaded, made}
use Rattle.lbm_grid.proofs.grid.GridSweepsPropagation.advance.Goals as goal

pub sweep-requires-clause-ready : goal.sweep-requires-clause-ready
sweep-requires-clause-ready g c =
    let case = c.args.case.now in let kept = c.requires.kept in let v = g.V.VelocitySet.stencil in let rises : Bool = nat_eq (c.args.time % 2) 0 in let bounds = c.args.cut.now in
    let old = c.args.region.now in let new = c.make_ready.new.region in let strips = c.make_ready.new.strips in let done = c.make_ready.ensures in
    let begins : strips.begins.items ≡ c.as_slice-begins.result.now = sym c.as_slice-begins.ensures.value in let saved : strips.kept.items ≡ c.as_slice-kept.result.now = sym c.as_slice-kept.ensures.value in
    subst (λ (r : Bool). AreReady case v r bounds c.as_slice-begins.result.now strips.width c.as_slice-kept.result.now new) (eq-eqb (c.args.time % 2) 0 c.if-rises.true) (record {
      valid = kept.valid;
      set = kept.set;
      laid = laid_again case (layout_before case rises) old new done.same kept.laid;
      cutting = kept.cutting;
      rooms = subst (λ (w : List ℕ × List ℤ). AreRooms case.torus v bounds w.0 strips.width (length w.1)) (λ i. (begins i, saved i)) done.rooms;
      saved = subst (λ (w : List ℕ × List ℤ). AreSaved case.torus v rises bounds w.0 strips.width (far case) (base_of rises (far case)) (slabs_of bounds) new.slots w.1) (λ i. (begins i, saved i)) done.saved;
      small = small_taken case (state_in case (layout_before case rises) old.slots) (taken case rises new.slots) (loaded case kept.valid rises old.slots new.slots done.loaded) (kept.small refl);
    })

pub sweep-requires-else-rises-clause-ready : goal.sweep-requires-else-rises-clause-ready
sweep-requires-else-rises-clause-ready g c =
    let case = c.args.case.now in let kept = c.requires.kept in let v = g.V.VelocitySet.stencil in let rises : Bool = nat_eq (c.args.time % 2) 0 in let bounds = c.args.cut.now in
    let old = c.args.region.now in let new = c.make_ready.new.region in let strips = c.make_ready.new.strips in let done = c.make_ready.ensures in
    let begins : strips.begins.items ≡ c.as_slice-begins.result.now = sym c.as_slice-begins.ensures.value in let saved : strips.kept.items ≡ c.as_slice-kept.result.now = sym c.as_slice-kept.ensures.value in
    subst (λ (r : Bool). AreReady case v r bounds c.as_slice-begins.result.now strips.width c.as_slice-kept.result.now new) (ne_eqb (c.args.time % 2) 0 c.if-rises.false) (record {
      valid = kept.valid;
      set = kept.set;
      laid = laid_again case (layout_before case rises) old new done.same kept.laid;
      cutting = kept.cutting;
      rooms = subst (λ (w : List ℕ × List ℤ). AreRooms case.torus v bounds w.0 strips.width (length w.1)) (λ i. (begins i, saved i)) done.rooms;
      saved = subst (λ (w : List ℕ × List ℤ). AreSaved case.torus v rises bounds w.0 strips.width (far case) (base_of rises (far case)) (slabs_of bounds) new.slots w.1) (λ i. (begins i, saved i)) done.saved;
      small = small_taken case (state_in case (layout_before case rises) old.slots) (taken case rises new.slots) (loaded case kept.valid rises old.slots new.slots done.loaded) (kept.small refl);
    })

pub returns-then-rises-clause-step : goal.returns-then-rises-clause-step
returns-then-rises-clause-step g c =
    let case = c.args.case.now in let old = c.args.region.now.slots in let now = c.make_ready.new.region.slots in
    made case c.args.time true old now c.sweep.new.region.slots c.sweep.result (eq-eqb (c.args.time % 2) 0 c.if-rises.true) c.requires.kept.valid
    (subst (λ (r : Bool). AreLoadedFor case r old now) (eq-eqb (c.args.time % 2) 0 c.if-rises.true) c.make_ready.ensures.loaded) c.sweep.ensures.first c.sweep.ensures.written

pub returns-else-rises-clause-step : goal.returns-else-rises-clause-step
returns-else-rises-clause-step g c =
    let case = c.args.case.now in let old = c.args.region.now.slots in let now = c.make_ready.new.region.slots in
    made case c.args.time false old now c.sweep-else-rises.new.region.slots c.sweep-else-rises.result (ne_eqb (c.args.time % 2) 0 c.if-rises.false) c.requires.kept.valid
    (subst (λ (r : Bool). AreLoadedFor case r old now) (ne_eqb (c.args.time % 2) 0 c.if-rises.false) c.make_ready.ensures.loaded) c.sweep-else-rises.ensures.first c.sweep-else-rises.ensures.written
