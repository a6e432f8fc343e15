use Rattle.std.proofs.Common.{refl, sym, ap, subst, ◌∙◌}
use Rattle.lbm_model.specs.Layout.{state_in}
use Rattle.lbm_arrays.specs.Arrays.{held}
use Rattle.lbm_arrays.specs.Pads.{AreLoaded, AreStored}
use Rattle.lbm_arrays.specs.declared.steps.Step.TheVariants.{Ahead}
use Rattle.lbm_sweep.proofs.Cases.{small_taken}
use Rattle.lbm_sweep.proofs.Held.{exchange_back}
use Rattle.lbm_sweep.proofs.Steps.{written_is_step}
use Rattle.lbm_lattice.specs.InPlace.{own_layout, turned_layout, taken, sent_to}
use Rattle.lbm_lattice.proofs.InPlace.{IsSame, AreOpposite}
use Rattle.lbm_lattice.proofs.Steps.{not_none}
use Rattle.lbm_aa.proofs.Steps.{taken_odd, sent_odd}
use Rattle.lbm_aa.proofs.aa.odd_step.Goals as goal

pub sweep_in_place-answer-requires-clause-exchange : goal.sweep_in_place-answer-requires-clause-exchange
sweep_in_place-answer-requires-clause-exchange g c =
    exchange_back g.V.VelocitySet.stencil g.met.V.VelocitySet.laws c.opposite_directions-reads.result.items c.same_directions-writes.result.items c.opposite_directions-reads.ensures.table c.same_directions-writes.ensures.table c.opposite_directions-reads.ensures.opposite c.same_directions-writes.ensures.same

pub sweep_in_place-answer-requires-clause-small : goal.sweep_in_place-answer-requires-clause-small
sweep_in_place-answer-requires-clause-small g c =
    let case = c.args.case.now in let kept = c.requires.kept in let old = c.args.region.now.slots in let loaded = c.load_all_pads.new.region.slots in let reads = c.opposite_directions-reads.result.items in
    let turned = subst (λ v. AreOpposite v reads) (sym kept.set) c.opposite_directions-reads.ensures.opposite in
    let loads : AreLoaded case.torus case.stencil.directions 2 1 old loaded = rw (kept.laid.space, kept.laid.margin, ← kept.set) at c.load_all_pads.ensures.loaded in
    small_taken case (state_in case turned_layout old) (taken case Ahead reads loaded) (taken_odd case kept.valid reads old loaded turned loads) (kept.small refl)

pub returns-then-is_none-clause-step : goal.returns-then-is_none-clause-step
returns-then-is_none-clause-step g c =
    let case = c.args.case.now in let kept = c.requires.kept in let old = c.args.region.now.slots in
    let loaded = c.load_all_pads.new.region.slots in let swept = c.sweep_in_place-answer.new.region.slots in let stored = c.store_all_pads.new.region.slots in
    let reads = c.opposite_directions-reads.result.items in let writes = c.same_directions-writes.result.items in
    let turned = subst (λ v. AreOpposite v reads) (sym kept.set) c.opposite_directions-reads.ensures.opposite in
    let same = subst (λ v. IsSame v writes) (sym kept.set) c.same_directions-writes.ensures.same in
    let loads : AreLoaded case.torus case.stencil.directions 2 1 old loaded = rw (kept.laid.space, kept.laid.margin, ← kept.set) at c.load_all_pads.ensures.loaded in
    let space = ap (λ r. r.space) (c.sweep_in_place-answer.ensures.same) ∙ ap (λ r. r.space) (c.load_all_pads.ensures.same) ∙ kept.laid.space in
    let margin = ap (λ r. r.margin) (c.sweep_in_place-answer.ensures.same) ∙ ap (λ r. r.margin) (c.load_all_pads.ensures.same) ∙ kept.laid.margin in
    let stores : AreStored case.torus case.stencil 2 1 swept stored = rw (space, margin, ← kept.set) at c.store_all_pads.ensures.stored in
    written_is_step case (state_in case turned_layout old) own_layout (taken case Ahead reads loaded) (sent_to case Ahead writes) (held swept) stored c.sweep_in_place-answer.result kept.valid
    (taken_odd case kept.valid reads old loaded turned loads) c.sweep_in_place-answer.ensures.first c.sweep_in_place-answer.ensures.written (λ none. sent_odd case kept.valid writes swept stored same stores)

pub returns-else-is_none-clause-step : goal.returns-else-is_none-clause-step
returns-else-is_none-clause-step g c =
    let case = c.args.case.now in let kept = c.requires.kept in let old = c.args.region.now.slots in
    let loaded = c.load_all_pads.new.region.slots in let swept = c.sweep_in_place-answer.new.region.slots in
    let reads = c.opposite_directions-reads.result.items in let writes = c.same_directions-writes.result.items in
    let turned = subst (λ v. AreOpposite v reads) (sym kept.set) c.opposite_directions-reads.ensures.opposite in
    let loads : AreLoaded case.torus case.stencil.directions 2 1 old loaded = rw (kept.laid.space, kept.laid.margin, ← kept.set) at c.load_all_pads.ensures.loaded in
    written_is_step case (state_in case turned_layout old) own_layout (taken case Ahead reads loaded) (sent_to case Ahead writes) (held swept) swept c.sweep_in_place-answer.result kept.valid
    (taken_odd case kept.valid reads old loaded turned loads) c.sweep_in_place-answer.ensures.first c.sweep_in_place-answer.ensures.written (λ none. absurd (not_none c.sweep_in_place-answer.result c.is_none.result c.is_none.ensures c.if-is_none.false none))
