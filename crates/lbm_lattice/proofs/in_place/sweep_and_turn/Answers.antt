use Rattle.std.proofs.Common.{refl, sym, subst}
use Rattle.lbm_model.specs.Layout.{state_in}
use Rattle.lbm_arrays.specs.Arrays.{held}
use Rattle.lbm_arrays.specs.declared.steps.Step.TheVariants.{InPlace}
use Rattle.lbm_sweep.proofs.Cases.{small_taken}
use Rattle.lbm_sweep.proofs.Held.{exchange_turned}
use Rattle.lbm_sweep.proofs.Steps.{written_is_step}
use Rattle.lbm_lattice.specs.InPlace.{own_layout, turned_layout, taken, sent_to}
use Rattle.lbm_lattice.proofs.InPlace.{IsSame, AreOpposite, taken_own, sent_turned}
use Rattle.lbm_lattice.proofs.in_place.sweep_and_turn.Goals as goal

pub sweep_in_place-requires-clause-exchange : goal.sweep_in_place-requires-clause-exchange
sweep_in_place-requires-clause-exchange g c =
    exchange_turned g.V.VelocitySet.stencil g.met.V.VelocitySet.laws c.same_directions-reads.result.items c.opposite_directions-writes.result.items c.same_directions-reads.ensures.table c.opposite_directions-writes.ensures.table c.same_directions-reads.ensures.same c.opposite_directions-writes.ensures.opposite

pub sweep_in_place-requires-clause-small : goal.sweep_in_place-requires-clause-small
sweep_in_place-requires-clause-small g c =
    let case = c.args.case.now in let kept = c.requires.kept in let slots = c.args.region.now.slots in let reads = c.same_directions-reads.result.items in
    let same = subst (λ v. IsSame v reads) (sym kept.set) c.same_directions-reads.ensures.same in
    small_taken case (state_in case own_layout slots) (taken case InPlace reads slots) (taken_own case kept.valid reads slots same) (kept.small refl)

pub returns-clause-step : goal.returns-clause-step
returns-clause-step g c =
    let case = c.args.case.now in let kept = c.requires.kept in let old = c.args.region.now.slots in let new = c.sweep_in_place.new.region.slots in
    let reads = c.same_directions-reads.result.items in let writes = c.opposite_directions-writes.result.items in
    let same = subst (λ v. IsSame v reads) (sym kept.set) c.same_directions-reads.ensures.same in
    let turned = subst (λ v. AreOpposite v writes) (sym kept.set) c.opposite_directions-writes.ensures.opposite in
    written_is_step case (state_in case own_layout old) turned_layout (taken case InPlace reads old) (sent_to case InPlace writes) (held new) new c.sweep_in_place.result kept.valid
    (taken_own case kept.valid reads old same) c.sweep_in_place.ensures.first c.sweep_in_place.ensures.written (λ none. sent_turned case kept.valid writes new turned)
