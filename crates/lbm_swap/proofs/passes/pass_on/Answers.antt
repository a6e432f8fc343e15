use Rattle.std.proofs.Common.{◌≡◌, ℕ, ◌<◌, ◌*◌, List, length, slice_index, ℤ, Option, None, refl, sym, ap, ◌∙◌, subst, arith}
use Rattle.lbm_space.specs.Stencil.{Stencil, opposite}
use Rattle.lbm_space.specs.Torus.{Torus, cells, padded, rows as row_count}
use Rattle.lbm_space.specs.Cuttings.{slabs_of, rows_of, IsCutting}
use Rattle.lbm_model.specs.Case.{FlowCase, IsCase}
use Rattle.lbm_arrays.specs.Arrays.{Arrays, IsRegion, held}
use Rattle.lbm_arrays.specs.Pads.{place_slot, stand}
use Rattle.lbm_arrays.specs.LentRanges.{IsLent, lent, slab_rows, AreInside, AreLent, IsForked}
use Rattle.lbm_arrays.specs.declared.steps.Step.TheVariants.{Exchange}
use Rattle.lbm_arrays.specs.Steps.{step_shifts}
use Rattle.lbm_arrays.proofs.Moves.{length-shifts}
use Rattle.lbm_sweep.specs.Blocks.{IsTable}
use Rattle.lbm_sweep.specs.Lattices.{IsLaidOut}
use Rattle.lbm_sweep.proofs.Lattices.{laid_again}
use Rattle.lbm_sweep.proofs.Cases.{whole_region, table_in, shifts_are, shifts_inside, shifts_inside_region}
use Rattle.lbm_lattice.specs.InPlace.{own_layout}
use Rattle.lbm_swap.specs.Exchange.{IsReady, IsExchangedIn, AreExchanged, loaded_place, met_place}
use Rattle.lbm_swap.proofs.Regions.{slab_ready, region_exchanged}
use Rattle.lbm_swap.proofs.Steps.{AreLoaded, AreStored, passed_on}
use Rattle.lbm_swap.proofs.passes.pass_on.Goals as goal

-- the exchange, in the case's own terms
module _ (case : FlowCase) (s : Stencil) (allowed : IsCase case) (set : case.stencil ≡ s) (region : Arrays) (laid : IsLaidOut case own_layout region) (valid : IsRegion region)
    (t : Torus) (moved : List ℤ) (space : t ≡ case.torus) (are_table : moved ≡ step_shifts t s Exchange 1) (inside : AreInside t 2 moved)
    (ps given : List ℕ) (same : given ≡ ps) (is_table : IsTable s.directions ps) (are_opposite : (i : ℕ) → i < s.directions → slice_index ps i ≡ opposite s i)
    (bounds : List ℕ) (cutting : IsCutting bounds) (fits : rows_of bounds ≡ row_count case.torus) where
  opposites : (i : ℕ) → i < case.stencil.directions → slice_index ps i ≡ opposite case.stencil i
  opposites = subst (λ (w : Stencil). (i : ℕ) → i < w.directions → slice_index ps i ≡ opposite w i) (sym set) are_opposite

  table : IsTable case.stencil.directions ps
  table = table_in case s set ps is_table

  are : moved ≡ step_shifts case.torus case.stencil Exchange 1
  are = shifts_are case s set own_layout Exchange 1 t moved space are_table

  ready : (j : ℕ) → j < slabs_of bounds → IsReady t given (slab_rows bounds j) (lent region.space region.margin moved (slab_rows bounds j) region.slots)
  ready j known =
      subst (λ (w : Torus × List ℕ × Torus × ℕ × List ℤ). IsReady w.0 w.1 (slab_rows bounds j) (lent w.2 w.3 w.4 (slab_rows bounds j) region.slots)) (λ i. (sym space i, sym same i, sym laid.space i, sym laid.margin i, sym are i))
      (slab_ready case allowed ps table opposites (shifts_inside case s set own_layout Exchange 1 t moved space are_table inside) (length-shifts case.torus case.stencil Exchange 1) bounds cutting fits region.slots (whole_region case own_layout region valid laid) j known)

  exchanged : (new : Arrays) (answer : Option ℕ) → new ≡ record region { slots = new.slots } → IsRegion new → AreLent region.space region.margin moved bounds
      → IsForked (λ piece rows old result now. (result ≡ None) × IsExchangedIn t (length given) given rows (rows.0 * t.nx) (rows.1 * t.nx) old now) region.space region.margin moved bounds region.slots new.slots answer
      → ((n : ℕ) → ((k : ℕ) → k < length moved → IsLent region.space region.margin moved k 0 (row_count region.space) n → ⊥) → held new.slots n ≡ held region.slots n)
      → AreExchanged case region.slots new.slots
  exchanged new answer still valid' lents did others =
      let many : length given ≡ case.stencil.directions = ap length same ∙ table.count in
      region_exchanged case allowed ps table opposites (shifts_inside case s set own_layout Exchange 1 t moved space are_table inside) (length-shifts case.torus case.stencil Exchange 1) bounds cutting fits region.slots new.slots answer
      (whole_region case own_layout region valid laid) (whole_region case own_layout new valid' (laid_again case own_layout region new still laid))
      (subst (λ (w : Torus × ℕ × List ℤ). AreLent w.0 w.1 w.2 bounds) (λ i. (laid.space i, laid.margin i, are i)) lents)
      (subst (λ (w : (Torus × ℕ × List ℕ) × Torus × ℕ × List ℤ). IsForked (λ piece rows old result now. (result ≡ None) × IsExchangedIn w.0.0 w.0.1 w.0.2 rows (rows.0 * w.0.0.nx) (rows.1 * w.0.0.nx) old now) w.1 w.2 w.3 bounds region.slots new.slots answer)
      (λ i. ((space i, many i, same i), laid.space i, laid.margin i, are i)) did)
      (subst (λ (w : Torus × ℕ × List ℤ). (n : ℕ) → ((k : ℕ) → k < length w.2 → IsLent w.0 w.1 w.2 k 0 (row_count w.0) n → ⊥) → held new.slots n ≡ held region.slots n) (λ i. (laid.space i, laid.margin i, are i)) others)

-- the copies of the pads, in the case's own terms
module _ (case : FlowCase) (v : Stencil) (set : case.stencil ≡ v) (r : Arrays) (laid : IsLaidOut case own_layout r) (new : List ℤ) where
  loads : ((k p : ℕ) → k < v.directions → p < padded r.space → held new (place_slot r.space r.margin k 1 p) ≡ held r.slots (place_slot r.space r.margin k 1 (loaded_place r.space v k p))) → AreLoaded case r.slots new
  loads are =
      subst (λ (w : Torus × ℕ × Stencil). (k p : ℕ) → k < w.2.directions → p < padded w.0 → held new (place_slot w.0 w.1 k 1 p) ≡ held r.slots (place_slot w.0 w.1 k 1 (loaded_place w.0 w.2 k p)))
      (λ i. (laid.space i, laid.margin i, sym set i)) are

  stores : ((k x : ℕ) → k < v.directions → x < cells r.space → held new (place_slot r.space r.margin k 1 (stand r.space (met_place r.space v k x))) ≡ held r.slots (place_slot r.space r.margin k 1 (met_place r.space v k x))) → AreStored case r.slots new
  stores are =
      subst (λ (w : Torus × ℕ × Stencil). (k x : ℕ) → k < w.2.directions → x < cells w.0 → held new (place_slot w.0 w.1 k 1 (stand w.0 (met_place w.0 w.2 k x))) ≡ held r.slots (place_slot w.0 w.1 k 1 (met_place w.0 w.2 k x)))
      (λ i. (laid.space i, laid.margin i, sym set i)) are

pub fork_by-requires-clause-count : goal.fork_by-requires-clause-count
fork_by-requires-clause-count g c =
    let case = c.args.case.now in
    let laid = laid_again case own_layout c.args.region.now c.load_pads_ahead.new.region c.load_pads_ahead.ensures.same c.requires.laid in
    ap length (shifts_are case g.V.VelocitySet.stencil c.requires.set own_layout Exchange 1 c.space.result.now c.shifts-moved.result.items c.space.ensures.value c.shifts-moved.ensures.table)
    ∙ length-shifts case.torus case.stencil Exchange 1 ∙ sym laid.count

pub fork_by-requires-clause-inside : goal.fork_by-requires-clause-inside
fork_by-requires-clause-inside g c =
    let case = c.args.case.now in
    let laid = laid_again case own_layout c.args.region.now c.load_pads_ahead.new.region c.load_pads_ahead.ensures.same c.requires.laid in
    shifts_inside_region case g.V.VelocitySet.stencil c.requires.set own_layout Exchange 1 c.space.result.now c.shifts-moved.result.items c.space.ensures.value c.shifts-moved.ensures.table
    c.load_pads_ahead.new.region laid (c.shifts-moved.ensures.inside 2 (omega arith, omega arith))

pub fork_by-requires-clause-ready : goal.fork_by-requires-clause-ready
fork_by-requires-clause-ready g c =
    let case = c.args.case.now in
    let laid = laid_again case own_layout c.args.region.now c.load_pads_ahead.new.region c.load_pads_ahead.ensures.same c.requires.laid in
    ready case g.V.VelocitySet.stencil c.requires.valid c.requires.set c.load_pads_ahead.new.region laid c.slots-slots.ensures.valid
    c.space.result.now c.shifts-moved.result.items c.space.ensures.value c.shifts-moved.ensures.table (c.shifts-moved.ensures.inside 2 (omega arith, omega arith))
    c.opposite_directions-partners.result.items c.opposite_directions-partners.result.items refl c.opposite_directions-partners.ensures.table c.opposite_directions-partners.ensures.opposite
    c.args.cut.now c.slabs-slabs.ensures.cutting c.requires.cutting

pub returns-clause-arrived : goal.returns-clause-arrived
returns-clause-arrived g c =
    let case = c.args.case.now in let v = g.V.VelocitySet.stencil in let r = c.args.region.now in
    let loaded = c.load_pads_ahead.new.region in let swapped = c.fork_by.new.region in let stored = c.store_pads_ahead.new.region.slots in
    let laid = laid_again case own_layout r loaded c.load_pads_ahead.ensures.same c.requires.laid in
    let laid' = laid_again case own_layout loaded swapped c.fork_by.ensures.same laid in
    let done = exchanged case v c.requires.valid c.requires.set loaded laid c.slots-slots.ensures.valid
    c.space.result.now c.shifts-moved.result.items c.space.ensures.value c.shifts-moved.ensures.table (c.shifts-moved.ensures.inside 2 (omega arith, omega arith))
    c.opposite_directions-partners.result.items c.opposite_directions-partners.result.items refl c.opposite_directions-partners.ensures.table c.opposite_directions-partners.ensures.opposite
    c.args.cut.now c.slabs-slabs.ensures.cutting c.requires.cutting
    swapped c.fork_by.result c.fork_by.ensures.same c.fork_by.ensures.valid c.fork_by.ensures.ranges c.fork_by.ensures.did c.fork_by.ensures.others in
    passed_on case c.requires.valid r.slots loaded.slots swapped.slots stored (loads case v c.requires.set r c.requires.laid loaded.slots c.load_pads_ahead.ensures.loaded) done
    (stores case v c.requires.set swapped laid' stored c.store_pads_ahead.ensures.stored)
