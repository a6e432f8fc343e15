use Rattle.std.proofs.Common.{◌≡◌, ℕ, ◌*◌, ◌≤◌, length, ℤ, slice_index, unsigned_abs, ap, refl, sym, subst, ◌∙◌, arith}
use Rattle.lbm_space.specs.Stencil.{Stencil}
use Rattle.lbm_space.specs.Torus.{Torus, cells}
use Rattle.lbm_model.specs.Flow.{is_sound, post}
use Rattle.lbm_model.specs.Small.{size_limit}
use Rattle.lbm_arrays.specs.Arrays.{array_size, held}
use Rattle.lbm_arrays.specs.Steps.{HasRoom, step_shifts}
use Rattle.lbm_arrays.proofs.Moves.{length-shifts}
use Rattle.lbm_sweep.specs.Sweep.{IsCollided}
use Rattle.lbm_sweep.specs.Regions.{range_slot, HasSlot}
use Rattle.lbm_sweep.proofs.Cases.{whole_region, table_in, shifts_are, shifts_inside_region, collided_in}
use Rattle.lbm_sweep.proofs.OwnPlaces.{slot_touched, step_taken}
use Rattle.lbm_lattice.specs.InPlace.{own_layout, taken}
use Rattle.lbm_lattice.proofs.in_place.sweep_in_place.Given as given
use Rattle.lbm_lattice.proofs.in_place.sweep_in_place.Goals as goal

pub collide-requires-clause-count : goal.collide-requires-clause-count
collide-requires-clause-count g c =
    ap length c.shifts-moved.ensures.table ∙ length-shifts c.space.result.now g.V.VelocitySet.stencil c.args.way.step 1 ∙ sym (c.requires.laid.count ∙ ap (λ s. s.directions) c.requires.set)

pub collide-requires-clause-inside : goal.collide-requires-clause-inside
collide-requires-clause-inside g c =
    let step = c.args.way.step in
    let room = subst (λ (t : Torus). HasRoom t g.V.VelocitySet.stencil step 2 1) (sym c.space.ensures.value) c.requires.room in
    shifts_inside_region c.args.case.now g.V.VelocitySet.stencil c.requires.set own_layout step 1 c.space.result.now c.shifts-moved.result.items c.space.ensures.value c.shifts-moved.ensures.table
    c.args.region.now c.requires.laid (c.shifts-moved.ensures.inside 2 room)

pub collide-requires-clause-small : goal.collide-requires-clause-small
collide-requires-clause-small g c =
    let case = c.args.case.now in let t = case.torus in let v = case.stencil in let valid = c.requires.valid in let slots = c.args.region.now.slots in
    let room = subst (λ (s : Stencil). HasRoom t s c.args.way.step 2 1) (sym c.requires.set) c.requires.room in
    let reads = table_in case g.V.VelocitySet.stencil c.requires.set c.args.way.reads.items c.requires.exchange.taken in
    let whole : length slots ≡ v.directions * array_size t 2 = whole_region case own_layout c.args.region.now c.slots-slots.ensures.valid c.requires.laid in
    let there = step_taken t valid.space v valid.set (sym valid.dimension) c.args.way.step 1 2 room slots whole c.args.cut.now c.slabs-slabs.ensures.cutting c.requires.cutting c.args.way.reads.items reads in
    rw (c.requires.laid.space, c.requires.laid.margin, c.shifts-moved.ensures.table, c.space.ensures.value, ← c.requires.set) (λ k cell slab here i known.
    subst (λ (z : ℤ). unsigned_abs z ≤ size_limit case cell) (sym (there k cell slab here i known)) (c.requires.small cell i here.known known))

-- what the region's collision says, in terms of the case
collided : (g : given.Over) (c : goal.After-collide g)
    → IsCollided (is_sound c.args.case.now) (post c.args.case.now) c.args.case.now.stencil.directions (taken c.args.case.now c.args.way.step c.args.way.reads.items c.args.region.now.slots)
    (λ x i. range_slot c.args.case.now.torus 2 (step_shifts c.args.case.now.torus c.args.case.now.stencil c.args.way.step 1) (slice_index c.args.way.writes.items i) x)
    (HasSlot c.args.case.now.torus 2 (step_shifts c.args.case.now.torus c.args.case.now.stencil c.args.way.step 1) c.args.case.now.stencil.directions) 0 (cells c.args.case.now.torus) (held c.args.region.now.slots) (held c.collide.new.region.slots) c.collide.result
collided g c =
    let case = c.args.case.now in let t = case.torus in let v = case.stencil in let valid = c.requires.valid in let slots = c.args.region.now.slots in let way = c.args.way in
    let room = subst (λ (s : Stencil). HasRoom t s way.step 2 1) (sym c.requires.set) c.requires.room in
    let reads = table_in case g.V.VelocitySet.stencil c.requires.set way.reads.items c.requires.exchange.taken in
    let whole : length slots ≡ v.directions * array_size t 2 = whole_region case own_layout c.args.region.now c.slots-slots.ensures.valid c.requires.laid in
    let there = step_taken t valid.space v valid.set (sym valid.dimension) way.step 1 2 room slots whole c.args.cut.now c.slabs-slabs.ensures.cutting c.requires.cutting way.reads.items reads in
    let f : ℕ → ℕ → ℤ = taken case way.step way.reads.items slots in
    collided_in case g.V.VelocitySet.stencil c.requires.set own_layout c.args.region.now case c.shifts-moved.result.items (step_shifts t v way.step 1) way.writes.items way.writes.items
    f (held slots) (held c.collide.new.region.slots) c.collide.result c.requires.laid refl
    (shifts_are case g.V.VelocitySet.stencil c.requires.set own_layout way.step 1 c.space.result.now c.shifts-moved.result.items c.space.ensures.value c.shifts-moved.ensures.table) refl
    (c.collide.ensures.collided f (rw (c.requires.laid.space, c.requires.laid.margin, c.shifts-moved.ensures.table, c.space.ensures.value, ← c.requires.set) there))

pub returns-clause-first : goal.returns-clause-first
returns-clause-first g c = (collided g c).first

pub returns-clause-written : goal.returns-clause-written
returns-clause-written g c none x i here known =
    let case = c.args.case.now in let valid = c.requires.valid in let way = c.args.way in
    let room = subst (λ (s : Stencil). HasRoom case.torus s way.step 2 1) (sym c.requires.set) c.requires.room in
    let writes = table_in case g.V.VelocitySet.stencil c.requires.set way.writes.items c.requires.exchange.put in
    ap (held c.collide.new.region.slots) (sym (slot_touched case.torus valid.space case.stencil valid.set (sym valid.dimension) way.step 1 2 room (slice_index way.writes.items i) x (writes.known i known) here))
    ∙ ((collided g c).swept none).written x i (omega arith) here known
