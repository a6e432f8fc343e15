use Rattle.std.proofs.Common.{◌≡◌, ◌*◌, length, sym, ◌∙◌, subst}
use Rattle.lbm_model.specs.Flow.{is_sound, post}
use Rattle.lbm_arrays.specs.LentRanges.{lent, slab_rows, IsForked}
use Rattle.lbm_walk.specs.Places.{InRows}
use Rattle.lbm_sweep.specs.Slabs.{IsSlab, InColumns}
use Rattle.lbm_sweep.proofs.Regions.{all_slots, all_slots_still, slab_is, slab_cell, region_collided}
use Rattle.lbm_sweep.proofs.step.collide.Goals as goal

pub fork_by-requires-clause-ready : goal.fork_by-requires-clause-ready
fork_by-requires-clause-ready g c = λ k known.
    let r = c.args.region.now in let shifts = c.args.shifts.items in let bounds = c.args.cut.now in let q = g.V.VelocitySet.stencil.directions in
    let valid = c.slots-slots.ensures.valid in let cutting = c.slabs-slabs.ensures.cutting in let count : length shifts ≡ q = c.requires.count ∙ c.requires.arrays in
    let whole = all_slots r q valid c.requires.arrays in (
      c.requires.set,
      c.requires.matched,
      c.requires.spared,
      subst (λ t. IsSlab t q (slab_rows bounds k) (lent r.space r.margin shifts (slab_rows bounds k) r.slots)) (sym c.requires.space)
          (slab_is r.space valid.space r.margin shifts c.requires.inside q count bounds cutting c.requires.cutting r.slots whole k known),
      c.requires.ready k _ known (slab_cell r.space valid.space r.margin shifts c.requires.inside q count bounds cutting c.requires.cutting k known),
      λ cell i here less. c.requires.small k cell known (subst (λ t. InRows t (slab_rows bounds k) cell) c.requires.space here) i less,
    )

pub returns-clause-collided : goal.returns-clause-collided
returns-clause-collided g c = λ before same.
    let S = g.S.Source in let case = c.args.inputs.now.case.now in let read = c.args.inputs.now.read.now in let places = c.args.inputs.now.places.now in
    let r = c.args.region.now in let new = c.fork_by.new.region in let w = c.args.pass in let shifts = c.args.shifts.items in let bounds = c.args.cut.now in let q = g.V.VelocitySet.stencil.directions in
    let valid = c.slots-slots.ensures.valid in let cutting = c.slabs-slabs.ensures.cutting in let count : length shifts ≡ q = c.requires.count ∙ c.requires.arrays in
    let whole = all_slots r q valid c.requires.arrays in
    let still = all_slots_still r new q c.fork_by.ensures.valid c.fork_by.ensures.same c.requires.arrays in
    region_collided r.space valid.space r.margin shifts c.requires.inside q count bounds cutting c.requires.cutting
    (is_sound case) (post case) (S.before w.source read places) w.writes.items before r.slots new.slots c.fork_by.result c.requires.matched.table whole still c.fork_by.ensures.ranges same
    (subst (λ t. IsForked (λ piece rows old result now. InColumns (is_sound case) (post case) q (S.before w.source read places) w.writes.items t rows (rows.0 * t.nx) (rows.1 * t.nx) old now result) r.space r.margin shifts bounds r.slots new.slots c.fork_by.result) c.requires.space c.fork_by.ensures.did)
    c.fork_by.ensures.others
