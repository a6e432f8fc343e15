use Rattle.std.proofs.Common.{◌≡◌, ℕ, ◌<◌, Bool, slice_index, refl, ap, ◌∙◌}
use Rattle.lbm_arrays.specs.Steps.{step_shifts}
use Rattle.lbm_grid.specs.Sweeps.{base_of, step_of, taken}
use Rattle.lbm_grid.proofs.Sweeps.{moved_is, count_said, inside_said, ready_said, taken_said, small_said, collided, written}
use Rattle.lbm_grid.proofs.grid.sweep.Goals as goal

pub collide-requires-clause-count : goal.collide-requires-clause-count
collide-requires-clause-count g c =
    let case = c.args.case.now in let r = c.requires.ready in let v = g.V.VelocitySet.stencil in let rises = g.W.Way.RISES in let t = c.space.result.now in let space = c.space.ensures.value in let items = c.shifts-moved.result.items in
    let base : c.base_before-base.result ≡ base_of rises c.reach.result = c.base_before-base.ensures ∙ ap (λ (b : Bool). base_of b c.reach.result) c.rises.ensures in
    let table : items ≡ step_shifts t v (step_of rises) (base_of rises c.reach.result) = c.shifts-moved.ensures.table ∙ (λ i. step_shifts t v (c.step.ensures i) (base i)) in
    let moved = moved_is case v rises t c.reach.result items r.set space c.reach.ensures.value table in
    count_said case v rises c.args.cut.now t space c.args.begins.now c.args.width c.args.kept.now c.args.region.now c.slots-slots.ensures.valid c.slabs-slabs.ensures.cutting r items moved

pub collide-requires-clause-inside : goal.collide-requires-clause-inside
collide-requires-clause-inside g c =
    let case = c.args.case.now in let r = c.requires.ready in let v = g.V.VelocitySet.stencil in let rises = g.W.Way.RISES in let t = c.space.result.now in let space = c.space.ensures.value in let items = c.shifts-moved.result.items in
    let base : c.base_before-base.result ≡ base_of rises c.reach.result = c.base_before-base.ensures ∙ ap (λ (b : Bool). base_of b c.reach.result) c.rises.ensures in
    let table : items ≡ step_shifts t v (step_of rises) (base_of rises c.reach.result) = c.shifts-moved.ensures.table ∙ (λ i. step_shifts t v (c.step.ensures i) (base i)) in
    let moved = moved_is case v rises t c.reach.result items r.set space c.reach.ensures.value table in
    inside_said case v rises c.args.cut.now t space c.args.begins.now c.args.width c.args.kept.now c.args.region.now c.slots-slots.ensures.valid c.slabs-slabs.ensures.cutting r items moved

pub collide-requires-clause-ready : goal.collide-requires-clause-ready
collide-requires-clause-ready g c =
    let case = c.args.case.now in let r = c.requires.ready in let v = g.V.VelocitySet.stencil in let rises = g.W.Way.RISES in let t = c.space.result.now in let space = c.space.ensures.value in let items = c.shifts-moved.result.items in
    let base : c.base_before-base.result ≡ base_of rises c.reach.result = c.base_before-base.ensures ∙ ap (λ (b : Bool). base_of b c.reach.result) c.rises.ensures in
    let table : items ≡ step_shifts t v (step_of rises) (base_of rises c.reach.result) = c.shifts-moved.ensures.table ∙ (λ i. step_shifts t v (c.step.ensures i) (base i)) in
    let moved = moved_is case v rises t c.reach.result items r.set space c.reach.ensures.value table in
    ready_said case v rises c.args.cut.now t space c.args.begins.now c.args.width c.args.kept.now c.args.region.now c.slots-slots.ensures.valid c.slabs-slabs.ensures.cutting r items moved

pub collide-requires-clause-small : goal.collide-requires-clause-small
collide-requires-clause-small g c =
    let case = c.args.case.now in let r = c.requires.ready in let v = g.V.VelocitySet.stencil in let rises = g.W.Way.RISES in let t = c.space.result.now in let space = c.space.ensures.value in let items = c.shifts-moved.result.items in
    let base : c.base_before-base.result ≡ base_of rises c.reach.result = c.base_before-base.ensures ∙ ap (λ (b : Bool). base_of b c.reach.result) c.rises.ensures in
    let table : items ≡ step_shifts t v (step_of rises) (base_of rises c.reach.result) = c.shifts-moved.ensures.table ∙ (λ i. step_shifts t v (c.step.ensures i) (base i)) in
    let moved = moved_is case v rises t c.reach.result items r.set space c.reach.ensures.value table in
    small_said case v rises c.args.cut.now t space c.args.begins.now c.args.width c.args.kept.now c.args.region.now c.slots-slots.ensures.valid c.slabs-slabs.ensures.cutting r items moved case refl

pub returns-clause-first : goal.returns-clause-first
returns-clause-first g c =
    let case = c.args.case.now in let r = c.requires.ready in let v = g.V.VelocitySet.stencil in let rises = g.W.Way.RISES in let t = c.space.result.now in let space = c.space.ensures.value in let items = c.shifts-moved.result.items in
    let base : c.base_before-base.result ≡ base_of rises c.reach.result = c.base_before-base.ensures ∙ ap (λ (b : Bool). base_of b c.reach.result) c.rises.ensures in
    let table : items ≡ step_shifts t v (step_of rises) (base_of rises c.reach.result) = c.shifts-moved.ensures.table ∙ (λ i. step_shifts t v (c.step.ensures i) (base i)) in
    let moved = moved_is case v rises t c.reach.result items r.set space c.reach.ensures.value table in
    let said = taken_said case v rises c.args.cut.now t space c.args.begins.now c.args.width c.args.kept.now c.args.region.now c.slots-slots.ensures.valid c.slabs-slabs.ensures.cutting r items moved in
    let same : (i : ℕ) → i < v.directions → slice_index c.same_directions-writes.result.items i ≡ i = λ i known. c.same_directions-writes.ensures.same i known in
    (collided case v rises c.args.cut.now t space c.args.begins.now c.args.width c.args.kept.now c.args.region.now c.slots-slots.ensures.valid c.slabs-slabs.ensures.cutting r items moved case refl c.same_directions-writes.result.items same c.collide.new.region.slots c.collide.result
    (c.collide.ensures.collided (taken case rises c.args.region.now.slots) said)).first

pub returns-clause-written : goal.returns-clause-written
returns-clause-written g c =
    let case = c.args.case.now in let r = c.requires.ready in let v = g.V.VelocitySet.stencil in let rises = g.W.Way.RISES in let t = c.space.result.now in let space = c.space.ensures.value in let items = c.shifts-moved.result.items in
    let base : c.base_before-base.result ≡ base_of rises c.reach.result = c.base_before-base.ensures ∙ ap (λ (b : Bool). base_of b c.reach.result) c.rises.ensures in
    let table : items ≡ step_shifts t v (step_of rises) (base_of rises c.reach.result) = c.shifts-moved.ensures.table ∙ (λ i. step_shifts t v (c.step.ensures i) (base i)) in
    let moved = moved_is case v rises t c.reach.result items r.set space c.reach.ensures.value table in
    let said = taken_said case v rises c.args.cut.now t space c.args.begins.now c.args.width c.args.kept.now c.args.region.now c.slots-slots.ensures.valid c.slabs-slabs.ensures.cutting r items moved in
    let same : (i : ℕ) → i < v.directions → slice_index c.same_directions-writes.result.items i ≡ i = λ i known. c.same_directions-writes.ensures.same i known in
    written case v rises c.args.cut.now t space c.args.begins.now c.args.width c.args.kept.now c.args.region.now c.slots-slots.ensures.valid c.slabs-slabs.ensures.cutting r items moved case refl c.same_directions-writes.result.items same c.collide.new.region.slots c.collide.result
    (c.collide.ensures.collided (taken case rises c.args.region.now.slots) said)
