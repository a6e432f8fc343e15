use Rattle.std.proofs.Common.{◌≡◌, ℕ, ◌+◌, sym, ap, subst, ◌∙◌, arith}
use Rattle.lbm_space.specs.Padded.{row_start, IsInterior}
use Rattle.lbm_arrays.specs.Arrays.{held}
use Rattle.lbm_sweep.proofs.Places.{first_interior}
use Rattle.lbm_two.specs.Behind.{slot_behind}
use Rattle.lbm_two.proofs.Starts.{starts_taken, starts_there}
use Rattle.lbm_two.proofs.behind.BehindSource.collide.Goals as goal

pub slots_behind-starts-requires-clause-cell : goal.slots_behind-starts-requires-clause-cell
slots_behind-starts-requires-clause-cell g c =
    let t = c.args.call.now.space.now in let slab = c.requires.slab in let some = slab.some in let inside = slab.inside in
    let first : c.row_start.result ≡ row_start t c.args.loan.now.rows.0 = c.row_start.ensures.start ∙ ap (λ (r : ℕ × ℕ). row_start t r.0) c.rows-rows.ensures in
    subst (λ (n : ℕ). IsInterior t (n + 1)) (sym first) (first_interior t c.requires.matched.space c.args.loan.now.rows.0 (omega (arith, some, inside)))

pub collide_taking-requires-clause-fitting : goal.collide_taking-requires-clause-fitting
collide_taking-requires-clause-fitting g c =
    let m = c.requires.matched in let slab = c.requires.slab in let ready = c.requires.made_ready in
    starts_there c.args.call.now.space.now m.space g.V.VelocitySet.stencil g.met.V.VelocitySet.laws c.args.self.now.space m.same_space ready.1 c.args.loan.now.rows slab.some slab.inside
    c.rows-rows.result c.rows-rows.ensures c.row_start.result c.row_start.ensures.start c.slots_behind-starts.result c.slots_behind-starts.ensures _ _ (slab.sized.lengths 0 m.table.some) ready.2

pub collide_taking-requires-clause-small : goal.collide_taking-requires-clause-small
collide_taking-requires-clause-small g c = λ i x known here.
    let m = c.requires.matched in let slab = c.requires.slab in
    subst (g.K.Kernel.small c.args.kernel.now x) (sym (starts_taken c.args.call.now.space.now m.space g.V.VelocitySet.stencil g.met.V.VelocitySet.laws c.args.self.now.space m.same_space c.requires.made_ready.1 c.args.loan.now.rows slab.some slab.inside
    c.rows-rows.result c.rows-rows.ensures c.row_start.result c.row_start.ensures.start c.slots_behind-starts.result c.slots_behind-starts.ensures c.args.call.now.read.now i x known here)) (c.requires.small x i here known)

pub returns-clause-done : goal.returns-clause-done
returns-clause-done g c =
    let v = g.V.VelocitySet.stencil in let w = c.args.self.now in let call = c.args.call.now in let m = c.requires.matched in let slab = c.requires.slab in
    c.collide_taking.ensures.done (λ rows ranges x i. held call.read.now (slot_behind w.space v x i))
    (starts_taken call.space.now m.space v g.met.V.VelocitySet.laws w.space m.same_space c.requires.made_ready.1 c.args.loan.now.rows slab.some slab.inside
    c.rows-rows.result c.rows-rows.ensures c.row_start.result c.row_start.ensures.start c.slots_behind-starts.result c.slots_behind-starts.ensures call.read.now)
