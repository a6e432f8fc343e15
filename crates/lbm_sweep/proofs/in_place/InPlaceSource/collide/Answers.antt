use Rattle.std.proofs.Common.{ℕ, List, slice_index, sym, subst, arith}
use Rattle.lbm_cell.specs.Rows.{entry}
use Rattle.lbm_walk.specs.Places.{local}
use Rattle.lbm_sweep.specs.Held.{IsExchange}
use Rattle.lbm_sweep.proofs.in_place.InPlaceSource.collide.Goals as goal

pub collide_taking-requires-clause-fitting : goal.collide_taking-requires-clause-fitting
collide_taking-requires-clause-fitting g c =
    let v = g.V.VelocitySet.stencil in let writes = c.args.call.now.writes.now in
    let exchange : IsExchange v c.as_slice-reads.result.now writes = subst (λ (l : List ℕ). IsExchange v l writes) (sym c.as_slice-reads.ensures.value) c.requires.spared in
    let count = exchange.taken.count in
    (exchange, λ i known. c.first_slots-from.ensures i (omega (arith, count, known)))

pub collide_taking-requires-clause-small : goal.collide_taking-requires-clause-small
collide_taking-requires-clause-small g c = λ i x known here.
    let loan = c.args.loan.now in let m = c.requires.matched in
    subst (g.K.Kernel.small c.args.kernel.now x) (λ j. entry loan.ranges (slice_index (sym c.as_slice-reads.ensures.value j) i) (local (m.same_space j) loan.rows x)) (c.requires.small x i here known)

pub returns-clause-done : goal.returns-clause-done
returns-clause-done g c =
    let w = c.args.self.now in let loan = c.args.loan.now in let m = c.requires.matched in
    c.collide_taking.ensures.done (λ rows ranges x i. entry ranges (slice_index w.reads.items i) (local w.space rows x))
    (λ i x known here j. entry loan.ranges (slice_index (c.as_slice-reads.ensures.value j) i) (local (sym m.same_space j) loan.rows x))
