use Rattle.std.proofs.Common.{ℕ, ◌<◌, sym, subst, arith, rules}
use Rattle.lbm_walk.specs.Places.{local, InRows}
use Rattle.lbm_sweep.proofs.Columns.{columns_walked}
use Rattle.lbm_sweep.proofs.Held.{within_slab}
use Rattle.lbm_sweep.proofs.rows.collide_taking.Goals as goal

pub invariant_of-walk : goal.invariant_of-walk
invariant_of-walk g c =
    let q = g.V.VelocitySet.stencil.directions in let loan = c.args.loan.now in let table = c.requires.table in let count = table.count in
    record {
      within = within_slab c.args.call.now.space.now q loan.rows loan.ranges c.requires.space table.some c.requires.few c.requires.slab;
      table = table;
      begins = λ i known. c.first_slots-to.ensures i (omega (arith, count, known));
      fitting = c.requires.fitting;
    }

pub collide_slab-requires-clause-small : goal.collide_slab-requires-clause-small
collide_slab-requires-clause-small g c =
    let t = c.args.call.now.space.now in
    subst (λ (rows : ℕ × ℕ). (i x : ℕ) → i < g.V.VelocitySet.stencil.directions → InRows t rows x → g.K.Kernel.small c.args.kernel.now x (g.T.Taking.taken c.args.taking.now c.args.loan.now i (local t rows x))) (sym c.rows-rows.ensures) c.requires.small

pub returns-clause-done : goal.returns-clause-done
returns-clause-done g c = λ before is.
    let loan = c.args.loan.now in let call = c.args.call.now in let K = g.K.Kernel in let kernel = c.args.kernel.now in
    let same = c.collide_slab.ensures.same in let name = same.0 in let writes = same.2 in
    columns_walked (K.sound kernel) (K.post kernel) g.V.VelocitySet.stencil.directions call.writes.now call.space.now (λ i p. g.T.Taking.taken c.args.taking.now loan i p) _ loan.ranges _ c.collide_slab.result c.requires.space loan.rows c.rows-rows.result c.rows-rows.ensures
    before is
    (λ i p known. search rules)
    (λ f there. c.collide_slab.ensures.done f there)
    (λ k p off. search (rules, c.collide_slab.ensures.others))
