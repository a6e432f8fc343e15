use Rattle.std.proofs.Common.{◌≡◌, ◌+◌, length, slice_index, refl, sym, subst, arith, rules}
use Rattle.lbm_arrays.specs.Lent.{Place}
use Rattle.lbm_sweep.specs.Held.{BeginAt}
use Rattle.lbm_sweep.proofs.Held.{apart, stored_in}
use Rattle.lbm_sweep.proofs.rows.ClearRowsRows.put.Goals as goal

pub invariant_of-self : goal.invariant_of-self
invariant_of-self g c =
    let w = c.args.self.now in let q = g.V.VelocitySet.stencil.directions in let dir = c.args.dir in let done = c.store_block.ensures in
    let long : length c.args.lanes ≡ 8 = search rules in let few = w.within.few in
    let put = stored_in q w.at 8 w.loan.now w.within w.writes.now w.to.now w.table w.begins dir c.requires c.args.lanes c.store_block.new.self (omega (arith, long, few)) done.rows done.place done.ranges in
    record {
      within = put.within;
      table = w.table;
      begins = subst (λ (p : Place). BeginAt q p w.writes.now w.to.now) (sym done.place) w.begins;
      fitting = g.met.T.Taking.still_fits w.taking.now w.writes.now w.loan.now c.store_block.new.self w.at (w.at + 8) put.but w.fitting;
      clear = w.clear;
    }

pub returns-clause-sent : goal.returns-clause-sent
returns-clause-sent g c =
    let w = c.args.self.now in let q = g.V.VelocitySet.stencil.directions in let dir = c.args.dir in let done = c.store_block.ensures in
    let long : length c.args.lanes ≡ 8 = search rules in let few = w.within.few in
    let put = stored_in q w.at 8 w.loan.now w.within w.writes.now w.to.now w.table w.begins dir c.requires c.args.lanes c.store_block.new.self (omega (arith, long, few)) done.rows done.place done.ranges in
    put.here

pub returns-clause-still_sent : goal.returns-clause-still_sent
returns-clause-still_sent g c = λ i j known ne lane.
    let w = c.args.self.now in let q = g.V.VelocitySet.stencil.directions in let dir = c.args.dir in let done = c.store_block.ensures in
    let long : length c.args.lanes ≡ 8 = search rules in let few = w.within.few in
    let put = stored_in q w.at 8 w.loan.now w.within w.writes.now w.to.now w.table w.begins dir c.requires c.args.lanes c.store_block.new.self (omega (arith, long, few)) done.rows done.place done.ranges in
    put.other (slice_index w.writes.now i) (w.at + j) (apart q w.writes.now w.table i dir known c.requires ne)

pub returns-clause-still_there : goal.returns-clause-still_there
returns-clause-still_there g c = λ i j known ne opposite lane.
    let w = c.args.self.now in let q = g.V.VelocitySet.stencil.directions in let dir = c.args.dir in let done = c.store_block.ensures in
    let long : length c.args.lanes ≡ 8 = search rules in let few = w.within.few in
    let put = stored_in q w.at 8 w.loan.now w.within w.writes.now w.to.now w.table w.begins dir c.requires c.args.lanes c.store_block.new.self (omega (arith, long, few)) done.rows done.place done.ranges in
    g.met.T.Taking.still_there w.taking.now w.writes.now w.loan.now c.store_block.new.self dir w.fitting c.requires put.other i (w.at + j) known ne opposite

pub returns-clause-kept : goal.returns-clause-kept
returns-clause-kept g c =
    let w = c.args.self.now in let q = g.V.VelocitySet.stencil.directions in let dir = c.args.dir in let done = c.store_block.ensures in
    let long : length c.args.lanes ≡ 8 = search rules in let few = w.within.few in
    let put = stored_in q w.at 8 w.loan.now w.within w.writes.now w.to.now w.table w.begins dir c.requires c.args.lanes c.store_block.new.self (omega (arith, long, few)) done.rows done.place done.ranges in
    (refl, refl, refl, refl, put.but)
