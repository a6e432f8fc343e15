use Rattle.std.proofs.Common.{◌<◌, arith}
use Rattle.lbm_space.specs.Stencil.{velocity}
use Rattle.lbm_space.specs.Torus.{cells}
use Rattle.lbm_space.specs.Padded.{place_ahead}
use Rattle.lbm_space.proofs.Offsets.{place_ahead_below}
use Rattle.lbm_arrays.specs.Pads.{stand}
use Rattle.lbm_arrays.proofs.Padding.{same_again, stand_below}
use Rattle.lbm_sweep.proofs.Copied.{same_space, same_count, same_margin, copied_next, stored_in}
use Rattle.lbm_sweep.proofs.padding.store_all_pads.Goals as goal

pub store_pads-requires-clause-dir : goal.store_pads-requires-clause-dir
store_pads-requires-clause-dir g c =
    omega (arith, same_count c.args.region.now c.loop-dir.region c.loop-dir.invariant.same, c.requires.count, g.met.V.VelocitySet.constants.0)

pub store_pads-requires-clause-dimension : goal.store_pads-requires-clause-dimension
store_pads-requires-clause-dimension g c =
    rw (same_space c.args.region.now c.loop-dir.region c.loop-dir.invariant.same) c.requires.dimension

pub store_pads-requires-clause-base : goal.store_pads-requires-clause-base
store_pads-requires-clause-base g c =
    omega (arith, same_margin c.args.region.now c.loop-dir.region c.loop-dir.invariant.same, c.requires.base)

pub loop-dir-preserved : goal.loop-dir-preserved
loop-dir-preserved g c =
    let r = c.args.region.now in let l = c.loop-dir.region in let new = c.store_pads.new.self in let old = c.loop-dir.invariant in
    let v = g.V.VelocitySet.stencil in let laws = g.met.V.VelocitySet.laws in let fits = c.requires.dimension in
    let space = c.slots.ensures.valid.space in let dir : c.loop-dir.dir < v.directions = omega (arith, g.met.V.VelocitySet.constants.0) in
    record {
      same = same_again r l new old.same c.store_pads.ensures.same;
      copied = copied_next r.space r.margin c.args.base c.loop-dir.dir (cells r.space) (λ k cell. stand r.space (place_ahead r.space (velocity v k) cell)) (λ k cell. place_ahead r.space (velocity v k) cell) r.slots l.slots new.slots old.copied
          (stored_in r l new c.args.base c.loop-dir.dir v laws fits dir space c.requires.base old.same c.store_pads.ensures.stored)
          (λ k cell before known. stand_below r.space space (place_ahead r.space (velocity v k) cell) (place_ahead_below r.space space v laws fits k cell (omega (arith, before, dir)) known))
          (λ cell known. place_ahead_below r.space space v laws fits c.loop-dir.dir cell dir known);
    }

pub returns-clause-stored : goal.returns-clause-stored
returns-clause-stored g c k cell dir known =
    c.loop-dir.invariant.copied.done k cell (omega (arith, c.loop-dir-test.false, c.Q-dir-end.ensures, g.met.V.VelocitySet.constants.0)) known
