use Rattle.std.proofs.Common.{arith}
use Rattle.lbm_space.specs.Torus.{padded}
use Rattle.lbm_arrays.specs.Pads.{stand}
use Rattle.lbm_arrays.proofs.Padding.{same_again, stand_below}
use Rattle.lbm_sweep.proofs.Copied.{same_count, same_margin, copied_next, loaded_in}
use Rattle.lbm_sweep.proofs.padding.load_all_pads.Goals as goal

pub load_pads-requires-clause-dir : goal.load_pads-requires-clause-dir
load_pads-requires-clause-dir g c =
    omega (arith, same_count c.args.region.now c.loop-dir.region c.loop-dir.invariant.same, c.requires.count, g.met.V.VelocitySet.constants.0)

pub load_pads-requires-clause-base : goal.load_pads-requires-clause-base
load_pads-requires-clause-base g c =
    omega (arith, same_margin c.args.region.now c.loop-dir.region c.loop-dir.invariant.same, c.requires.base)

pub loop-dir-preserved : goal.loop-dir-preserved
loop-dir-preserved g c =
    let r = c.args.region.now in let l = c.loop-dir.region in let new = c.load_pads.new.self in let old = c.loop-dir.invariant in
    let space = c.slots.ensures.valid.space in
    record {
      same = same_again r l new old.same c.load_pads.ensures.same;
      copied = copied_next r.space r.margin c.args.base c.loop-dir.dir (padded r.space) (λ k p. p) (λ k p. stand r.space p) r.slots l.slots new.slots old.copied
          (loaded_in r l new c.args.base c.loop-dir.dir space c.requires.base old.same c.load_pads.ensures.loaded) (λ k p below known. known) (λ p known. stand_below r.space space p known);
    }

pub returns-clause-loaded : goal.returns-clause-loaded
returns-clause-loaded g c k p dir known =
    c.loop-dir.invariant.copied.done k p (omega (arith, c.loop-dir-test.false, c.Q-dir-end.ensures, g.met.V.VelocitySet.constants.0)) known
