use Rattle.std.proofs.Common.{◌+◌, ◌<◌, sym, subst, arith}
use Rattle.lbm_space.specs.Torus.{cells}
use Rattle.lbm_arrays.specs.Pads.{stand}
use Rattle.lbm_sweep.proofs.Copied.{same_space}
use Rattle.lbm_swap.specs.Exchange.{met_place}
use Rattle.lbm_swap.proofs.Pads.{HasStored, none_copied, next_known, base_known, store_more, store_passed}
use Rattle.lbm_swap.proofs.padding.store_pads_ahead.Goals as goal
use Rattle.lbm_swap.proofs.padding.store_pads_ahead.Goals.{then-is_lesser, else-is_lesser}

pub loop-dir-init : goal.loop-dir-init
loop-dir-init g c =
    let t = c.args.region.now.space in let v = g.V.VelocitySet.stencil in
    none_copied c.args.base (cells t) (λ k x. stand t (met_place t v k x)) (λ k x. met_place t v k x) c.args.region.now

pub store_pads-requires-clause-dir : goal.store_pads-requires-clause-dir
store_pads-requires-clause-dir g c =
    next_known c.args.region.now c.loop-dir.region g.V.VelocitySet.stencil.directions c.loop-dir.dir c.loop-dir.invariant.same c.requires.count (omega (arith, g.met.V.VelocitySet.constants.0, c.loop-dir-test.true, c.Q-dir-end.ensures))

pub store_pads-requires-clause-dimension : goal.store_pads-requires-clause-dimension
store_pads-requires-clause-dimension g c =
    rw (same_space c.args.region.now c.loop-dir.region c.loop-dir.invariant.same) c.requires.dimension

pub store_pads-requires-clause-base : goal.store_pads-requires-clause-base
store_pads-requires-clause-base g c =
    base_known c.args.region.now c.loop-dir.region c.args.base c.loop-dir.invariant.same c.requires.base

pub loop-dir-preserved : goal.loop-dir-preserved
loop-dir-preserved g c =
    let r = c.args.region.now in let l = c.loop-dir.region in let n = c.loop-dir.dir in let v = g.V.VelocitySet.stencil in let inv = c.loop-dir.invariant in let space = c.slots.ensures.valid.space in
    let laws = g.met.V.VelocitySet.laws in let fits = c.requires.dimension in let dir : n < v.directions = omega (arith, g.met.V.VelocitySet.constants.0, c.loop-dir-test.true, c.Q-dir-end.ensures) in
    elim c.if-is_lesser.branch [
      | then-is_lesser w ↦ subst (HasStored v c.args.base (n + 1) r) (sym w.region-is)
          (store_more r l space v c.args.base n c.requires.base laws fits dir inv w.store_pads.new.self c.is_lesser.result c.is_lesser.ensures w.if-is_lesser.true w.store_pads.ensures.stored w.store_pads.ensures.same)
      | else-is_lesser w ↦ subst (HasStored v c.args.base (n + 1) r) (sym w.region-is)
          (store_passed r l space v c.args.base n c.requires.base laws fits dir inv c.is_lesser.result c.is_lesser.ensures w.if-is_lesser.false)
    ]

pub returns-clause-stored : goal.returns-clause-stored
returns-clause-stored g c k x dir known =
    c.loop-dir.invariant.copied.done k x (omega (arith, c.loop-dir-test.false, c.Q-dir-end.ensures, g.met.V.VelocitySet.constants.0)) known
