use Rattle.std.proofs.Common.{◌+◌, sym, subst, arith}
use Rattle.lbm_space.specs.Torus.{padded}
use Rattle.lbm_swap.specs.Exchange.{loaded_place}
use Rattle.lbm_swap.proofs.Pads.{HasLoaded, none_copied, next_known, base_known, load_more, load_passed}
use Rattle.lbm_swap.proofs.padding.load_pads_ahead.Goals as goal
use Rattle.lbm_swap.proofs.padding.load_pads_ahead.Goals.{then-is_lesser, else-is_lesser}

pub load_pads-requires-clause-dir : goal.load_pads-requires-clause-dir
load_pads-requires-clause-dir g c =
    next_known c.args.region.now c.loop-dir.region g.V.VelocitySet.stencil.directions c.loop-dir.dir c.loop-dir.invariant.same c.requires.count (omega (arith, g.met.V.VelocitySet.constants.0, c.loop-dir-test.true, c.Q-dir-end.ensures))

pub load_pads-requires-clause-base : goal.load_pads-requires-clause-base
load_pads-requires-clause-base g c =
    base_known c.args.region.now c.loop-dir.region c.args.base c.loop-dir.invariant.same c.requires.base

pub loop-dir-init : goal.loop-dir-init
loop-dir-init g c = none_copied c.args.base (padded c.args.region.now.space) (λ k p. p) (λ k p. loaded_place c.args.region.now.space g.V.VelocitySet.stencil k p) c.args.region.now

pub loop-dir-preserved : goal.loop-dir-preserved
loop-dir-preserved g c =
    let r = c.args.region.now in let l = c.loop-dir.region in let n = c.loop-dir.dir in let v = g.V.VelocitySet.stencil in let inv = c.loop-dir.invariant in let space = c.slots.ensures.valid.space in
    elim c.if-is_lesser.branch [
      | then-is_lesser w ↦ subst (HasLoaded v c.args.base (n + 1) r) (sym w.region-is)
          (load_more r l space v c.args.base n c.requires.base inv w.load_pads.new.self c.is_lesser.result c.is_lesser.ensures w.if-is_lesser.true w.load_pads.ensures.loaded w.load_pads.ensures.same)
      | else-is_lesser w ↦ subst (HasLoaded v c.args.base (n + 1) r) (sym w.region-is)
          (load_passed r l space v c.args.base n c.requires.base inv c.is_lesser.result c.is_lesser.ensures w.if-is_lesser.false)
    ]

pub returns-clause-loaded : goal.returns-clause-loaded
returns-clause-loaded g c k x dir known =
    c.loop-dir.invariant.copied.done k x (omega (arith, c.loop-dir-test.false, c.Q-dir-end.ensures, g.met.V.VelocitySet.constants.0)) known
