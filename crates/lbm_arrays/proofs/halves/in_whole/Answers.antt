use Rattle.std.proofs.Common.{ℕ, sym, subst, arith}
use Rattle.lbm_space.specs.Cuttings.{slabs_of}
use Rattle.lbm_arrays.specs.Forked.{Asks, Gives, SameOthers, marks_of, ready_in, does_in}
use Rattle.lbm_arrays.proofs.Forked.{lent_asks, whole_again, whole_done, whole_others}
use Rattle.lbm_arrays.proofs.Marks.{length-marks}
use Rattle.lbm_arrays.proofs.halves.in_whole.Goals as goal

pub by_halves-lent-requires-clause-asks : goal.by_halves-lent-requires-clause-asks
by_halves-lent-requires-clause-asks g c κs within =
    let bounds = c.args.shared.now.cut.now in let ms = marks_of c.args.shared.now.plan.now.space bounds in let some = c.slabs.ensures.cutting.some in let long = length-marks c.args.shared.now.plan.now.space bounds in
    subst (λ (m : ℕ). Asks (ready_in bounds (g.W.PieceWork.ready c.args.shared.now.work.now)) (does_in bounds (g.W.PieceWork.does c.args.shared.now.work.now)) c.args.shared.now.plan.now.firsts.items ms 0 m c.split_all-lent.result.0) (sym c.slabs.ensures.count)
    (lent_asks _ _ c.args.shared.now.plan.now.firsts.items ms (slabs_of bounds) c.args.patch c.split_all-lent.result.0 c.split_all-lent.result.1 c.requires.laid (omega arith) (omega arith) c.requires.full c.requires.ready c.split_all-lent.ensures.low c.split_all-lent.ensures.high)

-- what the halves gave, at the number of slabs
given : (g : _) (c : goal.After-merge g) → Gives (ready_in c.args.shared.now.cut.now (g.W.PieceWork.ready c.args.shared.now.work.now)) (does_in c.args.shared.now.cut.now (g.W.PieceWork.does c.args.shared.now.work.now)) c.args.shared.now.plan.now.firsts.items (marks_of c.args.shared.now.plan.now.space c.args.shared.now.cut.now) 0 (slabs_of c.args.shared.now.cut.now) c.split_all-lent.result.0 c.by_halves-lent.result.0 c.by_halves-lent.result.1
given g c = subst (λ (m : ℕ). Gives (ready_in c.args.shared.now.cut.now (g.W.PieceWork.ready c.args.shared.now.work.now)) (does_in c.args.shared.now.cut.now (g.W.PieceWork.does c.args.shared.now.work.now)) c.args.shared.now.plan.now.firsts.items (marks_of c.args.shared.now.plan.now.space c.args.shared.now.cut.now) 0 m c.split_all-lent.result.0 c.by_halves-lent.result.0 c.by_halves-lent.result.1) c.slabs.ensures.count c.by_halves-lent.ensures

pub returns-clause-full : goal.returns-clause-full
returns-clause-full g c =
    let bounds = c.args.shared.now.cut.now in let ms = marks_of c.args.shared.now.plan.now.space bounds in let some = c.slabs.ensures.cutting.some in let long = length-marks c.args.shared.now.plan.now.space bounds in
    whole_again _ _ c.args.shared.now.plan.now.firsts.items ms (slabs_of bounds) c.args.patch c.split_all-lent.result.0 c.split_all-lent.result.1 c.requires.laid (omega arith) (omega arith) c.requires.full c.requires.ready c.split_all-lent.ensures.low c.split_all-lent.ensures.high
    c.by_halves-lent.result.0 c.merge.result _ (given g c) c.merge.ensures.places c.merge.ensures.items c.merge.ensures.mine

pub returns-clause-did : goal.returns-clause-did
returns-clause-did g c =
    let bounds = c.args.shared.now.cut.now in let ms = marks_of c.args.shared.now.plan.now.space bounds in let some = c.slabs.ensures.cutting.some in let long = length-marks c.args.shared.now.plan.now.space bounds in
    whole_done _ _ c.args.shared.now.plan.now.firsts.items ms (slabs_of bounds) c.args.patch c.split_all-lent.result.0 c.split_all-lent.result.1 c.requires.laid (omega arith) (omega arith) c.requires.full c.requires.ready c.split_all-lent.ensures.low c.split_all-lent.ensures.high
    c.by_halves-lent.result.0 c.merge.result _ (given g c) c.merge.ensures.places c.merge.ensures.items c.merge.ensures.mine

pub returns-clause-others : goal.returns-clause-others
returns-clause-others g c =
    let bounds = c.args.shared.now.cut.now in let ms = marks_of c.args.shared.now.plan.now.space bounds in let some = c.slabs.ensures.cutting.some in let long = length-marks c.args.shared.now.plan.now.space bounds in let ends = c.split_all-lent.ensures.ends in
    subst (λ (w : ℕ × ℕ). SameOthers c.args.shared.now.plan.now.firsts.items w.0 w.1 c.args.patch.items c.merge.result.items) (λ i. (ends.0 i, ends.1 i))
    (whole_others _ _ c.args.shared.now.plan.now.firsts.items ms (slabs_of bounds) c.args.patch c.split_all-lent.result.0 c.split_all-lent.result.1 c.requires.laid (omega arith) (omega arith) c.requires.full c.requires.ready c.split_all-lent.ensures.low c.split_all-lent.ensures.high
    c.by_halves-lent.result.0 c.merge.result _ (given g c) c.merge.ensures.places c.merge.ensures.items c.merge.ensures.mine)
