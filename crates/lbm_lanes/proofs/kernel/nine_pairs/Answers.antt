use Rattle.std.proofs.Common.{◌+◌, arith, eqb}
use Rattle.std.specs.Prelude.{not}
use Rattle.lbm_lanes.specs.Cells.{after}
use Rattle.lbm_lanes.proofs.Advancing.{progress_at}
use Rattle.lbm_lanes.proofs.kernel.nine_pairs.Goals as goal

pub pair-second-requires-clause-progress : goal.pair-second-requires-clause-progress
pair-second-requires-clause-progress g c =
    let v = g.V.VelocitySet.stencil in let R = g.R.Rows in let k = c.args.fluid.now.flags in let a = g.row.I0 in
    let h = c.requires.progress.0 in let cells = c.requires.progress.1 in let p = c.requires.progress.2 in
    let A = after v c.args.run.now.rates c.args.run.now.force (not (eqb g.row.MIXED 0)) k.colliding k.turning h in
    let p1 = progress_at v (R.count c.pair-first.new.rows) (a + 1) (a + 1) A h (R.there c.pair-first.new.rows) (R.sent c.pair-first.new.rows) c.pair-first.result (omega arith) (c.pair-first.ensures.progress h cells p) in
    (h, cells, p1)

pub pair-third-requires-clause-progress : goal.pair-third-requires-clause-progress
pair-third-requires-clause-progress g c =
    let v = g.V.VelocitySet.stencil in let R = g.R.Rows in let k = c.args.fluid.now.flags in let a = g.row.I0 in
    let h = c.requires.progress.0 in let cells = c.requires.progress.1 in let p = c.requires.progress.2 in
    let A = after v c.args.run.now.rates c.args.run.now.force (not (eqb g.row.MIXED 0)) k.colliding k.turning h in
    let p1 = progress_at v (R.count c.pair-first.new.rows) (a + 1) (a + 1) A h (R.there c.pair-first.new.rows) (R.sent c.pair-first.new.rows) c.pair-first.result (omega arith) (c.pair-first.ensures.progress h cells p) in
    let p2 = progress_at v (R.count c.pair-second.new.rows) (a + 1 + 1) (a + 2) A h (R.there c.pair-second.new.rows) (R.sent c.pair-second.new.rows) c.pair-second.result (omega arith) (c.pair-second.ensures.progress h cells p1) in
    (h, cells, p2)

pub pair-fourth-requires-clause-progress : goal.pair-fourth-requires-clause-progress
pair-fourth-requires-clause-progress g c =
    let v = g.V.VelocitySet.stencil in let R = g.R.Rows in let k = c.args.fluid.now.flags in let a = g.row.I0 in
    let h = c.requires.progress.0 in let cells = c.requires.progress.1 in let p = c.requires.progress.2 in
    let A = after v c.args.run.now.rates c.args.run.now.force (not (eqb g.row.MIXED 0)) k.colliding k.turning h in
    let p1 = progress_at v (R.count c.pair-first.new.rows) (a + 1) (a + 1) A h (R.there c.pair-first.new.rows) (R.sent c.pair-first.new.rows) c.pair-first.result (omega arith) (c.pair-first.ensures.progress h cells p) in
    let p2 = progress_at v (R.count c.pair-second.new.rows) (a + 1 + 1) (a + 2) A h (R.there c.pair-second.new.rows) (R.sent c.pair-second.new.rows) c.pair-second.result (omega arith) (c.pair-second.ensures.progress h cells p1) in
    let p3 = progress_at v (R.count c.pair-third.new.rows) (a + 2 + 1) (a + 3) A h (R.there c.pair-third.new.rows) (R.sent c.pair-third.new.rows) c.pair-third.result (omega arith) (c.pair-third.ensures.progress h cells p2) in
    (h, cells, p3)

pub pair-fifth-requires-clause-progress : goal.pair-fifth-requires-clause-progress
pair-fifth-requires-clause-progress g c =
    let v = g.V.VelocitySet.stencil in let R = g.R.Rows in let k = c.args.fluid.now.flags in let a = g.row.I0 in
    let h = c.requires.progress.0 in let cells = c.requires.progress.1 in let p = c.requires.progress.2 in
    let A = after v c.args.run.now.rates c.args.run.now.force (not (eqb g.row.MIXED 0)) k.colliding k.turning h in
    let p1 = progress_at v (R.count c.pair-first.new.rows) (a + 1) (a + 1) A h (R.there c.pair-first.new.rows) (R.sent c.pair-first.new.rows) c.pair-first.result (omega arith) (c.pair-first.ensures.progress h cells p) in
    let p2 = progress_at v (R.count c.pair-second.new.rows) (a + 1 + 1) (a + 2) A h (R.there c.pair-second.new.rows) (R.sent c.pair-second.new.rows) c.pair-second.result (omega arith) (c.pair-second.ensures.progress h cells p1) in
    let p3 = progress_at v (R.count c.pair-third.new.rows) (a + 2 + 1) (a + 3) A h (R.there c.pair-third.new.rows) (R.sent c.pair-third.new.rows) c.pair-third.result (omega arith) (c.pair-third.ensures.progress h cells p2) in
    let p4 = progress_at v (R.count c.pair-fourth.new.rows) (a + 3 + 1) (a + 4) A h (R.there c.pair-fourth.new.rows) (R.sent c.pair-fourth.new.rows) c.pair-fourth.result (omega arith) (c.pair-fourth.ensures.progress h cells p3) in
    (h, cells, p4)

pub pair-sixth-requires-clause-progress : goal.pair-sixth-requires-clause-progress
pair-sixth-requires-clause-progress g c =
    let v = g.V.VelocitySet.stencil in let R = g.R.Rows in let k = c.args.fluid.now.flags in let a = g.row.I0 in
    let h = c.requires.progress.0 in let cells = c.requires.progress.1 in let p = c.requires.progress.2 in
    let A = after v c.args.run.now.rates c.args.run.now.force (not (eqb g.row.MIXED 0)) k.colliding k.turning h in
    let p1 = progress_at v (R.count c.pair-first.new.rows) (a + 1) (a + 1) A h (R.there c.pair-first.new.rows) (R.sent c.pair-first.new.rows) c.pair-first.result (omega arith) (c.pair-first.ensures.progress h cells p) in
    let p2 = progress_at v (R.count c.pair-second.new.rows) (a + 1 + 1) (a + 2) A h (R.there c.pair-second.new.rows) (R.sent c.pair-second.new.rows) c.pair-second.result (omega arith) (c.pair-second.ensures.progress h cells p1) in
    let p3 = progress_at v (R.count c.pair-third.new.rows) (a + 2 + 1) (a + 3) A h (R.there c.pair-third.new.rows) (R.sent c.pair-third.new.rows) c.pair-third.result (omega arith) (c.pair-third.ensures.progress h cells p2) in
    let p4 = progress_at v (R.count c.pair-fourth.new.rows) (a + 3 + 1) (a + 4) A h (R.there c.pair-fourth.new.rows) (R.sent c.pair-fourth.new.rows) c.pair-fourth.result (omega arith) (c.pair-fourth.ensures.progress h cells p3) in
    let p5 = progress_at v (R.count c.pair-fifth.new.rows) (a + 4 + 1) (a + 5) A h (R.there c.pair-fifth.new.rows) (R.sent c.pair-fifth.new.rows) c.pair-fifth.result (omega arith) (c.pair-fifth.ensures.progress h cells p4) in
    (h, cells, p5)

pub pair-seventh-requires-clause-progress : goal.pair-seventh-requires-clause-progress
pair-seventh-requires-clause-progress g c =
    let v = g.V.VelocitySet.stencil in let R = g.R.Rows in let k = c.args.fluid.now.flags in let a = g.row.I0 in
    let h = c.requires.progress.0 in let cells = c.requires.progress.1 in let p = c.requires.progress.2 in
    let A = after v c.args.run.now.rates c.args.run.now.force (not (eqb g.row.MIXED 0)) k.colliding k.turning h in
    let p1 = progress_at v (R.count c.pair-first.new.rows) (a + 1) (a + 1) A h (R.there c.pair-first.new.rows) (R.sent c.pair-first.new.rows) c.pair-first.result (omega arith) (c.pair-first.ensures.progress h cells p) in
    let p2 = progress_at v (R.count c.pair-second.new.rows) (a + 1 + 1) (a + 2) A h (R.there c.pair-second.new.rows) (R.sent c.pair-second.new.rows) c.pair-second.result (omega arith) (c.pair-second.ensures.progress h cells p1) in
    let p3 = progress_at v (R.count c.pair-third.new.rows) (a + 2 + 1) (a + 3) A h (R.there c.pair-third.new.rows) (R.sent c.pair-third.new.rows) c.pair-third.result (omega arith) (c.pair-third.ensures.progress h cells p2) in
    let p4 = progress_at v (R.count c.pair-fourth.new.rows) (a + 3 + 1) (a + 4) A h (R.there c.pair-fourth.new.rows) (R.sent c.pair-fourth.new.rows) c.pair-fourth.result (omega arith) (c.pair-fourth.ensures.progress h cells p3) in
    let p5 = progress_at v (R.count c.pair-fifth.new.rows) (a + 4 + 1) (a + 5) A h (R.there c.pair-fifth.new.rows) (R.sent c.pair-fifth.new.rows) c.pair-fifth.result (omega arith) (c.pair-fifth.ensures.progress h cells p4) in
    let p6 = progress_at v (R.count c.pair-sixth.new.rows) (a + 5 + 1) (a + 6) A h (R.there c.pair-sixth.new.rows) (R.sent c.pair-sixth.new.rows) c.pair-sixth.result (omega arith) (c.pair-sixth.ensures.progress h cells p5) in
    (h, cells, p6)

pub pair-eighth-requires-clause-progress : goal.pair-eighth-requires-clause-progress
pair-eighth-requires-clause-progress g c =
    let v = g.V.VelocitySet.stencil in let R = g.R.Rows in let k = c.args.fluid.now.flags in let a = g.row.I0 in
    let h = c.requires.progress.0 in let cells = c.requires.progress.1 in let p = c.requires.progress.2 in
    let A = after v c.args.run.now.rates c.args.run.now.force (not (eqb g.row.MIXED 0)) k.colliding k.turning h in
    let p1 = progress_at v (R.count c.pair-first.new.rows) (a + 1) (a + 1) A h (R.there c.pair-first.new.rows) (R.sent c.pair-first.new.rows) c.pair-first.result (omega arith) (c.pair-first.ensures.progress h cells p) in
    let p2 = progress_at v (R.count c.pair-second.new.rows) (a + 1 + 1) (a + 2) A h (R.there c.pair-second.new.rows) (R.sent c.pair-second.new.rows) c.pair-second.result (omega arith) (c.pair-second.ensures.progress h cells p1) in
    let p3 = progress_at v (R.count c.pair-third.new.rows) (a + 2 + 1) (a + 3) A h (R.there c.pair-third.new.rows) (R.sent c.pair-third.new.rows) c.pair-third.result (omega arith) (c.pair-third.ensures.progress h cells p2) in
    let p4 = progress_at v (R.count c.pair-fourth.new.rows) (a + 3 + 1) (a + 4) A h (R.there c.pair-fourth.new.rows) (R.sent c.pair-fourth.new.rows) c.pair-fourth.result (omega arith) (c.pair-fourth.ensures.progress h cells p3) in
    let p5 = progress_at v (R.count c.pair-fifth.new.rows) (a + 4 + 1) (a + 5) A h (R.there c.pair-fifth.new.rows) (R.sent c.pair-fifth.new.rows) c.pair-fifth.result (omega arith) (c.pair-fifth.ensures.progress h cells p4) in
    let p6 = progress_at v (R.count c.pair-sixth.new.rows) (a + 5 + 1) (a + 6) A h (R.there c.pair-sixth.new.rows) (R.sent c.pair-sixth.new.rows) c.pair-sixth.result (omega arith) (c.pair-sixth.ensures.progress h cells p5) in
    let p7 = progress_at v (R.count c.pair-seventh.new.rows) (a + 6 + 1) (a + 7) A h (R.there c.pair-seventh.new.rows) (R.sent c.pair-seventh.new.rows) c.pair-seventh.result (omega arith) (c.pair-seventh.ensures.progress h cells p6) in
    (h, cells, p7)

pub pair-requires-clause-progress : goal.pair-requires-clause-progress
pair-requires-clause-progress g c =
    let v = g.V.VelocitySet.stencil in let R = g.R.Rows in let k = c.args.fluid.now.flags in let a = g.row.I0 in
    let h = c.requires.progress.0 in let cells = c.requires.progress.1 in let p = c.requires.progress.2 in
    let A = after v c.args.run.now.rates c.args.run.now.force (not (eqb g.row.MIXED 0)) k.colliding k.turning h in
    let p1 = progress_at v (R.count c.pair-first.new.rows) (a + 1) (a + 1) A h (R.there c.pair-first.new.rows) (R.sent c.pair-first.new.rows) c.pair-first.result (omega arith) (c.pair-first.ensures.progress h cells p) in
    let p2 = progress_at v (R.count c.pair-second.new.rows) (a + 1 + 1) (a + 2) A h (R.there c.pair-second.new.rows) (R.sent c.pair-second.new.rows) c.pair-second.result (omega arith) (c.pair-second.ensures.progress h cells p1) in
    let p3 = progress_at v (R.count c.pair-third.new.rows) (a + 2 + 1) (a + 3) A h (R.there c.pair-third.new.rows) (R.sent c.pair-third.new.rows) c.pair-third.result (omega arith) (c.pair-third.ensures.progress h cells p2) in
    let p4 = progress_at v (R.count c.pair-fourth.new.rows) (a + 3 + 1) (a + 4) A h (R.there c.pair-fourth.new.rows) (R.sent c.pair-fourth.new.rows) c.pair-fourth.result (omega arith) (c.pair-fourth.ensures.progress h cells p3) in
    let p5 = progress_at v (R.count c.pair-fifth.new.rows) (a + 4 + 1) (a + 5) A h (R.there c.pair-fifth.new.rows) (R.sent c.pair-fifth.new.rows) c.pair-fifth.result (omega arith) (c.pair-fifth.ensures.progress h cells p4) in
    let p6 = progress_at v (R.count c.pair-sixth.new.rows) (a + 5 + 1) (a + 6) A h (R.there c.pair-sixth.new.rows) (R.sent c.pair-sixth.new.rows) c.pair-sixth.result (omega arith) (c.pair-sixth.ensures.progress h cells p5) in
    let p7 = progress_at v (R.count c.pair-seventh.new.rows) (a + 6 + 1) (a + 7) A h (R.there c.pair-seventh.new.rows) (R.sent c.pair-seventh.new.rows) c.pair-seventh.result (omega arith) (c.pair-seventh.ensures.progress h cells p6) in
    let p8 = progress_at v (R.count c.pair-eighth.new.rows) (a + 7 + 1) (a + 8) A h (R.there c.pair-eighth.new.rows) (R.sent c.pair-eighth.new.rows) c.pair-eighth.result (omega arith) (c.pair-eighth.ensures.progress h cells p7) in
    (h, cells, p8)

pub returns-clause-progress : goal.returns-clause-progress
returns-clause-progress g c h cells p =
    let v = g.V.VelocitySet.stencil in let R = g.R.Rows in let k = c.args.fluid.now.flags in let a = g.row.I0 in
    let A = after v c.args.run.now.rates c.args.run.now.force (not (eqb g.row.MIXED 0)) k.colliding k.turning h in
    let p1 = progress_at v (R.count c.pair-first.new.rows) (a + 1) (a + 1) A h (R.there c.pair-first.new.rows) (R.sent c.pair-first.new.rows) c.pair-first.result (omega arith) (c.pair-first.ensures.progress h cells p) in
    let p2 = progress_at v (R.count c.pair-second.new.rows) (a + 1 + 1) (a + 2) A h (R.there c.pair-second.new.rows) (R.sent c.pair-second.new.rows) c.pair-second.result (omega arith) (c.pair-second.ensures.progress h cells p1) in
    let p3 = progress_at v (R.count c.pair-third.new.rows) (a + 2 + 1) (a + 3) A h (R.there c.pair-third.new.rows) (R.sent c.pair-third.new.rows) c.pair-third.result (omega arith) (c.pair-third.ensures.progress h cells p2) in
    let p4 = progress_at v (R.count c.pair-fourth.new.rows) (a + 3 + 1) (a + 4) A h (R.there c.pair-fourth.new.rows) (R.sent c.pair-fourth.new.rows) c.pair-fourth.result (omega arith) (c.pair-fourth.ensures.progress h cells p3) in
    let p5 = progress_at v (R.count c.pair-fifth.new.rows) (a + 4 + 1) (a + 5) A h (R.there c.pair-fifth.new.rows) (R.sent c.pair-fifth.new.rows) c.pair-fifth.result (omega arith) (c.pair-fifth.ensures.progress h cells p4) in
    let p6 = progress_at v (R.count c.pair-sixth.new.rows) (a + 5 + 1) (a + 6) A h (R.there c.pair-sixth.new.rows) (R.sent c.pair-sixth.new.rows) c.pair-sixth.result (omega arith) (c.pair-sixth.ensures.progress h cells p5) in
    let p7 = progress_at v (R.count c.pair-seventh.new.rows) (a + 6 + 1) (a + 7) A h (R.there c.pair-seventh.new.rows) (R.sent c.pair-seventh.new.rows) c.pair-seventh.result (omega arith) (c.pair-seventh.ensures.progress h cells p6) in
    let p8 = progress_at v (R.count c.pair-eighth.new.rows) (a + 7 + 1) (a + 8) A h (R.there c.pair-eighth.new.rows) (R.sent c.pair-eighth.new.rows) c.pair-eighth.result (omega arith) (c.pair-eighth.ensures.progress h cells p7) in
    let p9 = progress_at v (R.count c.pair.new.rows) (a + 8 + 1) (a + 9) A h (R.there c.pair.new.rows) (R.sent c.pair.new.rows) c.pair.result (omega arith) (c.pair.ensures.progress h cells p8) in
    p9

pub returns-clause-kept : goal.returns-clause-kept
returns-clause-kept g c =
    let R = g.R.Rows in let on = g.met.R.Rows.kept_on in let rows = c.args.rows.now in
    let k2 : R.kept rows c.pair-second.new.rows = on rows c.pair-first.new.rows c.pair-second.new.rows c.pair-first.ensures.kept c.pair-second.ensures.kept in
    let k3 : R.kept rows c.pair-third.new.rows = on rows c.pair-second.new.rows c.pair-third.new.rows k2 c.pair-third.ensures.kept in
    let k4 : R.kept rows c.pair-fourth.new.rows = on rows c.pair-third.new.rows c.pair-fourth.new.rows k3 c.pair-fourth.ensures.kept in
    let k5 : R.kept rows c.pair-fifth.new.rows = on rows c.pair-fourth.new.rows c.pair-fifth.new.rows k4 c.pair-fifth.ensures.kept in
    let k6 : R.kept rows c.pair-sixth.new.rows = on rows c.pair-fifth.new.rows c.pair-sixth.new.rows k5 c.pair-sixth.ensures.kept in
    let k7 : R.kept rows c.pair-seventh.new.rows = on rows c.pair-sixth.new.rows c.pair-seventh.new.rows k6 c.pair-seventh.ensures.kept in
    let k8 : R.kept rows c.pair-eighth.new.rows = on rows c.pair-seventh.new.rows c.pair-eighth.new.rows k7 c.pair-eighth.ensures.kept in
    on rows c.pair-eighth.new.rows c.pair.new.rows k8 c.pair.ensures.kept
