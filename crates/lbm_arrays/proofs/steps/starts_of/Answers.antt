use Rattle.std.proofs.Common.{arith}
use Rattle.lbm_space.specs.Torus.{rows}
use Rattle.lbm_space.proofs.RowStarts.{row_start_rises}
use Rattle.lbm_arrays.proofs.Moves.{reach_low, reach_high, starts_apart}
use Rattle.lbm_arrays.proofs.steps.starts_of.Goals as goal

pub returns-clause-apart : goal.returns-clause-apart
returns-clause-apart g c =
    let t = c.args.space.now in let rs = c.requires.rows in
    let far = starts_apart t c.row_start.ensures.valid g.V.VelocitySet.stencil g.met.V.VelocitySet.laws c.requires.dimension c.args.rows.0 c.args.rows.1 rs.0 rs.1 in
    let a = c.row_start.ensures.start in let b = c.row_start-2.ensures.start in omega (arith, far, a, b)

pub returns-clause-low : goal.returns-clause-low
returns-clause-low g c =
    let t = c.args.space.now in let rs = c.requires.rows in let less = rs.0 in let known = rs.1 in
    let near = reach_low t c.row_start.ensures.valid g.V.VelocitySet.stencil g.met.V.VelocitySet.laws c.requires.dimension in
    let up = row_start_rises t c.row_start.ensures.valid 0 c.args.rows.0 (omega arith) (omega (arith, less, known)) in let a = c.row_start.ensures.start in omega (arith, near, up, a)

pub returns-clause-high : goal.returns-clause-high
returns-clause-high g c =
    let t = c.args.space.now in let rs = c.requires.rows in
    let near = reach_high t c.row_start.ensures.valid g.V.VelocitySet.stencil g.met.V.VelocitySet.laws c.requires.dimension in
    let up = row_start_rises t c.row_start.ensures.valid c.args.rows.1 (rows t) rs.1 (omega arith) in let b = c.row_start-2.ensures.start in omega (arith, near, up, b)
