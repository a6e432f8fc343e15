use Rattle.std.proofs.Common.{◌≡◌, get_or, ap, arith}
use Rattle.lbm_arrays.proofs.Lines.{line_inside}
use Rattle.lbm_arrays.proofs.pads.line_of.Goals as goal

pub returns-clause-inside : goal.returns-clause-inside
returns-clause-inside c =
    let t = c.args.space.now in
    let wide : get_or c.sides-sides.result 0 0 ≡ t.nx = ap (λ l. get_or l 0 0) c.sides-sides.ensures.value in
    let high : get_or c.sides-sides.result 1 0 ≡ t.ny = ap (λ l. get_or l 1 0) c.sides-sides.ensures.value in
    let inside = line_inside t c.sides-sides.ensures.valid c.args.y c.args.z c.requires.y c.requires.z in
    rw (wide, high) (omega (arith, inside))
