use Rattle.std.proofs.Common.{◌≡◌, arith, ap}
use Rattle.lbm_space.specs.Torus.{Torus}
use Rattle.lbm_space.proofs.Cells.{lines_within}
use Rattle.lbm_space.proofs.Back.{x_of-cell_number, y_of-cell_number, z_of-cell_number}
use Rattle.lbm_space.proofs.space.Space.cell_number.Goals as goal

pub overflow_mul-result-2 : goal.overflow_mul-result-2
overflow_mul-result-2 c = grind (arith, lines_within)

pub returns-clause-inverse_x : goal.returns-clause-inverse_x
returns-clause-inverse_x c =
    let nx : c.self.inside.nx ≡ c.args.self.now.nx = ap (λ (t : Torus). t.nx) c.self.view_is in
    let ny : c.self.inside.ny ≡ c.args.self.now.ny = ap (λ (t : Torus). t.ny) c.self.view_is in
    rw (nx, ny) (x_of-cell_number c.args.self.now c.args.x c.args.y c.args.z c.requires.x_known)

pub returns-clause-inverse_y : goal.returns-clause-inverse_y
returns-clause-inverse_y c =
    let nx : c.self.inside.nx ≡ c.args.self.now.nx = ap (λ (t : Torus). t.nx) c.self.view_is in
    let ny : c.self.inside.ny ≡ c.args.self.now.ny = ap (λ (t : Torus). t.ny) c.self.view_is in
    rw (nx, ny) (y_of-cell_number c.args.self.now c.args.x c.args.y c.args.z c.requires.x_known c.requires.y_known)

pub returns-clause-inverse_z : goal.returns-clause-inverse_z
returns-clause-inverse_z c =
    let nx : c.self.inside.nx ≡ c.args.self.now.nx = ap (λ (t : Torus). t.nx) c.self.view_is in
    let ny : c.self.inside.ny ≡ c.args.self.now.ny = ap (λ (t : Torus). t.ny) c.self.view_is in
    rw (nx, ny) (z_of-cell_number c.args.self.now c.args.x c.args.y c.args.z c.requires.x_known c.requires.y_known)
