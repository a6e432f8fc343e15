use Rattle.std.proofs.Common.{◌+◌, ◌/◌, ◌%◌, pos, ◌-ℤ◌, get_or, ◌∙◌}
use Rattle.lbm_space.specs.Stencil.{velocity}
use Rattle.lbm_space.specs.Torus.{cell_number, modulo}
use Rattle.lbm_space.specs.Padded.{wrap}
use Rattle.lbm_space.proofs.Places.{wrap-behind}
use Rattle.lbm_space.proofs.Offsets.{velocity_moves}
use Rattle.lbm_space.proofs.space.Space.wrap.Goals as goal

pub returns-clause-cell : goal.returns-clause-cell
unfolding wrap
returns-clause-cell c =
    let t = c.args.self.now in let p = c.args.p in let sides = c.sides-sides.ensures.value in
    c.cell_number.ensures.number
    ∙ (λ i. cell_number t (c.wrapped-x.ensures i) (c.wrapped-y.ensures i) (c.wrapped-z.ensures i))
    ∙ (λ i. cell_number t
    (modulo (pos (p % (get_or (sides i) 0 0 + 2)) -ℤ pos 1) (get_or (sides i) 0 0))
    (modulo (pos (p / (get_or (sides i) 0 0 + 2) % (get_or (sides i) 1 0 + 2)) -ℤ pos 1) (get_or (sides i) 1 0))
    (modulo (pos (p / (get_or (sides i) 0 0 + 2) / (get_or (sides i) 1 0 + 2)) -ℤ pos (c.pads_below.ensures.count i)) (get_or (sides i) 2 0)))

pub returns-clause-behind : goal.returns-clause-behind
returns-clause-behind c = λ v i cell laws same known here at.
    let t = c.args.self.now in let space = c.sides-sides.ensures.valid in
    returns-clause-cell c ∙ wrap-behind t space (velocity v i) cell c.args.p (velocity_moves t space v laws same i known) here at
