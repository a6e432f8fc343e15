use Rattle.std.proofs.Common.{◌≤◌, ◌+ℤ◌, ◌*ℤ◌, unsigned_abs, ℤ, refl, arith}
use Rattle.lbm_cell.proofs.Sizes.{product_size, unsigned_abs-add}
use Rattle.lbm_tracer.proofs.Sets.{named_facts}
use Rattle.lbm_tracer.proofs.Numbers.{fits, held, density_size}
use Rattle.lbm_tracer.proofs.collision.carried.Goals as goal

pub along-requires-clause-unit : goal.along-requires-clause-unit
along-requires-clause-unit c = λ a axis. rw c.velocity.ensures ((named_facts c.args.set).unit_parts c.args.k a c.requires.known axis)

-- one over the square of the speed of sound, times what lies along
factor : (c : goal.After-along) → unsigned_abs c.inverse_sound_squared.result ≤ 4
factor c = rw c.inverse_sound_squared.ensures (named_facts c.args.set).sound_small

carried_size : (rho e u : ℤ) → unsigned_abs rho ≤ 1769472 → unsigned_abs e ≤ 4 → unsigned_abs u ≤ 5308416 → unsigned_abs (rho +ℤ e *ℤ u) ≤ 23003136
carried_size rho e u small_rho small_e small_u = omega (arith, unsigned_abs-add rho (e *ℤ u), product_size e u 4 5308416 small_e small_u)

pub overflow_mul-result : goal.overflow_mul-result
overflow_mul-result c =
    let e = c.inverse_sound_squared.result in let u = c.along.result in
    let size = product_size e u 4 5308416 (factor c) c.along.ensures.size in
    rw (held e (omega (arith, factor c)), held u (omega (arith, c.along.ensures.size))) (fits (e *ℤ u) (omega (arith, size)))

pub overflow_add-result : goal.overflow_add-result
overflow_add-result c =
    let e = c.inverse_sound_squared.result in let u = c.along.result in let rho = c.args.flow.now.rho in
    let size = product_size e u 4 5308416 (factor c) c.along.ensures.size in
    let small = density_size c.args.flow.now c.requires.flow in
    rw (held e (omega (arith, factor c)), held u (omega (arith, c.along.ensures.size)), held rho (omega (arith, small)), held (e *ℤ u) (omega (arith, size)))
    (fits (rho +ℤ e *ℤ u) (omega (arith, carried_size rho e u small (factor c) c.along.ensures.size)))

pub returns-clause-value : goal.returns-clause-value
returns-clause-value c =
    let e = c.inverse_sound_squared.result in let u = c.along.result in let rho = c.args.flow.now.rho in
    let size = product_size e u 4 5308416 (factor c) c.along.ensures.size in
    let small = density_size c.args.flow.now c.requires.flow in
    rw (
      held e (omega (arith, factor c)),
      held u (omega (arith, c.along.ensures.size)),
      held rho (omega (arith, small)),
      held (e *ℤ u) (omega (arith, size)),
      held (rho +ℤ e *ℤ u) (omega (arith, carried_size rho e u small (factor c) c.along.ensures.size)),
    )
    (rw (c.inverse_sound_squared.ensures, c.along.ensures.value, c.velocity.ensures) refl)

pub returns-clause-size : goal.returns-clause-size
returns-clause-size c =
    let e = c.inverse_sound_squared.result in let u = c.along.result in let rho = c.args.flow.now.rho in
    let size = product_size e u 4 5308416 (factor c) c.along.ensures.size in
    let small = density_size c.args.flow.now c.requires.flow in
    let whole = carried_size rho e u small (factor c) c.along.ensures.size in
    rw (
      held e (omega (arith, factor c)),
      held u (omega (arith, c.along.ensures.size)),
      held rho (omega (arith, small)),
      held (e *ℤ u) (omega (arith, size)),
      held (rho +ℤ e *ℤ u) (omega (arith, whole)),
    ) whole
