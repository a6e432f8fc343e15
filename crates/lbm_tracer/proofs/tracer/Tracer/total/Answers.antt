use Rattle.std.proofs.Common.{◌≡◌, ℕ, ◌+◌, ◌*◌, ◌^◌, ◌<◌, ◌≤◌, ℤ, ◌+ℤ◌, unsigned_abs, to_z, of_z, w64, sym, ap, ◌∙◌, arith}
use Rattle.std.proofs.lemmas.Int.{ints}
use Rattle.lbm_space.specs.Sum.{sum_below}
use Rattle.lbm_space.specs.Torus.{cells}
use Rattle.lbm_space.proofs.Sums.{sum_below_more}
use Rattle.lbm_cell.specs.Moments.{density}
use Rattle.lbm_model.specs.State.{population}
use Rattle.lbm_model.proofs.Mass.{mass-by_cell, length-state_of}
use Rattle.lbm_model.proofs.Sizes.{few_cells}
use Rattle.lbm_tracer.specs.Limits.{cell_bound}
use Rattle.lbm_tracer.specs.Tracing.{set_in}
use Rattle.lbm_tracer.specs.Carried.{TracerLattice, carried, amount_in}
use Rattle.lbm_tracer.proofs.Numbers.{fits, held}
use Rattle.lbm_tracer.proofs.tracer.Tracer.total.Goals as goal

-- one cell more
sum_size : (n : ℕ) (a b : ℤ) → n < 4194304 → unsigned_abs a ≤ cell_bound * n → unsigned_abs b ≤ cell_bound → unsigned_abs (a +ℤ b) ≤ cell_bound * (n + 1)
sum_size n a b below small_a small_b = omega (arith, ints)

word_size : (n : ℕ) (a : ℤ) → n ≤ 4194304 → unsigned_abs a ≤ cell_bound * n → unsigned_abs a < 2 ^ 62
word_size n a below small = omega (arith, ints)

pub overflow_add-total : goal.overflow_add-total
overflow_add-total g c =
    let a = to_z w64 c.loop-cell.total-bits in let b = c.amount-total.result in let n = c.loop-cell.cell in
    let few = few_cells c.self.inside.space c.cells-cell-end.ensures.valid in
    let below : n < 4194304 = omega (arith, few, c.loop-cell-test.true, c.cells-cell-end.ensures.count) in
    let small = c.amount-total.ensures.size in
    let size = word_size (n + 1) (a +ℤ b) (omega (arith, below)) (sum_size n a b below c.loop-cell.invariant.small small) in
    rw (held b (omega (arith, small))) (fits (a +ℤ b) size)

pub loop-cell-preserved : goal.loop-cell-preserved
loop-cell-preserved g c =
    let l = c.args.self.now in let s = (carried l).state in
    let a = to_z w64 c.loop-cell.total-bits in let b = c.amount-total.result in let n = c.loop-cell.cell in
    let few = few_cells c.self.inside.space c.cells-cell-end.ensures.valid in
    let below : n < 4194304 = omega (arith, few, c.loop-cell-test.true, c.cells-cell-end.ensures.count) in
    let small = c.amount-total.ensures.size in
    let sum = sum_size n a b below c.loop-cell.invariant.small small in
    let same : to_z w64 (of_z w64 b) ≡ b = held b (omega (arith, small)) in
    let added : to_z w64 (of_z w64 (a +ℤ b)) ≡ a +ℤ b = held (a +ℤ b) (word_size (n + 1) (a +ℤ b) (omega (arith, below)) sum) in
    let f : ℕ → ℤ = λ x. density (set_in l.torus) (population s x) in
    record {
      done = rw (same, added) (ap (λ (z : ℤ). z +ℤ b) c.loop-cell.invariant.done ∙ ap (λ (z : ℤ). sum_below n f +ℤ z) c.amount-total.ensures.value ∙ sym (sum_below_more n f));
      small = rw (same, added) sum;
    }

pub returns : goal.returns
returns g c =
    let l = c.args.self.now in let s = (carried l).state in let n = cells l.torus in
    let count : cells c.self.inside.space ≡ n = ap (λ (m : TracerLattice). cells m.torus) c.self.view_is in
    let all : c.loop-cell.cell ≡ n = omega (arith, count, c.loop-cell-test.false, c.cells-cell-end.ensures.count, c.loop-cell.auto.cell-end) in
    c.loop-cell.invariant.done ∙ ap (λ (m : ℕ). sum_below m (λ x. density (set_in l.torus) (population s x))) all
    ∙ sym (mass-by_cell s n (length-state_of (set_in l.torus).directions n (amount_in l.torus l.time l.slots)))
