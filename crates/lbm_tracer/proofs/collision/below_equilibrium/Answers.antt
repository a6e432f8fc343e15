use Rattle.std.proofs.Common.{◌≡◌, ◌≤◌, ◌*◌, ◌-ℤ◌, ◌*ℤ◌, unsigned_abs, ℤ, to_z, of_z, w64, refl, arith}
use Rattle.std.proofs.lemmas.Int.{ints}
use Rattle.lbm_cell.proofs.Sizes.{product_size}
use Rattle.lbm_tracer.proofs.Numbers.{fits, held}
use Rattle.lbm_tracer.proofs.collision.below_equilibrium.Goals as goal

-- the numbers on the way
record Parts (w t c s a : ℤ) : Type 0 where
  weight : to_z w64 (of_z w64 w) ≡ w
  total : to_z w64 (of_z w64 t) ≡ t
  carried : to_z w64 (of_z w64 c) ≡ c
  scale : to_z w64 (of_z w64 s) ≡ s
  amount : to_z w64 (of_z w64 a) ≡ a
  share : to_z w64 (of_z w64 (t *ℤ c)) ≡ t *ℤ c
  share_size : unsigned_abs (t *ℤ c) ≤ 16777216 * 23003136
  weighted : to_z w64 (of_z w64 (w *ℤ (t *ℤ c))) ≡ w *ℤ (t *ℤ c)
  weighted_size : unsigned_abs (w *ℤ (t *ℤ c)) ≤ 2 * (16777216 * 23003136)
  scaled : to_z w64 (of_z w64 (s *ℤ a)) ≡ s *ℤ a
  scaled_size : unsigned_abs (s *ℤ a) ≤ 14155776 * 16777216

parts_of : (w t c s a : ℤ) → unsigned_abs w ≤ 2 → unsigned_abs t ≤ 16777216 → unsigned_abs c ≤ 23003136 → unsigned_abs s ≤ 14155776 → unsigned_abs a ≤ 16777216 → Parts w t c s a
parts_of w t c s a small_w small_t small_c small_s small_a =
    let share : unsigned_abs (t *ℤ c) ≤ 16777216 * 23003136 = product_size t c 16777216 23003136 small_t small_c in
    let weighted : unsigned_abs (w *ℤ (t *ℤ c)) ≤ 2 * (16777216 * 23003136) = product_size w (t *ℤ c) 2 (16777216 * 23003136) small_w share in
    let scaled : unsigned_abs (s *ℤ a) ≤ 14155776 * 16777216 = product_size s a 14155776 16777216 small_s small_a in
    record {
      weight = held w (omega (arith, small_w));
      total = held t (omega (arith, small_t));
      carried = held c (omega (arith, small_c));
      scale = held s (omega (arith, small_s));
      amount = held a (omega (arith, small_a));
      share = held (t *ℤ c) (omega (arith, share));
      share_size = share;
      weighted = held (w *ℤ (t *ℤ c)) (omega (arith, weighted));
      weighted_size = weighted;
      scaled = held (s *ℤ a) (omega (arith, scaled));
      scaled_size = scaled;
    }

apart : (x y : ℤ) → unsigned_abs x ≤ 2 * (16777216 * 23003136) → unsigned_abs y ≤ 14155776 * 16777216 → unsigned_abs (x -ℤ y) ≤ 1009371525808128
apart x y small_x small_y = omega (arith, ints)

pub overflow_mul-result : goal.overflow_mul-result
overflow_mul-result c =
    let r = c.requires in let p = parts_of c.args.weight c.args.total c.args.carried c.args.scale c.args.amount r.weight_small r.total_small r.carried_small r.scale_small r.amount_small in
    rw (p.total, p.carried) (fits (c.args.total *ℤ c.args.carried) (omega (arith, p.share_size)))

pub overflow_mul-result-2 : goal.overflow_mul-result-2
overflow_mul-result-2 c =
    let r = c.requires in let p = parts_of c.args.weight c.args.total c.args.carried c.args.scale c.args.amount r.weight_small r.total_small r.carried_small r.scale_small r.amount_small in
    rw (p.weight, p.total, p.carried, p.share) (fits (c.args.weight *ℤ (c.args.total *ℤ c.args.carried)) (omega (arith, p.weighted_size)))

pub overflow_mul-result-3 : goal.overflow_mul-result-3
overflow_mul-result-3 c =
    let r = c.requires in let p = parts_of c.args.weight c.args.total c.args.carried c.args.scale c.args.amount r.weight_small r.total_small r.carried_small r.scale_small r.amount_small in
    rw (p.scale, p.amount) (fits (c.args.scale *ℤ c.args.amount) (omega (arith, p.scaled_size)))

pub overflow_sub-result : goal.overflow_sub-result
overflow_sub-result c =
    let r = c.requires in let p = parts_of c.args.weight c.args.total c.args.carried c.args.scale c.args.amount r.weight_small r.total_small r.carried_small r.scale_small r.amount_small in
    rw (p.weight, p.total, p.carried, p.share, p.scale, p.amount, p.weighted, p.scaled) (fits (c.args.weight *ℤ (c.args.total *ℤ c.args.carried) -ℤ c.args.scale *ℤ c.args.amount) (omega (arith, apart (c.args.weight *ℤ (c.args.total *ℤ c.args.carried)) (c.args.scale *ℤ c.args.amount) p.weighted_size p.scaled_size)))

pub returns-clause-value : goal.returns-clause-value
returns-clause-value c =
    let r = c.requires in let p = parts_of c.args.weight c.args.total c.args.carried c.args.scale c.args.amount r.weight_small r.total_small r.carried_small r.scale_small r.amount_small in
    let all = held (c.args.weight *ℤ (c.args.total *ℤ c.args.carried) -ℤ c.args.scale *ℤ c.args.amount) (omega (arith, apart (c.args.weight *ℤ (c.args.total *ℤ c.args.carried)) (c.args.scale *ℤ c.args.amount) p.weighted_size p.scaled_size)) in
    rw (p.weight, p.total, p.carried, p.share, p.scale, p.amount, p.weighted, p.scaled, all) refl

pub returns-clause-size : goal.returns-clause-size
returns-clause-size c =
    let r = c.requires in let p = parts_of c.args.weight c.args.total c.args.carried c.args.scale c.args.amount r.weight_small r.total_small r.carried_small r.scale_small r.amount_small in
    rw (returns-clause-value c) (apart (c.args.weight *ℤ (c.args.total *ℤ c.args.carried)) (c.args.scale *ℤ c.args.amount) p.weighted_size p.scaled_size)
