-- A moved case is accepted.
use Rattle.std.proofs.Common.{◌≡◌, ◌≢◌, ℕ, zero, suc, ◌+◌, ◌*◌, ◌<◌, ◌≤◌, Bool, true, false, List, [], ◌∷◌, length, get_or, ℤ, pos, unsigned_abs, All, refl, sym, ap, subst, ◌∙◌, inl, inr, arith, lit<}
use Rattle.std.specs.Prelude.{nat_eq, if◌then◌else◌}
use Rattle.std.specs.List.{filter, range_with_len}
use Rattle.std.specs.List.Sorted.{IsStrictlyIncreasing}
use Rattle.std.proofs.lemmas.Bool.{cases_Bool, eqb-true, eq-eqb, both_ways}
use Rattle.std.proofs.lemmas.List.Elements.{All-filter, filter_passes}
use Rattle.std.proofs.lemmas.List.FromFn.{get_or-map-range_with_len, length-map-range_with_len, get_or-range_with_len, length-range_with_len}
use Rattle.std.proofs.lemmas.List.Kept.{IsStrictlyIncreasing-filter}
use Rattle.lbm_space.specs.Sum.{list_below}
use Rattle.lbm_space.specs.Stencil.{part}
use Rattle.lbm_space.specs.Torus.{Torus, IsSpace, cells, padded}
use Rattle.lbm_cell.specs.Collision.{IsForce}
use Rattle.lbm_model.specs.Case.{FlowCase, IsCase, AreDensities, AreMoving, IsFlat, IsMomentum, first_density, is_solid, is_moving}
use Rattle.lbm_model.proofs.Moving.{moving_solid}
use Rattle.lbm_symmetry.specs.Motions.{Motion, IsMotion, signed, moved_vector, side, moved_torus, former_cell}
use Rattle.lbm_symmetry.specs.Moved.{moved_case}
use Rattle.lbm_symmetry.specs.Laws.{CanMove, MovedCaseIsAccepted}
use Rattle.lbm_symmetry.proofs.Axes.{each_axis, ordered, part-moved, size-signed, signed-zero}
use Rattle.lbm_symmetry.proofs.Flow.{former_known, first_density-moved}

-- ---- vectors

flat-moved : (d : ℕ) (m : Motion) (u : List ℤ) → IsMotion d m → IsFlat d u → IsFlat d (moved_vector m u)
flat-moved d m u motion flat = λ a axis past.
    part-moved m u a axis ∙ ap (λ (b : ℕ). signed (m.reversed a) (part u b)) (motion.flat a axis past) ∙ ap (signed (m.reversed a)) (flat a axis past) ∙ signed-zero (m.reversed a)

small-moved : (d n : ℕ) (m : Motion) (u : List ℤ) → IsMotion d m → ((a : ℕ) → a < 3 → unsigned_abs (part u a) ≤ n) → (a : ℕ) → a < 3 → unsigned_abs (part (moved_vector m u) a) ≤ n
small-moved d n m u motion small a axis = rw (part-moved m u a axis, size-signed (m.reversed a) (part u (m.axis a))) (small (m.axis a) (motion.known a axis))

force-moved : (d : ℕ) (m : Motion) (u : List ℤ) → IsMotion d m → IsForce u → IsForce (moved_vector m u)
force-moved d m u motion force =
    let small = small-moved d 1024 m u motion (each_axis (λ (a : ℕ). unsigned_abs (part u a) ≤ 1024) force.x_small force.y_small force.z_small) in
    record { three_parts = refl; x_small = small 0 (lit< tt); y_small = small 1 (lit< tt); z_small = small 2 (lit< tt) }

-- ---- the box

three_in_order : (x y z n : ℕ) → x * y * z ≡ n → (x * z * y ≡ n) × (y * x * z ≡ n) × (y * z * x ≡ n) × (z * x * y ≡ n) × (z * y * x ≡ n)
three_in_order x y z n is = (omega arith, omega arith, omega arith, omega arith, omega arith)

-- a box in space has as many places in any order of its axes
padded_in_space : (d : ℕ) (m : Motion) (t : Torus) → IsMotion d m → (side t (m.axis 0) + 2) * (side t (m.axis 1) + 2) * (side t (m.axis 2) + 2) ≡ (t.nx + 2) * (t.ny + 2) * (t.nz + 2)
padded_in_space d m t motion =
    let orders = three_in_order (t.nx + 2) (t.ny + 2) (t.nz + 2) ((t.nx + 2) * (t.ny + 2) * (t.nz + 2)) refl in
    ordered (λ (a b c : ℕ). (side t a + 2) * (side t b + 2) * (side t c + 2) ≡ (t.nx + 2) * (t.ny + 2) * (t.nz + 2)) d m motion refl orders.0 orders.1 orders.2 orders.3 orders.4

-- in the plane the third axis stays
padded_in_plane : (d : ℕ) (m : Motion) (t : Torus) → IsMotion d m → m.axis 2 ≡ 2 → (side t (m.axis 0) + 2) * (side t (m.axis 1) + 2) * 1 ≡ (t.nx + 2) * (t.ny + 2) * 1
padded_in_plane d m t motion =
    ordered (λ (a b c : ℕ). c ≡ 2 → (side t a + 2) * (side t b + 2) * 1 ≡ (t.nx + 2) * (t.ny + 2) * 1) d m motion
    (λ _. refl) (λ no. absurd (omega arith)) (λ _. omega arith) (λ no. absurd (omega arith)) (λ no. absurd (omega arith)) (λ no. absurd (omega arith))

padded-moved : (d : ℕ) (m : Motion) (t : Torus) → IsMotion d m → t.dimension ≡ d → padded (moved_torus m t) ≡ padded t
padded-moved d m t motion same = elim (cases_Bool (nat_eq t.dimension 2)) [
  | inl plane ↦ (
      let two : t.dimension ≡ 2 = eqb-true t.dimension 2 plane in
      rw plane (padded_in_plane d m t motion (motion.flat 2 (lit< tt) (omega arith))))
  | inr space ↦ rw space (padded_in_space d m t motion)
]

space-moved : (d : ℕ) (m : Motion) (t : Torus) → IsMotion d m → t.dimension ≡ d → IsSpace t → IsSpace (moved_torus m t)
space-moved d m t motion same space =
    let some = each_axis (λ (a : ℕ). 0 < side t a) space.some_x space.some_y space.some_z in
    let few = each_axis (λ (a : ℕ). side t a ≤ 4096) space.few_x space.few_y space.few_z in
    record {
      plane_or_space = space.plane_or_space;
      some_x = some (m.axis 0) (motion.known 0 (lit< tt));
      some_y = some (m.axis 1) (motion.known 1 (lit< tt));
      some_z = some (m.axis 2) (motion.known 2 (lit< tt));
      few_x = few (m.axis 0) (motion.known 0 (lit< tt));
      few_y = few (m.axis 1) (motion.known 1 (lit< tt));
      few_z = few (m.axis 2) (motion.known 2 (lit< tt));
      flat = λ plane. ap (side t) (motion.flat 2 (lit< tt) (omega arith)) ∙ space.flat plane;
      fits = rw (padded-moved d m t motion same) space.fits;
    }

-- ---- lists over cells

All-list_below : (P : ℕ → Type 0) (n : ℕ) (f : ℕ → ℕ) → ((y : ℕ) → y < n → P (f y)) → All P (list_below n f)
All-list_below P n f each = λ k d within.
    let known : k < n = rw (length-map-range_with_len f 0 n) at within in
    subst P (sym (get_or-map-range_with_len f 0 n k k d known (omega arith))) (each k known)

All-range : (P : ℕ → Type 0) (n : ℕ) → ((y : ℕ) → y < n → P y) → All P (range_with_len 0 n)
All-range P n each = λ k d within.
    let known : k < n = rw (length-range_with_len 0 n) at within in
    let at : k ≡ get_or (range_with_len 0 n) k d = let there = get_or-range_with_len 0 n k d known in omega (arith, there) in
    subst P at (each k known)

range_rises : (n : ℕ) → IsStrictlyIncreasing (range_with_len 0 n)
range_rises n = λ k within.
    let known : k + 1 < n = rw (length-range_with_len 0 n) at within in
    let here = get_or-range_with_len 0 n k 0 (omega arith) in
    let next = get_or-range_with_len 0 n (k + 1) 0 known in
    omega (arith, here, next)

-- ---- the case

module _ (m : Motion) (case : FlowCase) (can : CanMove m case) where
  abbrev moved : FlowCase
  moved = moved_case m case

  abbrev former : ℕ → ℕ
  former y = former_cell m case.torus y

  within : (y : ℕ) → y < cells moved.torus → former y < length case.densities
  within y known = rw can.allowed.densities.one_each (former_known m case can y known)

  densities-moved : AreDensities moved.torus moved.densities
  densities-moved = record {
    one_each = length-map-range_with_len (λ y. first_density case (former y)) 0 (cells moved.torus);
    not_thin = All-list_below (λ n. n ≢ 0 → 442368 ≤ n) (cells moved.torus) (λ y. first_density case (former y)) (λ y known. can.allowed.densities.not_thin (former y) 0 (within y known));
    not_dense = All-list_below (λ n. n ≤ 4194304) (cells moved.torus) (λ y. first_density case (former y)) (λ y known. can.allowed.densities.not_dense (former y) 0 (within y known));
  }

  abbrev moves : ℕ → Bool
  moves y = is_moving case (former y)

  moving_known : All (λ y. y < cells moved.torus) moved.moving
  moving_known = All-filter moves (λ y. y < cells moved.torus) (range_with_len 0 (cells moved.torus)) (All-range (λ y. y < cells moved.torus) (cells moved.torus) (λ y known. known))

  solid_at : (y : ℕ) → y < cells moved.torus → moves y ≡ true → first_density moved y ≡ 0
  solid_at y known is = first_density-moved m case can y known ∙ eqb-true (first_density case (former y)) 0 (moving_solid case (former y) can.allowed is)

  moving-moved : AreMoving moved.densities moved.moving
  moving-moved =
      let count = densities-moved.one_each in
      let move = filter_passes moves (range_with_len 0 (cells moved.torus)) in
      record {
        rising = IsStrictlyIncreasing-filter moves (range_with_len 0 (cells moved.torus)) (range_rises (cells moved.torus));
        known = λ k d inside. rw count (moving_known k d inside);
        solid = λ k d inside. solid_at (get_or moved.moving k d) (moving_known k d inside) (move k d inside);
      }

  pub is_case : IsCase moved
  is_case = record {
    set = can.allowed.set;
    space = space-moved case.stencil.dimension m case.torus can.motion can.allowed.dimension can.allowed.space;
    dimension = can.allowed.dimension;
    densities = densities-moved;
    moving = moving-moved;
    wall = force-moved case.stencil.dimension m case.wall can.motion can.allowed.wall;
    wall_flat = flat-moved case.stencil.dimension m case.wall can.motion can.allowed.wall_flat;
    rates = can.allowed.rates;
    force = force-moved case.stencil.dimension m case.force can.motion can.allowed.force;
    momentum = record {
      small = small-moved case.stencil.dimension 884736 m case.momentum can.motion can.allowed.momentum.small;
      flat = flat-moved case.stencil.dimension m case.momentum can.motion can.allowed.momentum.flat;
    };
  }

pub accepted : MovedCaseIsAccepted
accepted m case can = is_case m case can
