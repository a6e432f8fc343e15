-- What a cell does depends on its own populations alone.
use Rattle.std.proofs.Common.{◌≡◌, ℕ, zero, suc, ◌<◌, ℤ, pos, ◌+ℤ◌, ◌-ℤ◌, ◌*ℤ◌, Bool, List, [], ◌∷◌, refl, ap, ◌∙◌, arith}
use Rattle.std.specs.Prelude.{◌&&◌, int_le}
use Rattle.lbm_space.specs.Sum.{all_below}
use Rattle.lbm_space.specs.Stencil.{Stencil, part, velocity, weight, opposite, IsVelocitySet}
use Rattle.lbm_space.proofs.Sums.{sum_below-same}
use Rattle.lbm_cell.specs.Moments.{density, momentum_part, momentum, in_limits}
use Rattle.lbm_cell.specs.Collision.{RelaxationRates, equilibrium_numerator, floor_div, departure, relaxation, push, with_rest, collision}
use Rattle.lbm_cell.proofs.Conservation.{with_rest-same}

-- two cells hold the same populations
pub record Agree (v : Stencil) (f g : ℕ → ℤ) : Type 0 where
  pub same : (i : ℕ) → i < v.directions → f i ≡ g i

pub density-agree : (v : Stencil) (f g : ℕ → ℤ) → Agree v f g → density v f ≡ density v g
density-agree v f g agree = sum_below-same v.directions f g agree.same

momentum_part-agree : (v : Stencil) (f g : ℕ → ℤ) (a : ℕ) → Agree v f g → momentum_part v f a ≡ momentum_part v g a
momentum_part-agree v f g a agree =
    sum_below-same v.directions (λ i. part (velocity v i) a *ℤ f i) (λ i. part (velocity v i) a *ℤ g i) (λ i known. ap (λ (z : ℤ). part (velocity v i) a *ℤ z) (agree.same i known))

pub momentum-agree : (v : Stencil) (f g : ℕ → ℤ) → Agree v f g → momentum v f ≡ momentum v g
momentum-agree v f g agree =
    ap (λ (x : ℤ). x ∷ momentum_part v f 1 ∷ momentum_part v f 2 ∷ []) (momentum_part-agree v f g 0 agree)
    ∙ ap (λ (y : ℤ). momentum_part v g 0 ∷ y ∷ momentum_part v f 2 ∷ []) (momentum_part-agree v f g 1 agree)
    ∙ ap (λ (z : ℤ). momentum_part v g 0 ∷ momentum_part v g 1 ∷ z ∷ []) (momentum_part-agree v f g 2 agree)

departure-agree : (v : Stencil) (f g : ℕ → ℤ) (i : ℕ) → Agree v f g → i < v.directions → departure v f i ≡ departure v g i
departure-agree v f g i agree known =
    let by = λ (rho : ℤ) (j : List ℤ) (x : ℤ). weight v i *ℤ equilibrium_numerator rho j (velocity v i) -ℤ pos 2 *ℤ (v.denominator *ℤ rho *ℤ x) in
    ap (λ (rho : ℤ). by rho (momentum v f) (f i)) (density-agree v f g agree) ∙ ap (λ (j : List ℤ). by (density v g) j (f i)) (momentum-agree v f g agree) ∙ ap (by (density v g) (momentum v g)) (agree.same i known)

relaxation-agree : (v : Stencil) (r : RelaxationRates) (f g : ℕ → ℤ) (i : ℕ) → IsVelocitySet v → Agree v f g → i < v.directions → relaxation v r f i ≡ relaxation v r g i
relaxation-agree v r f g i laws agree known =
    let by = λ (a b rho : ℤ). floor_div (r.p *ℤ (a +ℤ b) +ℤ r.m *ℤ (a -ℤ b)) (pos 4 *ℤ (v.denominator *ℤ rho *ℤ r.q)) in
    let o = opposite v i in
    ap (λ (a : ℤ). by a (departure v f o) (density v f)) (departure-agree v f g i agree known) ∙ ap (λ (b : ℤ). by (departure v g i) b (density v f)) (departure-agree v f g o agree (laws.opposite_exists i known)) ∙ ap (by (departure v g i) (departure v g o)) (density-agree v f g agree)

pub collision-agree : (v : Stencil) (r : RelaxationRates) (u : List ℤ) (f g : ℕ → ℤ) (i : ℕ) → IsVelocitySet v → Agree v f g → i < v.directions → collision v r u f i ≡ collision v r u g i
collision-agree v r u f g i laws agree known =
    let moved : (ℕ → ℤ) → ℕ → ℤ = λ h k. h k +ℤ relaxation v r h k +ℤ push v u k in
    ap (λ (rho : ℤ). with_rest v rho (moved f) i) (density-agree v f g agree)
    ∙ with_rest-same v (density v g) (moved f) (moved g) (λ k above below. ap (λ (z : ℤ). z +ℤ relaxation v r f k +ℤ push v u k) (agree.same k below) ∙ ap (λ (z : ℤ). g k +ℤ z +ℤ push v u k) (relaxation-agree v r f g k laws agree below)) i known

all_below-same : (n : ℕ) (p q : ℕ → Bool) → ((k : ℕ) → k < n → p k ≡ q k) → all_below n p ≡ all_below n q
all_below-same zero p q same = refl
all_below-same (suc n) p q same = ap (λ (b : Bool). b && p n) (all_below-same n p q (λ k below. same k (omega arith))) ∙ ap (λ (b : Bool). all_below n q && b) (same n (omega arith))

pub in_limits-agree : (v : Stencil) (f g : ℕ → ℤ) → Agree v f g → in_limits v f ≡ in_limits v g
in_limits-agree v f g agree =
    ap (λ (b : Bool). b && int_le (pos 442368) (density v f) && int_le (density v f) (pos 1769472)) (all_below-same v.directions (λ i. int_le (pos 0) (f i)) (λ i. int_le (pos 0) (g i)) (λ i known. ap (int_le (pos 0)) (agree.same i known)))
    ∙ ap (λ (rho : ℤ). all_below v.directions (λ i. int_le (pos 0) (g i)) && int_le (pos 442368) rho && int_le rho (pos 1769472)) (density-agree v f g agree)
