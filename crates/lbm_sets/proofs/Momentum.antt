-- The momentum of populations: it is linear in them, and changes its sign where they are turned back.
use Rattle.std.proofs.Common.{◌≡◌, ℕ, zero, suc, ◌<◌, ℤ, pos, ◌+ℤ◌, ◌-ℤ◌, ◌*ℤ◌, neg_ℤ, ap, ◌∙◌, arith}
use Rattle.std.proofs.lemmas.Int.{ints}
use Rattle.lbm_space.specs.Sum.{sum_below}
use Rattle.lbm_space.specs.Stencil.{Stencil, IsVelocitySet, part, velocity, opposite}
use Rattle.lbm_space.proofs.Sums.{sum_below-same, sum_below-add, sum_below-reindex}
use Rattle.lbm_cell.specs.Moments.{momentum_part}
use Rattle.lbm_cell.specs.Collision.{reflection}
use Rattle.lbm_sets.proofs.Products.{product-add, product-subtract, product-neg, product_swap}

pub sum_below-scale : (n : ℕ) (k : ℤ) (f : ℕ → ℤ) → sum_below n (λ i. k *ℤ f i) ≡ k *ℤ sum_below n f
sum_below-scale zero k f = omega (arith, ints)
sum_below-scale (suc n) k f = omega (arith, ints, sum_below-scale n k f, product-add k (sum_below n f) (f n))

pub sum_below-subtract : (n : ℕ) (f g : ℕ → ℤ) → sum_below n (λ i. f i -ℤ g i) ≡ sum_below n f -ℤ sum_below n g
sum_below-subtract zero f g = omega (arith, ints)
sum_below-subtract (suc n) f g = omega (arith, ints, sum_below-subtract n f g)

sum_below-neg : (n : ℕ) (f : ℕ → ℤ) → sum_below n (λ i. neg_ℤ (f i)) ≡ neg_ℤ (sum_below n f)
sum_below-neg zero f = omega (arith, ints)
sum_below-neg (suc n) f = omega (arith, ints, sum_below-neg n f)

module _ (v : Stencil) (a : ℕ) where
  abbrev carried : (ℕ → ℤ) → ℕ → ℤ
  carried f i = part (velocity v i) a *ℤ f i

  pub momentum-same : (f g : ℕ → ℤ) → ((i : ℕ) → i < v.directions → f i ≡ g i) → momentum_part v f a ≡ momentum_part v g a
  momentum-same f g same = sum_below-same v.directions (carried f) (carried g) (λ i known. ap (λ (z : ℤ). part (velocity v i) a *ℤ z) (same i known))

  pub momentum-add : (f g : ℕ → ℤ) → momentum_part v (λ i. f i +ℤ g i) a ≡ momentum_part v f a +ℤ momentum_part v g a
  momentum-add f g =
      sum_below-same v.directions (carried (λ i. f i +ℤ g i)) (λ i. carried f i +ℤ carried g i) (λ i _. product-add (part (velocity v i) a) (f i) (g i))
      ∙ sum_below-add v.directions (carried f) (carried g)

  pub momentum-subtract : (f g : ℕ → ℤ) → momentum_part v (λ i. f i -ℤ g i) a ≡ momentum_part v f a -ℤ momentum_part v g a
  momentum-subtract f g =
      sum_below-same v.directions (carried (λ i. f i -ℤ g i)) (λ i. carried f i -ℤ carried g i) (λ i _. product-subtract (part (velocity v i) a) (f i) (g i))
      ∙ sum_below-subtract v.directions (carried f) (carried g)

  pub momentum-scale : (k : ℤ) (f : ℕ → ℤ) → momentum_part v (λ i. k *ℤ f i) a ≡ k *ℤ momentum_part v f a
  momentum-scale k f =
      sum_below-same v.directions (carried (λ i. k *ℤ f i)) (λ i. k *ℤ carried f i) (λ i _. product_swap (part (velocity v i) a) k (f i))
      ∙ sum_below-scale v.directions k (carried f)

  module _ (laws : IsVelocitySet v) (axis : a < 3) where
    -- bounce-back reverses the momentum
    pub momentum-reflection : (f : ℕ → ℤ) → momentum_part v (reflection v f) a ≡ neg_ℤ (momentum_part v f a)
    momentum-reflection f =
        sum_below-same v.directions (carried (reflection v f)) (λ i. neg_ℤ (carried f (opposite v i))) (λ i known. turned (part (velocity v i) a) (part (velocity v (opposite v i)) a) (f (opposite v i)) (laws.opposite_velocity i a known axis))
        ∙ sum_below-neg v.directions (λ i. carried f (opposite v i))
        ∙ ap neg_ℤ (sum_below-reindex v.directions (opposite v) (opposite v) (carried f) laws.opposite_exists laws.opposite_exists laws.opposite_twice laws.opposite_twice)
      where
        turned : (c d x : ℤ) → d ≡ neg_ℤ c → c *ℤ x ≡ neg_ℤ (d *ℤ x)
        turned c d x reversed = rw reversed (omega (arith, ints, product-neg c x))

    -- so populations that are equal within each pair have no momentum
    pub momentum-even : (f : ℕ → ℤ) → ((i : ℕ) → i < v.directions → reflection v f i ≡ f i) → momentum_part v f a ≡ pos 0
    momentum-even f even =
        let same : momentum_part v (reflection v f) a ≡ momentum_part v f a = momentum-same (reflection v f) f even in
        let turned : momentum_part v (reflection v f) a ≡ neg_ℤ (momentum_part v f a) = momentum-reflection f in
        omega (arith, ints, same, turned)
