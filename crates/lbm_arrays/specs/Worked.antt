-- The steps of a plane of 5 by 7 cells, worked by hand. With its pads it has 9 lines of 7 places. The offsets of its nine
-- directions are 0, 1, 7, -1, -7, 8, 6, -8 and -6, and its reach is 8.
use Rattle.std.specs.Prelude.{◌≡◌, List, [], ◌∷◌, ℤ, pos, negsuc}
use Rattle.lbm_space.specs.Tables.{d2q9}
use Rattle.lbm_space.specs.Torus.{Torus, torus}
use Rattle.lbm_arrays.specs.declared.steps.Step.TheVariants.{InPlace, Exchange, Ahead, Rise, Fall}
use Rattle.lbm_arrays.specs.Steps.{step_shifts, rising_strip, falling_strip}

abbrev plane : Torus
plane = torus 2 5 7 1

abbrev all_at : ℤ → List ℤ
all_at z = z ∷ z ∷ z ∷ z ∷ z ∷ z ∷ z ∷ z ∷ z ∷ []

pub record StepsOfPlane : Type 0 where
  pub in_place : step_shifts plane d2q9 InPlace 1 ≡ all_at (pos 1)
  -- the lesser of 1 and 3, of 2 and 4, of 5 and 7, and of 6 and 8 is moved
  pub exchange : step_shifts plane d2q9 Exchange 1 ≡ pos 1 ∷ pos 2 ∷ pos 8 ∷ pos 1 ∷ pos 1 ∷ pos 9 ∷ pos 7 ∷ pos 1 ∷ pos 1 ∷ []
  pub ahead : step_shifts plane d2q9 Ahead 1 ≡ pos 1 ∷ pos 2 ∷ pos 8 ∷ pos 0 ∷ negsuc 5 ∷ pos 9 ∷ pos 7 ∷ negsuc 6 ∷ negsuc 4 ∷ []
  pub rise : step_shifts plane d2q9 Rise 8 ≡ all_at (pos 0)
  pub fall : step_shifts plane d2q9 Fall 0 ≡ all_at (pos 8)
  -- Row 0 has places 7 to 13. A rising slab of it reads places -1 to 5 of array 5, all of which it may read before another writes
  -- them, and places 15 to 21 of array 7.
  pub nothing_rising : rising_strip plane d2q9 5 0 1 ≡ (pos 6, pos 6)
  pub rising : rising_strip plane d2q9 7 0 1 ≡ (pos 15, pos 22)
  -- the last row has places 49 to 55, and the box ends at place 63
  pub rising_to_the_end : rising_strip plane d2q9 7 6 7 ≡ (pos 57, pos 63)
  pub falling_from_the_front : falling_strip plane d2q9 5 0 1 ≡ (pos 0, pos 6)
  pub nothing_falling : falling_strip plane d2q9 7 0 1 ≡ (pos 15, pos 15)
