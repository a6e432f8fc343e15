-- Lanes of cells follow the rule of a case.
use Rattle.std.proofs.Common.{◌≡◌, ℕ, ◌+◌, ◌<◌, ◌≤◌, ◌^◌, Bool, true, false, List, ℤ, pos, ◌+ℤ◌, unsigned_abs, Option, None, refl, sym, ap, subst, ◌∙◌, arith, inl, inr, FitsSigned, w32}
use Rattle.std.specs.Prelude.{if◌then◌else◌, ◌==◌, ◌&&◌, ◌||◌, not, nat_lt}
use Rattle.std.proofs.lemmas.Bool.{cases_Bool, cases_lt, lt-ltb, le-ltb}
use Rattle.std.proofs.lemmas.Int.{ints}
use Rattle.std.proofs.lemmas.Nat.Bits.{bit_at-zero}
use Rattle.lbm_space.specs.Stencil.{Stencil, opposite, IsVelocitySet}
use Rattle.lbm_cell.specs.Moments.{in_limits}
use Rattle.lbm_cell.specs.Collision.{RelaxationRates}
use Rattle.lbm_cell.proofs.Agreement.{Agree, in_limits-agree}
use Rattle.lbm_model.specs.Case.{FlowCase, IsCase, is_solid, is_moving, gain}
use Rattle.lbm_model.specs.Flow.{is_sound, post}
use Rattle.lbm_model.specs.Small.{size_limit}
use Rattle.lbm_model.proofs.Local.{post-agree}
use Rattle.lbm_model.proofs.SmallStates.{is_post-solid, is_post-fluid}
use Rattle.lbm_model.proofs.Moving.{moving_solid}
use Rattle.lbm_walk.specs.First.{IsFirst}
use Rattle.lbm_walk.specs.Walked.{AreTaken}
use Rattle.lbm_lanes.specs.Lanes.{has, held, becomes, is_out, least_out}
use Rattle.lbm_rule.proofs.Least.{first_least, first_within}

held_at : (n : ℕ) (there : ℕ → ℕ → ℤ) (i j : ℕ) → j < n → held n there j i ≡ there i j
held_at n there i j within = let on : nat_lt j n ≡ true = lt-ltb j n within in rw on refl

held_none : (n : ℕ) (there : ℕ → ℕ → ℤ) (i j : ℕ) → n ≤ j → held n there j i ≡ pos 0
held_none n there i j beyond = let off : nat_lt j n ≡ false = le-ltb j n beyond in rw off refl

-- what is within a limit fits 32 signed bits
limit_fits : (case : FlowCase) (x : ℕ) (z : ℤ) → unsigned_abs z ≤ size_limit case x → FitsSigned w32 z
limit_fits case x z within = by_cases (is_solid case x) within
  where
    by_cases : (solid : Bool) → unsigned_abs z ≤ (if solid then 2 ^ 28 else 2 ^ 28 + 2 ^ 15) → FitsSigned w32 z
    by_cases true small = omega (arith, ints)
    by_cases false small = omega (arith, ints)

-- a wall that does not move has no gain
still_gain : (case : FlowCase) (x i : ℕ) → is_moving case x ≡ false → gain case x i ≡ pos 0
still_gain case x i still = rw still refl

pub fluid_still : (case : FlowCase) (x : ℕ) → IsCase case → is_solid case x ≡ false → is_moving case x ≡ false
fluid_still case x allowed fluid = elim (cases_Bool (is_moving case x)) [
  | inl moves ↦ absurd (let solid : is_solid case x ≡ true = moving_solid case x allowed moves in cc)
  | inr still ↦ still
]

pub no_gain : (case : FlowCase) (x i : ℕ) (z : ℤ) → is_moving case x ≡ false → z ≡ z +ℤ gain case x i
no_gain case x i z still = omega (arith, ints, still_gain case x i still)

-- n cells of a case, of which the first is `cell`, take what is there, and the masks say which of them are solid and which are fluid
pub record AreMasked (case : FlowCase) (cell n solid fluid : ℕ) : Type 0 where
  pub few : n ≤ 8
  pub solid_is : (j : ℕ) → j < n → has solid j ≡ is_solid case (cell + j)
  pub fluid_is : (j : ℕ) → j < 8 → has fluid j ≡ (nat_lt j n && not (has solid j))

module _ (v : Stencil) (case : FlowCase) (set : case.stencil ≡ v) (cell n solid fluid : ℕ) (masked : AreMasked case cell n solid fluid) (there : ℕ → ℕ → ℤ) where
  fluid_at : (j : ℕ) → j < n → has fluid j ≡ not (is_solid case (cell + j))
  fluid_at j within =
      let on : nat_lt j n ≡ true = lt-ltb j n within in
      masked.fluid_is j (omega (arith, within, masked.few)) ∙ ap (λ (b : Bool). b && not (has solid j)) on ∙ ap not (masked.solid_is j within)

  fluid_past : (j : ℕ) → n ≤ j → j < 8 → has fluid j ≡ false
  fluid_past j beyond lane = let off : nat_lt j n ≡ false = le-ltb j n beyond in masked.fluid_is j lane ∙ ap (λ (b : Bool). b && not (has solid j)) off

  -- populations within the limits of their cells
  module _ (small : (i j : ℕ) → i < v.directions → j < n → unsigned_abs (there i j) ≤ size_limit case (cell + j)) where
    pub lanes_fit : (i j : ℕ) → i < v.directions → j < 8 → FitsSigned w32 (held n there j i)
    lanes_fit i j known lane = elim (cases_lt j n) [
      | inl within ↦ limit_fits case (cell + j) (held n there j i) (rw (held_at n there i j within) (small i j known within))
      | inr beyond ↦ rw (held_none n there i j beyond) (omega arith)
    ]

    -- what a moving wall turns back is small
    pub wall_small : IsCase case → IsVelocitySet v → (i j : ℕ) → i < v.directions → j < n → is_moving case (cell + j) ≡ true → unsigned_abs (there (opposite v i) j) ≤ 2 ^ 28
    wall_small allowed laws i j known within moves =
        let wall : is_solid case (cell + j) ≡ true = moving_solid case (cell + j) allowed moves in
        let limit : size_limit case (cell + j) ≡ 2 ^ 28 = rw wall refl in
        rw (← limit) (small (opposite v i) j (laws.opposite_exists i known) within)

    pub turned_small : IsCase case → IsVelocitySet v → (r : RelaxationRates) (g : List ℤ) (i j : ℕ) (z : ℤ) → i < v.directions → j < n → is_moving case (cell + j) ≡ true → z ≡ becomes v r g (has fluid j) (has solid j) (held n there j) i → unsigned_abs z ≤ 2 ^ 28
    turned_small allowed laws r g i j z known within moves is =
        let wall : is_solid case (cell + j) ≡ true = moving_solid case (cell + j) allowed moves in
        let turns : has solid j ≡ true = masked.solid_is j within ∙ wall in
        let sent : z ≡ there (opposite v i) j = is ∙ by_solid (has solid j) turns ∙ held_at n there (opposite v i) j within in
        rw sent (wall_small allowed laws i j known within moves)
      where
        by_solid : (b : Bool) → b ≡ true → becomes v r g (has fluid j) b (held n there j) i ≡ held n there j (opposite v i)
        by_solid true e = refl
        by_solid false e = absurd cc

  -- the cells take the populations f
  module _ (f : ℕ → ℕ → ℤ) (taken : AreTaken v.directions n f there) where
    agree : (j : ℕ) → j < n → Agree case.stencil (held n there j) (f j)
    agree j within = record { same = λ i known. held_at n there i j within ∙ taken i j (rw (← set) known) within }

    sound_is : (j : ℕ) → j < n → not (is_out v fluid (held n there) j) ≡ is_sound case (cell + j) (f j)
    sound_is j within =
        ap (λ (b : Bool). not (b && not (in_limits v (held n there j)))) (fluid_at j within)
        ∙ by_cases (is_solid case (cell + j)) (in_limits v (held n there j))
        ∙ ap (λ (s : Stencil). is_solid case (cell + j) || in_limits s (held n there j)) (sym set)
        ∙ ap (λ (b : Bool). is_solid case (cell + j) || b) (in_limits-agree case.stencil (held n there j) (f j) (agree j within))
      where
        by_cases : (a b : Bool) → not (not a && not b) ≡ (a || b)
        by_cases true b = refl
        by_cases false true = refl
        by_cases false false = refl

    -- the least fluid lane out of limits is the first cell out of limits
    pub first_out : (r : Option ℕ) → r ≡ least_out v fluid (held n there) → IsFirst (λ j. is_sound case (cell + j) (f j)) 0 n r
    first_out r is =
        first_within (λ j. not (is_out v fluid (held n there) j)) (λ j. is_sound case (cell + j) (f j)) n 8 r masked.few sound_is
        (λ j beyond lane. ap (λ (b : Bool). not (b && not (in_limits v (held n there j)))) (fluid_past j beyond lane))
        (subst (IsFirst (λ j. not (is_out v fluid (held n there) j)) 0 8) (sym is) (first_least 8 (is_out v fluid (held n there))))

    -- what a lane becomes, with its gain, is what its cell sends
    pub lane_sends : IsCase case → IsVelocitySet v → (r : RelaxationRates) (g : List ℤ) → r ≡ case.rates → g ≡ case.force → None ≡ least_out v fluid (held n there) → (i j : ℕ) → i < v.directions → j < n
        → becomes v r g (has fluid j) (has solid j) (held n there j) i +ℤ gain case (cell + j) i ≡ post case (cell + j) (f j) i
    lane_sends allowed laws r g rates force none i j known within =
        here ∙ post-agree case (cell + j) i (held n there j) (f j) (rw set laws) (agree j within) (rw set known)
      where
        h : ℕ → ℤ
        h = held n there j

        here : becomes v r g (has fluid j) (has solid j) (held n there j) i +ℤ gain case (cell + j) i ≡ post case (cell + j) (held n there j) i
        here = elim (cases_Bool (is_solid case (cell + j))) [
          | inl wall ↦ (
              let turns : has solid j ≡ true = masked.solid_is j within ∙ wall in
              is_post-solid case (cell + j) (held n there j) i v _ set wall (rw turns refl))
          | inr fluid_cell ↦ (
              let not_solid : has solid j ≡ false = masked.solid_is j within ∙ fluid_cell in
              let on : has fluid j ≡ true = fluid_at j within ∙ ap not fluid_cell in
              let sound : is_sound case (cell + j) (f j) ≡ true = (first_out None none).passed j (omega arith) within in
              let limits : in_limits v (held n there j) ≡ true = ap (λ (s : Stencil). in_limits s (held n there j)) (sym set) ∙ in_limits-agree case.stencil (held n there j) (f j) (agree j within) ∙ (rw fluid_cell at sound) in
              is_post-fluid case (cell + j) (held n there j) i v r g _ set rates force fluid_cell
              (sym (no_gain case (cell + j) i (becomes v r g (has fluid j) (has solid j) (held n there j) i) (fluid_still case (cell + j) allowed fluid_cell)) ∙ rw (on, not_solid, limits) refl))
        ]

    -- where no lane is fluid, each cell is a wall
    module _ (none : fluid ≡ 0) where
      is_wall : (j : ℕ) → j < n → is_solid case (cell + j) ≡ true
      is_wall j within = by_cases (is_solid case (cell + j)) (sym (fluid_at j within) ∙ ap (λ (m : ℕ). has m j) none ∙ ap (λ (b : ℕ). b == 1) (bit_at-zero j))
        where
          by_cases : (b : Bool) → not b ≡ false → b ≡ true
          by_cases true e = refl
          by_cases false e = absurd cc

      pub walls_sound : IsFirst (λ j. is_sound case (cell + j) (f j)) 0 n None
      walls_sound = record {
        failed = λ k e. cc;
        passed = λ k low below. ap (λ (b : Bool). b || in_limits case.stencil (f k)) (is_wall k below);
      }

      pub wall_sends : IsVelocitySet v → (i j : ℕ) → i < v.directions → j < n → there (opposite v i) j +ℤ gain case (cell + j) i ≡ post case (cell + j) (f j) i
      wall_sends laws i j known within =
          ap (λ (z : ℤ). z +ℤ gain case (cell + j) i) (taken (opposite v i) j (laws.opposite_exists i known) within)
          ∙ is_post-solid case (cell + j) (f j) i v (f j (opposite v i) +ℤ gain case (cell + j) i) set (is_wall j within) refl
