-- Eight cells in step: a lane of eight numbers for each cell.
use Rattle.std.specs.Prelude.{ℕ, zero, suc, ◌/◌, ◌%◌, ◌^◌, ◌==◌, nat_lt, Bool, not, ◌&&◌, Option, Some, None, List, ℤ, pos, slice_index_or, if◌then◌else◌}
use Rattle.lbm_space.specs.Stencil.{Stencil}
use Rattle.lbm_cell.specs.Moments.{in_limits}
use Rattle.lbm_cell.specs.Collision.{RelaxationRates, collision, reflection}

-- lane l of eight numbers
abbrev pub entry : List ℤ → ℕ → ℤ
entry xs l = slice_index_or xs l (pos 0)

-- the populations of the cell in lane j, of n cells that take what is there: direction, then cell; a lane past them holds zeros
abbrev pub held : (n : ℕ) (there : ℕ → ℕ → ℤ) → ℕ → ℕ → ℤ
held n there j i = if nat_lt j n then there i j else pos 0

-- whether lane j is in a mask, of which bit j stands for lane j
abbrev pub has : ℕ → ℕ → Bool
has mask j = mask / 2 ^ j % 2 == 1

-- what a lane becomes: a solid cell turns its populations back, a fluid cell in limits collides, and all others stay
abbrev pub becomes : Stencil → RelaxationRates → List ℤ → (fluid solid : Bool) → (ℕ → ℤ) → ℕ → ℤ
becomes v r g fluid solid f =
    if solid then reflection v f
    else (if fluid && in_limits v f then collision v r g f else f)

-- what has been found, and else n where it passes
abbrev pub found_or : Option ℕ → Bool → ℕ → Option ℕ
found_or (Some k) passes n = Some k
found_or None passes n = if passes then Some n else None

-- the least number below n that passes a test
abbrev pub least_passing : ℕ → (ℕ → Bool) → Option ℕ
least_passing zero test = None
least_passing (suc n) test = found_or (least_passing n test) (test n) n

-- whether lane j, of populations f j, is a fluid cell out of limits
abbrev pub is_out : Stencil → ℕ → (ℕ → ℕ → ℤ) → ℕ → Bool
is_out v fluid f j = has fluid j && not (in_limits v (f j))

-- the least fluid lane out of limits
abbrev pub least_out : Stencil → ℕ → (ℕ → ℕ → ℤ) → Option ℕ
least_out v fluid f = least_passing 8 (is_out v fluid f)
