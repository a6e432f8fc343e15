use Rattle.std.proofs.Common.{◌≡◌, ℕ, zero, suc, ◌+◌, ◌-◌, ◌*◌, ◌/◌, ◌%◌, ◌<◌, ◌≤◌, List, ℤ, pos, negsuc, ◌-ℤ◌, neg_ℤ, unsigned_abs, ltb, false, ◌∙◌, arith, inl, inr, lit<}
use Rattle.std.proofs.Math.Nat.{mul-le-mul_left}
use Rattle.std.proofs.Math.Nat.{mod-eq_of_lt, mod_self, zero-mod, mod-add-div}
use Rattle.std.proofs.lemmas.Nat.{div-mul-add, mod-mul-add, mod_below}
use Rattle.std.proofs.lemmas.Bool.{cases_lt, le-ltb}
use Rattle.lbm_space.specs.Stencil.{part}
use Rattle.lbm_space.specs.Torus.{Torus, IsSpace, cells, cell_number, x_of, y_of, z_of, modulo, back}
use Rattle.lbm_space.proofs.Cells.{layer_below}

-- one step down and one step up on a ring of n places
down_zero : (n : ℕ) → 0 < n → modulo (pos 0 -ℤ pos 1) n ≡ n - 1
down_zero n some = let e : 0 % n ≡ 0 = zero-mod n in rw e (omega arith)

down_more : (n y : ℕ) → suc y < n → modulo (pos (suc y) -ℤ pos 1) n ≡ y
down_more n y below = let some : ltb (suc y) 1 ≡ false = le-ltb (suc y) 1 (omega arith) in let e : suc y - 1 ≡ y = omega arith in rw (some, e) (mod-eq_of_lt (omega arith))

up_last : (n x : ℕ) → x + 1 ≡ n → modulo (pos x -ℤ negsuc 0) n ≡ 0
up_last n x last = rw last (mod_self n)

up_more : (n x : ℕ) → x + 1 < n → modulo (pos x -ℤ negsuc 0) n ≡ x + 1
up_more n x below = mod-eq_of_lt below

stay : (n x : ℕ) → x < n → modulo (pos x -ℤ pos 0) n ≡ x
stay n x below = let e : x + 0 ≡ x = omega arith in rw e (mod-eq_of_lt below)

-- a step by a unit stays on the ring
pub modulo_below : (n x : ℕ) (c : ℤ) → x < n → unsigned_abs c ≤ 1 → modulo (pos x -ℤ c) n < n
modulo_below n x (pos zero) below unit = rw (stay n x below) below
modulo_below n zero (pos (suc zero)) below unit = rw (down_zero n below) (omega arith)
modulo_below n (suc y) (pos (suc zero)) below unit = rw (down_more n y below) (omega arith)
modulo_below n x (pos (suc (suc k))) below unit = absurd (omega arith)
modulo_below n x (negsuc zero) below unit = elim (cases_lt (x + 1) n) [
  | inl more ↦ rw (up_more n x more) more
  | inr last ↦ rw (up_last n x (omega arith)) (omega arith)
]
modulo_below n x (negsuc (suc k)) below unit = absurd (omega arith)

-- a step and the reversed step lead back
pub modulo_twice : (n x : ℕ) (c : ℤ) → x < n → unsigned_abs c ≤ 1 → modulo (pos (modulo (pos x -ℤ c) n) -ℤ neg_ℤ c) n ≡ x
modulo_twice n x (pos zero) below unit = rw (stay n x below) (stay n x below)
modulo_twice n zero (pos (suc zero)) below unit = rw (down_zero n below) (up_last n (n - 1) (omega arith))
modulo_twice n (suc y) (pos (suc zero)) below unit = rw (down_more n y below) (up_more n y (omega arith) ∙ omega arith)
modulo_twice n x (pos (suc (suc k))) below unit = absurd (omega arith)
modulo_twice n x (negsuc zero) below unit = elim (cases_lt (x + 1) n) [
  | inl more ↦ (let e : x + 1 ≡ suc x = omega arith in rw (up_more n x more, e) (down_more n x (omega arith)))
  | inr last ↦ rw (up_last n x (omega arith)) (down_zero n (omega arith) ∙ omega arith)
]
modulo_twice n x (negsuc (suc k)) below unit = absurd (omega arith)

-- the coordinates of the cell at (x, y, z)
pub x_of-cell_number : (t : Torus) (x y z : ℕ) → x < t.nx → x_of t (cell_number t x y z) ≡ x
x_of-cell_number t x y z below =
    let e : x + t.nx * (y + t.ny * z) ≡ (y + t.ny * z) * t.nx + x = omega arith in
    rw e (mod-mul-add (y + t.ny * z) t.nx x below)

pub line_of-cell_number : (t : Torus) (x y z : ℕ) → x < t.nx → cell_number t x y z / t.nx ≡ z * t.ny + y
line_of-cell_number t x y z below =
    let e : x + t.nx * (y + t.ny * z) ≡ (y + t.ny * z) * t.nx + x = omega arith in
    rw e (div-mul-add (y + t.ny * z) t.nx x below ∙ omega arith)

pub y_of-cell_number : (t : Torus) (x y z : ℕ) → x < t.nx → y < t.ny → y_of t (cell_number t x y z) ≡ y
y_of-cell_number t x y z below_x below_y = rw (line_of-cell_number t x y z below_x) (mod-mul-add z t.ny y below_y)

pub z_of-cell_number : (t : Torus) (x y z : ℕ) → x < t.nx → y < t.ny → z_of t (cell_number t x y z) ≡ z
z_of-cell_number t x y z below_x below_y = rw (line_of-cell_number t x y z below_x) (div-mul-add z t.ny y below_y)

-- a cell is the cell at its coordinates
pub cell_number-of : (t : Torus) (cell : ℕ) → cell_number t (x_of t cell) (y_of t cell) (z_of t cell) ≡ cell
cell_number-of t cell = rw (mod-add-div (cell / t.nx) t.ny) (mod-add-div cell t.nx)

-- a coordinate that is in the box
pub record Within (t : Torus) (x y z : ℕ) : Type 0 where
  pub x_within : x < t.nx
  pub y_within : y < t.ny
  pub z_within : z < t.nz

-- the sides of a box are not 0
pub record HasCells (t : Torus) : Type 0 where
  pub some_x : 0 < t.nx
  pub some_y : 0 < t.ny
  pub some_z : 0 < t.nz

pub HasCells-from_space : (t : Torus) → IsSpace t → HasCells t
HasCells-from_space t space = record { some_x = space.some_x; some_y = space.some_y; some_z = space.some_z }

pub cell_within : (t : Torus) (cell : ℕ) → HasCells t → cell < cells t → Within t (x_of t cell) (y_of t cell) (z_of t cell)
cell_within t cell some known = record {
  x_within = mod_below cell t.nx some.some_x;
  y_within = mod_below (cell / t.nx) t.ny some.some_y;
  z_within = layer_below t.nx t.ny t.nz cell some.some_x some.some_y known;
}

pub cell_number_below : (t : Torus) (x y z : ℕ) → Within t x y z → cell_number t x y z < cells t
cell_number_below t x y z within =
    let last : x + t.nx * (y + t.ny * z) < t.nx * (y + t.ny * z + 1) = omega (arith, within.x_within) in
    let lines : y + t.ny * z + 1 ≤ t.ny * t.nz = omega (arith, within.y_within, mul-le-mul_left t.ny within.z_within) in
    omega (arith, mul-le-mul_left t.nx lines)

-- each part of a velocity is -1, 0 or 1
unfoldable pub IsUnit : List ℤ → Type 0
IsUnit c = (a : ℕ) → a < 3 → unsigned_abs (part c a) ≤ 1

-- b is c reversed
unfoldable pub IsReverse : List ℤ → List ℤ → Type 0
IsReverse c b = (a : ℕ) → a < 3 → part b a ≡ neg_ℤ (part c a)

pub back_within : (t : Torus) (c : List ℤ) (cell : ℕ) → HasCells t → IsUnit c → cell < cells t → back t c cell < cells t
unfolding IsUnit
back_within t c cell some unit known =
    let within = cell_within t cell some known in
    cell_number_below t _ _ _ (record {
      x_within = modulo_below t.nx _ _ within.x_within (unit 0 (lit< tt));
      y_within = modulo_below t.ny _ _ within.y_within (unit 1 (lit< tt));
      z_within = modulo_below t.nz _ _ within.z_within (unit 2 (lit< tt));
    })

-- to go back along a velocity and then along the reversed one leads to the cell
pub back-twice : (t : Torus) (c b : List ℤ) (cell : ℕ) → HasCells t → IsUnit c → IsReverse c b → cell < cells t → back t b (back t c cell) ≡ cell
unfolding IsUnit IsReverse
back-twice t c b cell some unit reverse known =
    let within = cell_within t cell some known in
    let x = modulo (pos (x_of t cell) -ℤ part c 0) t.nx in
    let y = modulo (pos (y_of t cell) -ℤ part c 1) t.ny in
    let z = modulo (pos (z_of t cell) -ℤ part c 2) t.nz in
    let x_within : x < t.nx = modulo_below t.nx (x_of t cell) (part c 0) within.x_within (unit 0 (lit< tt)) in
    let y_within : y < t.ny = modulo_below t.ny (y_of t cell) (part c 1) within.y_within (unit 1 (lit< tt)) in
    let x_back : modulo (pos (x_of t (cell_number t x y z)) -ℤ part b 0) t.nx ≡ x_of t cell = rw (x_of-cell_number t x y z x_within, reverse 0 (lit< tt)) (modulo_twice t.nx (x_of t cell) (part c 0) within.x_within (unit 0 (lit< tt))) in
    let y_back : modulo (pos (y_of t (cell_number t x y z)) -ℤ part b 1) t.ny ≡ y_of t cell = rw (y_of-cell_number t x y z x_within y_within, reverse 1 (lit< tt)) (modulo_twice t.ny (y_of t cell) (part c 1) within.y_within (unit 1 (lit< tt))) in
    let z_back : modulo (pos (z_of t (cell_number t x y z)) -ℤ part b 2) t.nz ≡ z_of t cell = rw (z_of-cell_number t x y z x_within y_within, reverse 2 (lit< tt)) (modulo_twice t.nz (z_of t cell) (part c 2) within.z_within (unit 2 (lit< tt))) in
    rw (x_back, y_back, z_back) (cell_number-of t cell)
