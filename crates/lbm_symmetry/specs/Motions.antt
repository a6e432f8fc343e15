-- Motions of a box of cells in which every axis is periodic: axes are exchanged and reversed, and cells are shifted.
use Rattle.std.specs.Prelude.{◌≡◌, ℕ, ◌+◌, ◌-◌, ◌%◌, ◌<◌, ◌≤◌, ◌==◌, Bool, false, List, [], ◌∷◌, ℤ, pos, neg_ℤ, slice_index, nat_eq, if◌then◌else◌, find, unwrap_or}
use Rattle.std.specs.List.{range_with_len}
use Rattle.lbm_space.specs.Stencil.{part}
use Rattle.lbm_space.specs.Torus.{Torus, torus, cells, cell_number, x_of, y_of, z_of, modulo}

-- for each axis of the moved box: which axis of the box it is, whether it is reversed, and how far its cells are then shifted
pub record Motion : Type 0 where
  pub axis : ℕ → ℕ
  pub reversed : ℕ → Bool
  pub shift : ℕ → ℤ

-- no axis is taken twice, and the axes past the dimension stay where they are
pub record IsMotion (dimension : ℕ) (m : Motion) : Type 0 where
  pub known : (a : ℕ) → a < 3 → m.axis a < 3
  pub distinct : (a b : ℕ) → a < 3 → b < 3 → m.axis a ≡ m.axis b → a ≡ b
  pub flat : (a : ℕ) → a < 3 → dimension ≤ a → m.axis a ≡ a

-- ---- motions by name

-- each cell is shifted by the vector d
abbrev pub translation : List ℤ → Motion
translation d = record { axis = λ a. a; reversed = λ _. false; shift = part d }

-- axis a is reversed
abbrev pub mirror : ℕ → Motion
mirror a = record { axis = λ b. b; reversed = λ b. b == a; shift = λ _. pos 0 }

-- axes a and b change places
abbrev pub exchange : ℕ → ℕ → Motion
exchange a b = record { axis = λ c. if c == a then b else if c == b then a else c; reversed = λ _. false; shift = λ _. pos 0 }

-- a quarter turn that takes the direction of axis a to that of axis b: the two change places, and then a is reversed
abbrev pub quarter_turn : ℕ → ℕ → Motion
quarter_turn a b = record { axis = (exchange a b).axis; reversed = (mirror a).reversed; shift = λ _. pos 0 }

-- ---- what a motion makes of vectors

-- a number, with its sign changed where its axis is reversed
abbrev pub signed : Bool → ℤ → ℤ
signed reversed z = if reversed then neg_ℤ z else z

-- a velocity, a force or a momentum: its parts go where their axes go
abbrev pub moved_vector : Motion → List ℤ → List ℤ
moved_vector m u =
    let moved_part = λ (a : ℕ). signed (m.reversed a) (part u (m.axis a)) in
    moved_part 0 ∷ moved_part 1 ∷ moved_part 2 ∷ []

-- ---- what it makes of boxes and cells

-- the side of a box along axis a, and a coordinate of a cell: 0 is x, 1 is y and 2 is z
abbrev pub side : Torus → ℕ → ℕ
side t a = slice_index (t.nx ∷ t.ny ∷ t.nz ∷ []) a

abbrev pub coordinate : Torus → ℕ → ℕ → ℕ
coordinate t x a = slice_index (x_of t x ∷ y_of t x ∷ z_of t x ∷ []) a

-- the moved box
abbrev pub moved_torus : Motion → Torus → Torus
moved_torus m t = torus t.dimension (side t (m.axis 0)) (side t (m.axis 1)) (side t (m.axis 2))

-- coordinate x of n: it is counted from the other end where the axis is reversed, and then shifted, modulo n
abbrev pub moved_coordinate : ℕ → Bool → ℤ → ℕ → ℕ
moved_coordinate n reversed shift x = (modulo shift n + (if reversed then n - 1 - x else x)) % n

-- the cell of the moved box to which cell x is moved
unfoldable pub moved_cell : Motion → Torus → ℕ → ℕ
moved_cell m t x =
    let at = λ (a : ℕ). moved_coordinate (side t (m.axis a)) (m.reversed a) (m.shift a) (coordinate t x (m.axis a)) in
    cell_number (moved_torus m t) (at 0) (at 1) (at 2)

-- the least number below n that passes a test
abbrev pub first_below : ℕ → (ℕ → Bool) → ℕ
first_below n test = unwrap_or (find test (range_with_len 0 n)) 0

-- the cell that is moved to cell y
unfoldable pub former_cell : Motion → Torus → ℕ → ℕ
former_cell m t y = first_below (cells t) (λ x. nat_eq (moved_cell m t x) y)
