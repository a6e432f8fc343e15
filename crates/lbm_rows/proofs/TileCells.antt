-- A tile that is ready to be stepped, by the ways of the step.
use Rattle.std.proofs.Common.{◌≡◌, ℕ, ◌+◌, ◌-◌, ◌*◌, ◌<◌, ◌≤◌, ℤ, unsigned_abs, sym, ap, subst, arith}
use Rattle.lbm_space.specs.Torus.{cells}
use Rattle.lbm_walk.proofs.Places.{rows_cells, row_end, few_cells}
use Rattle.lbm_model.specs.Case.{FlowCase, IsCase}
use Rattle.lbm_model.specs.Small.{size_limit}
use Rattle.lbm_rows.specs.declared.ways.Ways.{Ways}
use Rattle.lbm_rows.specs.TileRows.{taken_by, AreWays, AreTakenBy, HasRows, IsExchange}
use Rattle.lbm_rows.specs.Lending.{TileModel, height, InTile, IsReady, taken}
use Rattle.lbm_rows.proofs.Touching.{ways_exchange, ways_rows, taken_is}

module _ (case : FlowCase) (allowed : IsCase case) (time : ℕ) (tile : TileModel) (ready : IsReady case time tile) where
  pub in_tile : (x : ℕ) → tile.first * case.torus.nx ≤ x → x < tile.end * case.torus.nx → InTile case tile x
  in_tile x low high = rows_cells case.torus allowed.space (tile.first, tile.end) tile.first tile.end x ready.whole.inside (omega arith) (omega arith) low high

  pub known_cells : tile.end * case.torus.nx ≤ cells case.torus
  known_cells =
      let some = ready.whole.some in let inside = ready.whole.inside in let r : ℕ = tile.end - 1 in let is : r + 1 ≡ tile.end = omega arith in
      let h = row_end case.torus allowed.space r (omega arith) in let e = ap (λ (k : ℕ). k * case.torus.nx) is in omega arith

  pub few_of_tile : tile.end * case.torus.nx ≤ 4194304
  few_of_tile =
      let some = ready.whole.some in let inside = ready.whole.inside in let r : ℕ = tile.end - 1 in let is : r + 1 ≡ tile.end = omega arith in
      let h = few_cells case.torus allowed.space r (omega arith) in let e = ap (λ (k : ℕ). k * case.torus.nx) is in omega arith

  positive : 0 < height tile
  positive = let some = ready.whole.some in omega arith

  module _ (w : Ways) (ways : AreWays case.stencil time (height tile) w) where
    pub tile_exchange : IsExchange case.stencil w
    tile_exchange = ways_exchange case.stencil allowed.set time (height tile) positive w ways

    pub tile_rows : HasRows case.stencil w (height tile) case.torus.nx tile.kept
    tile_rows = ways_rows case.stencil allowed.set time (height tile) positive w ways case.torus.nx tile.kept ready.whole.sized

    pub tile_small : (x i : ℕ) → tile.first * case.torus.nx ≤ x → x < tile.end * case.torus.nx → i < case.stencil.directions → unsigned_abs (taken_by tile.kept w tile.first case.torus.nx x i) ≤ size_limit case x
    tile_small x i low high known = subst (λ (z : ℤ). unsigned_abs z ≤ size_limit case x) (sym (taken_is case allowed time tile w ways x i known)) (ready.small x i (in_tile x low high) known)

    pub tile_taken : AreTakenBy case.stencil.directions tile.kept w (tile.first, tile.end) case.torus.nx (taken case time tile)
    tile_taken x i low high known = taken_is case allowed time tile w ways x i known
