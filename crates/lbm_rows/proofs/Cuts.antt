-- The tiles of a case: all kept rows are lent to them, each to one.
use Rattle.std.proofs.Common.{◌≡◌, ◌≢◌, ℕ, zero, suc, ◌+◌, ◌-◌, ◌*◌, ◌/◌, ◌%◌, ◌<◌, ◌≤◌, List, [], ◌∷◌, ◌++◌, ℤ, length, slice_get, Some, ap, sym, ◌∙◌, subst, arith, inl, inr}
use Rattle.std.specs.Prelude.{Option, slice_index_or}
use Rattle.std.proofs.lemmas.Bool.{cases_eq, cases_lt}
use Rattle.std.proofs.lemmas.List.{ext_get_or}
use Rattle.std.proofs.lemmas.Nat.{div-mul-add, mod-mul-add, div_below, mod_below, mul-add-lt}
use Rattle.std.proofs.lemmas.Option.{slice_get-get_or}
use Rattle.lbm_space.specs.Stencil.{opposite}
use Rattle.lbm_space.specs.Torus.{rows}
use Rattle.lbm_model.specs.Case.{FlowCase, IsCase}
use Rattle.lbm_rows.specs.Kept.{AreKept}
use Rattle.lbm_rows.specs.Lending.{TileModel, height, lent_row, lent_number, entry_number, IsLent}
use Rattle.lbm_rows.specs.Tiles.{tile_bounds, AreTiles, ArePieces, IsCut, IsTileAt, IsBack}
use Rattle.lbm_rows.proofs.LentRows.{lent_known, lent_to, entry_apart}

-- one more at the end of a list
pub pushed_at : {X : Type 0} (P : ℕ → X → Type 0) (xs : List X) (y : X) → ((k : ℕ) (x : X) → slice_get xs k ≡ Some x → P k x) → P (length xs) y → (k : ℕ) (x : X) → slice_get (xs ++ y ∷ []) k ≡ Some x → P k x
pushed_at P [] y all here zero x e = (let same : y ≡ x = cc in subst (P 0) same here)
pushed_at P [] y all here (suc k) x e = absurd cc
pushed_at P (z ∷ zs) y all here zero x e = all 0 x e
pushed_at P (z ∷ zs) y all here (suc k) x e = pushed_at (λ n. P (suc n)) zs y (λ n w is. all (suc n) w is) here k x e

-- tiles of a case, by their bounds
module _ (case : FlowCase) (allowed : IsCase case) (time n count : ℕ) (cut : IsCut (rows case.torus) n count) where
  abbrev bounds : ℕ → ℕ × ℕ
  bounds k = tile_bounds (rows case.torus) n k

  abbrev tall : ℕ → ℕ
  tall k = (bounds k).1 - (bounds k).0

  positive : (k : ℕ) → k < count → 0 < n
  positive k below = elim (cases_eq n 0) [
    | inl nought ↦ (let none : count * n ≡ count * 0 = ap (λ (m : ℕ). count * m) nought in let all = cut.all in let some = cut.each k below in absurd (omega arith))
    | inr ne ↦ omega arith
  ]

  pub some_rows : (k : ℕ) → k < count → (bounds k).0 < (bounds k).1
  some_rows k below = let some = cut.each k below in let more = positive k below in omega arith

  pub rows_inside : (k : ℕ) → (bounds k).1 ≤ rows case.torus
  rows_inside k = omega arith

  rising : (k m : ℕ) → k < m → m < count → (bounds k).1 ≤ (bounds m).0
  rising k m less below = let more = positive m below in let e = mul-add-lt k n (n - 1) m less (omega arith) in omega arith

  pub tiles_apart : (k m i j : ℕ) → k < count → m < count → k ≢ m → i < case.stencil.directions * tall k → j < case.stencil.directions * tall m
      → entry_number case time (bounds k) i ≡ entry_number case time (bounds m) j → ⊥
  tiles_apart k m i j here there ne below below' same = elim (cases_lt k m) [
    | inl less ↦ entry_apart case allowed time (bounds k) (bounds m) (some_rows k here) (some_rows m there) (rising k m less there) (rows_inside m) i j below below' same
    | inr more ↦ entry_apart case allowed time (bounds m) (bounds k) (some_rows m there) (some_rows k here) (rising m k (omega arith) here) (rows_inside k) j i below' below (sym same)
  ]

  -- a row is that of one tile
  pub record IsInTile (r : ℕ) : Type 0 where
    pub k : ℕ
    pub known : k < count
    pub low : (bounds k).0 ≤ r
    pub high : r < (bounds k).1

  pub tile_of_row : (r : ℕ) → r < rows case.torus → IsInTile r
  tile_of_row r here =
      let all = cut.all in
      elim (cases_eq n 0) [
        | inl nought ↦ (let none : count * n ≡ count * 0 = ap (λ (m : ℕ). count * m) nought in absurd (omega arith))
        | inr ne ↦ (let whole : r / n * n + r % n ≡ r = omega arith in let rest = mod_below r n (omega arith) in record {
          k = r / n;
          known = div_below r n count (omega arith) (omega arith);
          low = omega arith;
          high = omega arith;
        })
      ]

  -- and a kept row is lent to one tile
  pub record IsEntry (m : ℕ) : Type 0 where
    pub k : ℕ
    pub j : ℕ
    pub known : k < count
    pub below : j < case.stencil.directions * tall k
    pub is : m ≡ entry_number case time (bounds k) j

  pub entry_of : (m : ℕ) → m < case.stencil.directions * rows case.torus → IsEntry m
  entry_of m here =
      elim (cases_eq (rows case.torus) 0) [
        | inl nought ↦ (let none : case.stencil.directions * rows case.torus ≡ case.stencil.directions * 0 = ap (λ (h : ℕ). case.stencil.directions * h) nought in absurd (omega arith))
        | inr ne ↦ (let a : ℕ = m / rows case.torus in let r : ℕ = m % rows case.torus in
            let some : 0 < rows case.torus = omega arith in
            let a_known : a < case.stencil.directions = div_below m (rows case.torus) case.stencil.directions some here in
            let r_known : r < rows case.torus = mod_below m (rows case.torus) some in
            let whole : a * rows case.torus + r ≡ m = omega arith in
            let s : ℕ = lent_row case time (opposite case.stencil a) r in
            let at = tile_of_row s (lent_known case allowed time (opposite case.stencil a) r (allowed.set.opposite_exists a a_known) r_known) in
            let low = at.low in let high = at.high in
            let q : ℕ = s - (bounds at.k).0 in
            let q_known : q < tall at.k = omega arith in
            let row : (bounds at.k).0 + q ≡ s = omega arith in record {
              k = at.k;
              j = a * tall at.k + q;
              known = at.known;
              below = (let e = mul-add-lt a (tall at.k) q case.stencil.directions a_known q_known in omega (arith, e));
              is = sym whole ∙ ap (λ (h : ℕ). a * rows case.torus + h) (sym (lent_to case allowed time a r a_known r_known))
                  ∙ ap (lent_number case time a) (sym row)
                  ∙ (λ z. lent_number case time (sym (div-mul-add a (tall at.k) q q_known) z) ((bounds at.k).0 + sym (mod-mul-add a (tall at.k) q q_known) z));
            })
      ]

  -- what each tile has brought back
  module _ (new : List (List ℤ)) (long : length new ≡ case.stencil.directions * rows case.torus) (tile : (k : ℕ) → k < count → (tile : TileModel) × IsTileAt case n k tile × IsBack case time tile new) where
    -- a kept row is that of a tile
    pub brought : (m : ℕ) → m < case.stencil.directions * rows case.torus
        → (k : ℕ) × (below : k < count) × (j : ℕ) × (j < case.stencil.directions * height (tile k below).0) × (m ≡ entry_number case time ((tile k below).0.first, (tile k below).0.end) j) × (slice_index_or new m [] ≡ slice_index_or (tile k below).0.kept j [])
    brought m here =
        let e = entry_of m here in let t = tile e.k e.known in let same = t.1.bounds in
        let below : e.j < case.stencil.directions * height t.0 = subst (λ (b : ℕ × ℕ). e.j < case.stencil.directions * (b.1 - b.0)) (sym same) e.below in
        let is : m ≡ entry_number case time (t.0.first, t.0.end) e.j = e.is ∙ ap (λ (b : ℕ × ℕ). entry_number case time b e.j) (sym same) in
        (e.k, e.known, e.j, below, is, ap (λ (h : ℕ). slice_index_or new h []) is ∙ t.2 e.j below)

    pub kept_again : AreKept case new
    kept_again = record {
      count = long;
      lengths = λ m here. (let b = brought m here in let t = tile b.0 b.1 in ap (λ (row : List ℤ). length row) b.5 ∙ t.1.whole.sized.lengths b.2 b.3);
    }

    -- where the tiles have what they were lent, all is as before
    pub all_back : (kept : List (List ℤ)) → length kept ≡ case.stencil.directions * rows case.torus → ((k : ℕ) (below : k < count) → IsLent case time kept (tile k below).0) → new ≡ kept
    all_back kept many lent = ext_get_or [] new kept (long ∙ sym many) (λ m here.
        let b = brought m (omega (arith, here, long)) in let t = tile b.0 b.1 in let was = lent b.0 b.1 in
        let some = was.some in let h : ℕ = height t.0 in
        let array = div_below b.2 h case.stencil.directions (omega arith) b.3 in let rest = mod_below b.2 h (omega arith) in
        let whole : b.2 / h * h + b.2 % h ≡ b.2 = omega arith in
        b.5 ∙ ap (λ (j : ℕ). slice_index_or t.0.kept j []) (sym whole) ∙ was.lent (b.2 / h) (b.2 % h) array rest ∙ ap (λ (j : ℕ). slice_index_or kept j []) (sym b.4))

  -- the tiles are lent one after the other
  module _ (first now : List (List ℤ)) (done : ℕ) (below : done < count)
      (left : (m : ℕ) → ((k j : ℕ) → k < done → j < case.stencil.directions * tall k → m ≡ entry_number case time (bounds k) j → ⊥) → slice_index_or now m [] ≡ slice_index_or first m []) where
    pub lent_first : (tile : TileModel) → (tile.first, tile.end) ≡ bounds done → IsLent case time now tile → IsLent case time first tile
    lent_first tile same lent = record {
      some = lent.some;
      inside = lent.inside;
      count = lent.count;
      lent = λ a r known here. (
          let some = lent.some in let h : ℕ = height tile in let j : ℕ = a * h + r in
          let e = mul-add-lt a h r case.stencil.directions known here in let in_tile : j < case.stencil.directions * h = omega (arith, e) in
          let is : lent_number case time a (tile.first + r) ≡ entry_number case time (tile.first, tile.end) j = (λ z. lent_number case time (sym (div-mul-add a h r here) z) (tile.first + sym (mod-mul-add a h r here) z)) in
          lent.lent a r known here ∙ left (lent_number case time a (tile.first + r)) (λ k i less inside e.
          tiles_apart k done i j (omega arith) below (omega arith) inside (subst (λ (b : ℕ × ℕ). j < case.stencil.directions * (b.1 - b.0)) same in_tile)
          (sym e ∙ is ∙ ap (λ (b : ℕ × ℕ). entry_number case time b j) same)));
    }

    pub left_more : (new : List (List ℤ)) → ((m : ℕ) → ((j : ℕ) → j < case.stencil.directions * tall done → m ≡ entry_number case time (bounds done) j → ⊥) → slice_index_or new m [] ≡ slice_index_or now m [])
        → (m : ℕ) → ((k j : ℕ) → k < done + 1 → j < case.stencil.directions * tall k → m ≡ entry_number case time (bounds k) j → ⊥) → slice_index_or new m [] ≡ slice_index_or first m []
    left_more new others m off = others m (λ j inside e. off done j (omega arith) inside e) ∙ left m (λ k j less inside e. off k j (omega arith) inside e)

  -- and brought back one after the other
  pub still_back : (now new : List (List ℤ)) (done k : ℕ) (tile one : TileModel) → k < done → done < count → (tile.first, tile.end) ≡ bounds k → (one.first, one.end) ≡ bounds done
      → ((m : ℕ) → ((j : ℕ) → j < length one.kept → m ≡ entry_number case time (one.first, one.end) j → ⊥) → slice_index_or new m [] ≡ slice_index_or now m [])
      → length one.kept ≡ case.stencil.directions * height one → IsBack case time tile now → IsBack case time tile new
  still_back now new done k tile one less below at here others count_of back j inside =
      others (entry_number case time (tile.first, tile.end) j) (λ i within e.
      tiles_apart k done j i (omega arith) below (omega arith) (subst (λ (b : ℕ × ℕ). j < case.stencil.directions * (b.1 - b.0)) at inside)
      (subst (λ (b : ℕ × ℕ). i < case.stencil.directions * (b.1 - b.0)) here (omega (arith, within, count_of)))
      (ap (λ (b : ℕ × ℕ). entry_number case time b j) (sym at) ∙ e ∙ ap (λ (b : ℕ × ℕ). entry_number case time b i) here))
      ∙ back j inside

  -- a tile has brought back what it had
  pub tile_back : (new : List (List ℤ)) (k : ℕ) (tile : TileModel) → IsTileAt case n k tile
      → ((j : ℕ) → j < length tile.kept → slice_index_or new (entry_number case time (tile.first, tile.end) j) [] ≡ slice_index_or tile.kept j []) → IsBack case time tile new
  tile_back new k tile at back j below = back j (subst (λ (m : ℕ). j < m) (sym at.whole.sized.count) below)

module _ (case : FlowCase) (allowed : IsCase case) (time : ℕ) (new : List (List ℤ)) where
  -- once all tiles are back, all kept rows are whole
  pub tiles_rows : (tiles : List TileModel) → AreTiles case tiles → length new ≡ case.stencil.directions * rows case.torus → ((k : ℕ) (tile : TileModel) → slice_get tiles k ≡ Some tile → IsBack case time tile new) → AreKept case new
  tiles_rows tiles are long back =
      let d : TileModel = record { first = 0; end = 0; kept = [] } in
      kept_again case allowed time are.n (length tiles) are.cut new long (λ k below.
      let tile : TileModel = slice_index_or tiles k d in let is = slice_get-get_or tiles k d below in (tile, are.at k tile is, back k tile is))

  pub pieces_rows : (pieces : List (Option TileModel)) → ArePieces case pieces → length new ≡ case.stencil.directions * rows case.torus → ((k : ℕ) (tile : TileModel) → slice_get pieces k ≡ Some (Some tile) → IsBack case time tile new) → AreKept case new
  pieces_rows pieces are long back =
      kept_again case allowed time are.n (length pieces) are.cut new long (λ k below. let at = are.at k below in (at.0, at.2, back k at.0 at.1))

  -- one more tile is back
  module _ (n count : ℕ) (cut : IsCut (rows case.torus) n count) (now : List (List ℤ)) (k : ℕ) (one : TileModel) (below : k < count) (at : IsTileAt case n k one)
      (back : (j : ℕ) → j < length one.kept → slice_index_or new (entry_number case time (one.first, one.end) j) [] ≡ slice_index_or one.kept j [])
      (others : (m : ℕ) → ((j : ℕ) → j < length one.kept → m ≡ entry_number case time (one.first, one.end) j → ⊥) → slice_index_or new m [] ≡ slice_index_or now m []) where
    pub back_more : (m : ℕ) (tile : TileModel) → m < k + 1 → IsTileAt case n m tile → (m ≡ k → tile ≡ one) → (m < k → IsBack case time tile now) → IsBack case time tile new
    back_more m tile less there same before = elim (cases_eq m k) [
      | inl e ↦ subst (λ (t : TileModel). IsBack case time t new) (sym (same e)) (tile_back case allowed time n count cut new k one at back)
      | inr ne ↦ still_back case allowed time n count cut now new k m tile one (omega arith) below there.bounds at.bounds others at.whole.sized.count (before (omega arith))
    ]
