-- What the cells of a row take and put where the pads are set, in terms of their slots.
use Rattle.std.proofs.Common.{◌≡◌, ℕ, suc, ◌+◌, ◌<◌, ◌≤◌, List, [], ℤ, pos, get_or, slice_index, refl, ap, sym, ◌∙◌, arith}
use Rattle.std.specs.Prelude.{slice_index_or}
use Rattle.lbm_space.specs.Stencil.{Stencil, opposite}
use Rattle.lbm_cell.specs.Rows.{entry}
use Rattle.lbm_rows.specs.declared.ways.Ways.{Ways}
use Rattle.lbm_rows.specs.TileRows.{takes, puts, stands, around, with_pads, without_pads, HasRow, IsAlike, IsExchange}
use Rattle.lbm_rows.proofs.Rings.{loaded_at, stored_at}

-- the cell at x is at place 1 + x of a walk
pub stands_next : (kept : List (List ℤ)) (k first x : ℕ) → stands kept k first (1 + x) ≡ entry kept k (first + x)
stands_next kept k first x = let e : 1 + x ≡ suc x = omega arith in ap (stands kept k first) e

-- rows of a tile that are alike have the kept rows of a row
pub has_alike : (v : Stencil) (w : Ways) (row other width : ℕ) (old new : List (List ℤ)) → IsAlike v w row old new → HasRow v w other width old → HasRow v w other width new
has_alike v w row other width old new alike has = record {
  known = λ i known. let h = has.known i known in let c = alike.count in omega arith;
  sized = record { count = refl; lengths = λ j below. let c = alike.count in alike.lengths j ∙ has.sized.lengths j (omega arith) };
}

module _ (v : Stencil) (w : Ways) (row width : ℕ) (kept new : List (List ℤ)) (some : 1 ≤ width) (has : HasRow v w row width kept) (exchange : IsExchange v w) where
  pub taken_side : ((i : ℕ) → i < v.directions → slice_index_or new (takes w row i) [] ≡ with_pads width (slice_index_or kept (takes w row i) []))
      → (i x : ℕ) → i < v.directions → x < width → entry new (takes w row i) (slice_index w.from i + x) ≡ entry kept (takes w row i) (around width (slice_index w.from i) x)
  taken_side loaded i x known below =
      ap (λ (r : List ℤ). get_or r (slice_index w.from i + x) (pos 0)) (loaded i known)
      ∙ loaded_at width (get_or kept (takes w row i) []) some (has.sized.lengths (takes w row i) (has.known i known)) (slice_index w.from i) x (exchange.starts i known) below

  module _ (stored : (i : ℕ) → i < v.directions → slice_index_or new (takes w row i) [] ≡ without_pads width (slice_index w.from i) (slice_index_or kept (takes w row i) [])) where
    put_at : (i x : ℕ) → i < v.directions → x < width → entry new (takes w row i) (around width (slice_index w.from i) x) ≡ entry kept (takes w row i) (slice_index w.from i + x)
    put_at i x known below =
        ap (λ (r : List ℤ). get_or r (around width (slice_index w.from i) x) (pos 0)) (stored i known)
        ∙ stored_at width (get_or kept (takes w row i) []) some (has.sized.lengths (takes w row i) (has.known i known)) (slice_index w.from i) x (exchange.starts i known) below

    pub sent_side : (i x : ℕ) → i < v.directions → x < width → entry new (puts w row i) (around width (slice_index w.to i) x) ≡ entry kept (puts w row i) (slice_index w.to i + x)
    sent_side i x known below =
        (λ j. entry new (exchange.puts i known j + row) (around width (exchange.to i known j) x))
        ∙ put_at (opposite v i) x (exchange.opposites i known) below
        ∙ (λ j. entry kept (sym (exchange.puts i known) j + row) (sym (exchange.to i known) j + x))
