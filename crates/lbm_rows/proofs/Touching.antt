-- The ways of a step are those of the pattern that works in place.
use Rattle.std.proofs.Common.{◌≡◌, ℕ, ◌+◌, ◌-◌, ◌*◌, ◌/◌, ◌%◌, ◌<◌, ◌≤◌, nat_eq, Bool, true, false, not, List, ℤ, pos, ◌+ℤ◌, ◌-ℤ◌, neg_ℤ, unsigned_abs, refl, ap, sym, ◌∙◌, subst, inl, inr, arith, lit<}
use Rattle.std.specs.Prelude.{if◌then◌else◌}
use Rattle.std.proofs.lemmas.Nat.{mod-mul-add, div-mul-add, mod_below, mul-add-lt}
use Rattle.std.proofs.lemmas.Bool.{cases_eq}
use Rattle.std.proofs.lemmas.Int.{ints}
use Rattle.lbm_space.specs.Stencil.{Stencil, IsVelocitySet, part, velocity, opposite}
use Rattle.lbm_space.specs.Torus.{x_of, modulo}
use Rattle.lbm_space.proofs.Back.{modulo_below, x_of-cell_number}
use Rattle.lbm_cell.specs.Rows.{entry}
use Rattle.lbm_model.specs.Case.{FlowCase, IsCase, target}
use Rattle.lbm_model.specs.Layout.{array_of, aa_layout, swap_layout}
use Rattle.lbm_model.specs.declared.layout.Layout.{Layout}
use Rattle.lbm_sweep.specs.Blocks.{IsSized}
use Rattle.lbm_rows.specs.declared.ways.Ways.{Ways}
use Rattle.lbm_rows.specs.TileRows.{around, start, AreWays, IsExchange, HasRows, taken_by, sent_by}
use Rattle.lbm_rows.specs.Lending.{TileModel, height, touched, taken, sent}
use Rattle.lbm_rows.proofs.Rings.{step_around, own_around}

twice : (even : Bool) → not (not even) ≡ even
twice true = refl
twice false = refl

-- a row of a table of `height` places a row, and a place in it
pub same_quotient : (a b height m n : ℕ) → m < height → n < height → a * height + m ≡ b * height + n → (a ≡ b) × (m ≡ n)
same_quotient a b height m n low low' same =
    (sym (div-mul-add a height m low) ∙ ap (λ (k : ℕ). k / height) same ∙ div-mul-add b height n low', sym (mod-mul-add a height m low) ∙ ap (λ (k : ℕ). k % height) same ∙ mod-mul-add b height n low')

abbrev turned_when : Bool → Layout
turned_when even = if even then swap_layout else record { margin = 2; base = 1; turned = true; behind = true }

array_by : (v : Stencil) (even : Bool) (i : ℕ) → array_of v (turned_when even) i ≡ (if not even then opposite v i else i)
array_by v true i = refl
array_by v false i = refl

-- the array from which a cell takes direction i, by the parity of the time
pub array_now : (v : Stencil) (time i : ℕ) → array_of v (aa_layout time) i ≡ (if not (nat_eq (time % 2) 0) then opposite v i else i)
array_now v time i = array_by v (nat_eq (time % 2) 0) i

-- the other parity comes next
pub parity_next : (time : ℕ) → nat_eq ((time + 1) % 2) 0 ≡ not (nat_eq (time % 2) 0)
parity_next time = elim (cases_eq (time % 2) 0) [
  | inl even ↦ (let whole : time + 1 ≡ time / 2 * 2 + 1 = omega arith in let next : (time + 1) % 2 ≡ 1 = rw whole (mod-mul-add (time / 2) 2 1 (omega arith)) in rw (even, next))
  | inr odd ↦ (let below = mod_below time 2 (omega arith) in let one : time % 2 ≡ 1 = omega arith in let whole : time + 1 ≡ (time / 2 + 1) * 2 + 0 = omega arith in
      let next : (time + 1) % 2 ≡ 0 = rw whole (mod-mul-add (time / 2 + 1) 2 0 (omega arith)) in rw (one, next))
]

pub array_next : (v : Stencil) (time i : ℕ) → array_of v (aa_layout (time + 1)) i ≡ (if nat_eq (time % 2) 0 then opposite v i else i)
array_next v time i = array_now v (time + 1) i ∙ ap (λ (b : Bool). if not b then opposite v i else i) (parity_next time) ∙ ap (λ (b : Bool). if b then opposite v i else i) (twice (nat_eq (time % 2) 0))

-- what is sent in direction i stands where the opposite direction is taken from
module _ (v : Stencil) (laws : IsVelocitySet v) where
  known_by : (even : Bool) (i : ℕ) → i < v.directions → (if not even then opposite v i else i) < v.directions
  known_by true i known = known
  known_by false i known = laws.opposite_exists i known

  pub array_known : (time i : ℕ) → i < v.directions → array_of v (aa_layout time) i < v.directions
  array_known time i known = subst (λ (k : ℕ). k < v.directions) (sym (array_now v time i)) (known_by (nat_eq (time % 2) 0) i known)

  exchanged_by : (even : Bool) (i : ℕ) → i < v.directions → (if even then opposite v i else i) ≡ (if not even then opposite v (opposite v i) else opposite v i)
  exchanged_by true i known = refl
  exchanged_by false i known = sym (laws.opposite_twice i known)

  pub exchanged : (time i : ℕ) → i < v.directions → array_of v (aa_layout (time + 1)) i ≡ array_of v (aa_layout time) (opposite v i)
  exchanged time i known = array_next v time i ∙ exchanged_by (nat_eq (time % 2) 0) i known ∙ sym (array_now v time (opposite v i))

  distinct_by : (even : Bool) (i j : ℕ) → i < v.directions → j < v.directions → (if not even then opposite v i else i) ≡ (if not even then opposite v j else j) → i ≡ j
  distinct_by true i j known known' same = same
  distinct_by false i j known known' same = sym (laws.opposite_twice i known) ∙ ap (opposite v) same ∙ laws.opposite_twice j known'

  pub array_distinct : (time i j : ℕ) → i < v.directions → j < v.directions → array_of v (aa_layout time) i ≡ array_of v (aa_layout time) j → i ≡ j
  array_distinct time i j known known' same = distinct_by (nat_eq (time % 2) 0) i j known known' (sym (array_now v time i) ∙ same ∙ array_now v time j)

  few_by : (even : Bool) (k : ℕ) → k < v.directions → (if even then 1 else unsigned_abs (pos 1 +ℤ part (velocity v k) 0)) ≤ 2
  few_by true k known = omega arith
  few_by false k known = let unit = laws.unit_parts k 0 known (lit< tt) in omega (arith, ints, unit)

  -- the first cell's slot is one of three
  pub start_few : (time k : ℕ) → k < v.directions → start v time k ≤ 2
  start_few time k known = few_by (nat_eq (time % 2) 0) k known

  module _ (time height : ℕ) (some : 0 < height) (w : Ways) (ways : AreWays v time height w) where
    pub ways_exchange : IsExchange v w
    ways_exchange = record {
      few = laws.few_directions;
      opposites = λ i known. laws.opposite_exists i known;
      distinct = λ i j known known' same.
          let e : array_of v (aa_layout time) i * height ≡ array_of v (aa_layout time) j * height = sym (ways.takes i known) ∙ same ∙ ways.takes j known' in
          array_distinct time i j known known' (same_quotient (array_of v (aa_layout time) i) (array_of v (aa_layout time) j) height 0 0 some some (omega (arith, e))).0;
      starts = λ i known. subst (λ (n : ℕ). n ≤ 2) (sym (ways.from i known)) (start_few time (array_of v (aa_layout time) i) (array_known time i known));
      puts = λ i known. ways.puts i known ∙ ap (λ (k : ℕ). k * height) (exchanged time i known) ∙ sym (ways.takes (opposite v i) (laws.opposite_exists i known));
      to = λ i known. ways.to i known ∙ ap (start v time) (exchanged time i known) ∙ sym (ways.from (opposite v i) (laws.opposite_exists i known));
    }

    pub ways_rows : (width : ℕ) (kept : List (List ℤ)) → IsSized (v.directions * height) (width + 2) kept → HasRows v w height width kept
    ways_rows width kept sized = record {
      known = λ i n known below. let a = array_known time i known in let e = ways.takes i known in let m = mul-add-lt (array_of v (aa_layout time) i) height n v.directions a below in let c = sized.count in omega (arith, e, m);
      apart = λ i j m n known known' low low' same.
          let e = ways.takes i known in let f = ways.takes j known' in
          (same_quotient (array_of v (aa_layout time) i) (array_of v (aa_layout time) j) height m n low low' (omega (arith, e, f, same))).1;
      sized = record { count = refl; lengths = λ k below. let c = sized.count in sized.lengths k (omega arith) };
    }

-- the slot that a cell touches
module _ (case : FlowCase) (allowed : IsCase case) (time : ℕ) where
  slot_by : (even : Bool) (k x : ℕ) → k < case.stencil.directions → 1 + x_of case.torus (if even then x else target case x k) ≡ around case.torus.nx (if even then 1 else unsigned_abs (pos 1 +ℤ part (velocity case.stencil k) 0)) (x_of case.torus x)
  slot_by true k x known = own_around case.torus.nx (x_of case.torus x) (mod_below x case.torus.nx allowed.space.some_x)
  slot_by false k x known =
      let t = case.torus in let v = case.stencil in let o : ℕ = opposite v k in let laws = allowed.set in let known_o = laws.opposite_exists k known in
      let below : x_of t x < t.nx = mod_below x t.nx allowed.space.some_x in
      let turned : part (velocity v o) 0 ≡ neg_ℤ (part (velocity v k) 0) = laws.opposite_velocity k 0 known (lit< tt) in
      ap (λ (m : ℕ). 1 + m) (x_of-cell_number t _ _ _ (modulo_below t.nx (x_of t x) (part (velocity v o) 0) below (laws.unit_parts o 0 known_o (lit< tt))))
      ∙ ap (λ (c : ℤ). 1 + modulo (pos (x_of t x) -ℤ c) t.nx) turned
      ∙ step_around t.nx (x_of t x) (part (velocity v k) 0) below (laws.unit_parts k 0 known (lit< tt))

  pub touched_slot : (k x : ℕ) → k < case.stencil.directions → 1 + x_of case.torus (touched case time k x) ≡ around case.torus.nx (start case.stencil time k) (x_of case.torus x)
  touched_slot k x known = slot_by (nat_eq (time % 2) 0) k x known

  -- so cells take and send by the ways what the layout says
  module _ (tile : TileModel) (w : Ways) (ways : AreWays case.stencil time (height tile) w) where
    pub taken_is : (x i : ℕ) → i < case.stencil.directions → taken_by tile.kept w tile.first case.torus.nx x i ≡ taken case time tile x i
    taken_is x i known = λ j. entry tile.kept (ways.takes i known j + (x / case.torus.nx - tile.first))
        ((ap (λ (s : ℕ). around case.torus.nx s (x % case.torus.nx)) (ways.from i known) ∙ sym (touched_slot (array_of case.stencil (aa_layout time) i) x (array_known case.stencil allowed.set time i known))) j)

    pub sent_is : (x i : ℕ) → i < case.stencil.directions → sent_by tile.kept w tile.first case.torus.nx x i ≡ sent case time tile x i
    sent_is x i known = λ j. entry tile.kept (ways.puts i known j + (x / case.torus.nx - tile.first))
        ((ap (λ (s : ℕ). around case.torus.nx s (x % case.torus.nx)) (ways.to i known) ∙ sym (touched_slot (array_of case.stencil (aa_layout (time + 1)) i) x (array_known case.stencil allowed.set (time + 1) i known))) j)
