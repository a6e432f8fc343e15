-- Pads are loaded and stored line by line.
use Rattle.std.proofs.Common.{◌≡◌, ◌≢◌, ℕ, zero, suc, ◌+◌, ◌-◌, ◌<◌, ◌≤◌, List, ℤ, pos, negsuc, unsigned_abs, w64, length, take, drop, refl, sym, ap, subst, ◌∙◌, inl, inr, arith, rules}
use Rattle.std.proofs.lemmas.Bool.{cases_lt}
use Rattle.std.proofs.lemmas.Int.{ints}
use Rattle.std.proofs.lemmas.List.{places}
use borrow.Rule.Slice.PartMut.{put_mid}
use mir.Val.{of_z}
use Rattle.lbm_space.specs.Stencil.{part}
use Rattle.lbm_space.specs.Torus.{Torus, IsSpace, padded}
use Rattle.lbm_space.specs.Padded.{padded_box, pads_below, offset, IsInterior, IsPad}
use Rattle.lbm_space.proofs.Interior.{interior_or_pad}
use Rattle.lbm_arrays.specs.Arrays.{held}
use Rattle.lbm_arrays.specs.Pads.{place_slot, stand, IsReached, IsOnce, IsLoaded, IsStored, line_start, stand_start, IsLed, IsUnitVelocity, IsCopied, IsLoadedIn, IsStoredIn}
use Rattle.lbm_arrays.proofs.Padding.{stand_interior, stand_below, stand-interior}
use Rattle.lbm_arrays.proofs.Lines.{line_next, line_inside, stand-left, stand-inner, stand-right, led_along, reached_along}

module _ (t : Torus) (space : IsSpace t) where
  -- one run after the other
  pub loaded_on : (lo mid hi : ℕ) (old now new : List ℤ) → lo ≤ mid → mid ≤ hi → IsLoadedIn t lo mid old now → IsLoadedIn t mid hi now new → IsLoadedIn t lo hi old new
  loaded_on lo mid hi old now new up up' front rest =
      record {
        pads = λ p low high pad. elim (cases_lt p mid) [
          | inl early ↦ rest.others p (λ q_low q_high q_pad. omega (arith, early, q_low)) ∙ front.pads p low early pad
          | inr late ↦ rest.pads p late high pad ∙ front.others (stand t p) (λ q_low q_high q_pad. q_pad.outside (stand_interior t space p pad.known))
        ];
        others = λ p other. rest.others p (λ low high. other (omega (arith, low, up)) high) ∙ front.others p (λ low high. other low (omega (arith, high, up')));
      }

  pub loaded_none : (lo : ℕ) (xs : List ℤ) → IsLoadedIn t lo lo xs xs
  loaded_none lo xs = record { pads = λ p low high pad. absurd (omega arith); others = λ p other. refl }

  -- a run whose places stand for a run
  loaded_run : (from to n : ℕ) (old new : List ℤ) → to + n ≤ padded t → ((j : ℕ) → j < n → stand t (to + j) ≡ from + j) → IsCopied from to n old new → IsLoadedIn t to (to + n) old new
  loaded_run from to n old new room stands copied =
      record {
        pads = λ p low high pad. given p (p - to) (omega arith) (omega arith);
        others = λ p other. elim (cases_lt p to) [
          | inl early ↦ copied.before p early
          | inr low ↦ elim (cases_lt p (to + n)) [
            | inl high ↦ elim (interior_or_pad t space p (omega arith)) [
              | inl interior ↦ given p (p - to) (omega arith) (omega arith) ∙ ap (held old) (stand-interior t space p interior)
              | inr pad ↦ absurd (other low high pad)
            ]
            | inr late ↦ copied.behind p late
          ]
        ];
      }
    where
      given : (p j : ℕ) → j < n → p ≡ to + j → held new p ≡ held old (stand t p)
      given p j j_in is = ap (held new) is ∙ copied.run j j_in ∙ ap (held old) (sym (ap (stand t) is ∙ stands j j_in))

  -- the same for storing, where no two pads that are reached stand for one place
  pub stored_on : (off : ℤ) (lo mid hi : ℕ) (old now new : List ℤ) → IsOnce t off → lo ≤ mid → mid ≤ hi → IsStoredIn t off lo mid old now → IsStoredIn t off mid hi now new → IsStoredIn t off lo hi old new
  stored_on off lo mid hi old now new once up up' front rest =
      record {
        pads = λ p low high pad led. elim (cases_lt p mid) [
          | inl early ↦ rest.others (stand t p) (λ q q_low q_high q_pad q_led same. let one = once p q led q_led same in omega arith) ∙ front.pads p low early pad led
          | inr late ↦ rest.pads p late high pad led ∙ front.others p (λ q q_low q_high q_pad q_led same. pad.outside (subst (IsInterior t) (sym same) (stand_interior t space q q_pad.known)))
        ];
        others = λ s other. rest.others s (λ p low high. other p (omega (arith, low, up)) high) ∙ front.others s (λ p low high. other p low (omega (arith, high, up')));
      }

  pub stored_none : (off : ℤ) (lo hi : ℕ) (xs : List ℤ) → ((p : ℕ) → lo ≤ p → p < hi → IsReached t off p → ⊥) → IsStoredIn t off lo hi xs xs
  stored_none off lo hi xs none = record { pads = λ p low high pad led. absurd (none p low high led); others = λ s other. refl }

  stored_run : (off : ℤ) (from to n : ℕ) (old new : List ℤ) → from + n ≤ padded t → ((j : ℕ) → j < n → stand t (from + j) ≡ to + j) → ((j : ℕ) → j < n → IsReached t off (from + j)) → IsCopied from to n old new
      → IsStoredIn t off from (from + n) old new
  stored_run off from to n old new room stands reached copied =
      record {
        pads = λ p low high pad led.
            let j : ℕ = p - from in let j_in : j < n = omega arith in let is : p ≡ from + j = omega arith in
            ap (held new) (ap (stand t) is ∙ stands j j_in) ∙ copied.run j j_in ∙ ap (held old) (sym is);
        others = λ s other. elim (cases_lt s to) [
          | inl early ↦ copied.before s early
          | inr low ↦ elim (cases_lt s (to + n)) [
            | inl high ↦ inside s (s - to) other (omega arith) (omega arith)
            | inr late ↦ copied.behind s late
          ]
        ];
      }
    where
      inside : (s j : ℕ) → ((p : ℕ) → from ≤ p → p < from + n → IsPad t p → IsReached t off p → s ≢ stand t p) → j < n → s ≡ to + j → held new s ≡ held old s
      inside s j other j_in is = elim (interior_or_pad t space (from + j) (omega arith)) [
        | inl interior ↦ (
            let own : to + j ≡ from + j = sym (stands j j_in) ∙ stand-interior t space (from + j) interior in
            ap (held new) is ∙ copied.run j j_in ∙ ap (held old) (sym (is ∙ own)))
        | inr pad ↦ absurd (other (from + j) (omega arith) (omega arith) pad (reached j j_in) (is ∙ sym (stands j j_in)))
      ]

  module _ (y z : ℕ) (y_in : y < t.ny + 2) (z_in : z < (padded_box t).nz) where
    -- a line whose left end, cells and right end are copied
    pub loaded_line : (first cells : ℕ) (old a b new : List ℤ) → first ≡ line_start t y z → cells ≡ stand_start t y z
        → IsCopied (cells + t.nx) first 1 old a → IsCopied (cells + 1) (first + 1) t.nx a b → IsCopied (cells + 1) (first + t.nx + 1) 1 b new
        → IsLoadedIn t (line_start t y z) (line_start t (y + 1) z) old new
    loaded_line first cells old a b new is_first is_cells left inner right =
        let room = line_inside t space y z y_in z_in in let next = line_next t space y z in
        let one : IsLoadedIn t first (first + 1) old a =
        loaded_run (cells + t.nx) first 1 old a (omega arith) (λ j j_in. let zero : j ≡ 0 = omega arith in stand-left t space y z y_in z_in (first + j) (omega arith) ∙ omega arith) left in
        let two : IsLoadedIn t (first + 1) (first + 1 + t.nx) a b =
        loaded_run (cells + 1) (first + 1) t.nx a b (omega arith) (λ j j_in. stand-inner t space y z y_in z_in (first + 1 + j) j j_in (omega arith) ∙ omega arith) inner in
        let three : IsLoadedIn t (first + t.nx + 1) (first + t.nx + 1 + 1) b new =
        loaded_run (cells + 1) (first + t.nx + 1) 1 b new (omega arith) (λ j j_in. let zero : j ≡ 0 = omega arith in stand-right t space y z y_in z_in (first + t.nx + 1 + j) (omega arith) ∙ omega arith) right in
        let middle : first + 1 + t.nx ≡ first + t.nx + 1 = omega arith in
        let end : first + t.nx + 1 + 1 ≡ line_start t (y + 1) z = omega arith in
        let front : IsLoadedIn t first (first + t.nx + 1) old b = subst (λ (n : ℕ). IsLoadedIn t first n old b) middle (loaded_on first (first + 1) (first + 1 + t.nx) old a b (omega arith) (omega arith) one two) in
        let whole : IsLoadedIn t first (first + t.nx + 1 + 1) old new = loaded_on first (first + t.nx + 1) (first + t.nx + 1 + 1) old b new (omega arith) (omega arith) front three in
        subst (λ (w : ℕ × ℕ). IsLoadedIn t w.0 w.1 old new) (λ i. (is_first i, end i)) whole

    module _ (c : List ℤ) (moves : IsUnitVelocity t c) where
      -- nothing of a line is stored to which the velocity leads from no line of cells
      pub stored_no_line : (xs : List ℤ) → (IsLed 1 t.ny (part c 1) y × IsLed (pads_below t) t.nz (part c 2) z → ⊥) → IsStoredIn t (offset t c) (line_start t y z) (line_start t (y + 1) z) xs xs
      stored_no_line xs none =
          let next = line_next t space y z in
          stored_none (offset t c) (line_start t y z) (line_start t (y + 1) z) xs (λ p low high led.
          let x : ℕ = p - line_start t y z in let is : p ≡ line_start t y z + x = omega arith in
          let all = led_along t space c moves y z y_in z_in x (omega arith) (subst (IsReached t (offset t c)) is led) in
          none (all.y_led, all.z_led))

      module _ (once : IsOnce t (offset t c)) (y_led : IsLed 1 t.ny (part c 1) y) (z_led : IsLed (pads_below t) t.nz (part c 2) z) (first cells : ℕ) (is_first : first ≡ line_start t y z) (is_cells : cells ≡ stand_start t y z) where
        -- of a line to which it leads, the places are reached to which its first part leads
        reached : (x p : ℕ) → IsLed 1 t.nx (part c 0) x → p ≡ first + x → IsReached t (offset t c) p
        reached x p led at =
            let is : line_start t y z + x ≡ p = omega arith in
            subst (IsReached t (offset t c)) is (reached_along t space c moves y z y_in z_in x (record { x_led = led; y_led = y_led; z_led = z_led }))

        missed : (lo hi : ℕ) (xs : List ℤ) → first ≤ lo → hi ≤ first + (t.nx + 2) → ((x : ℕ) → lo ≤ first + x → first + x < hi → IsLed 1 t.nx (part c 0) x → ⊥) → IsStoredIn t (offset t c) lo hi xs xs
        missed lo hi xs lo_in hi_in none = stored_none (offset t c) lo hi xs (λ p low high led.
            let x : ℕ = p - first in let is : p ≡ line_start t y z + x = omega arith in
            none x (omega arith) (omega arith) (led_along t space c moves y z y_in z_in x (omega arith) (subst (IsReached t (offset t c)) is led)).x_led)

        room : first + (t.nx + 2) ≤ padded t
        room = let inside = line_inside t space y z y_in z_in in omega arith

        -- it leads straight to the line
        pub stored_straight : (old new : List ℤ) → part c 0 ≡ pos 0 → IsCopied (first + 1) (cells + 1) t.nx old new → IsStoredIn t (offset t c) (line_start t y z) (line_start t (y + 1) z) old new
        stored_straight old new straight inner =
            let off : ℤ = offset t c in let next = line_next t space y z in let inside = room in
            let left : IsStoredIn t off first (first + 1) old old = missed first (first + 1) old (omega arith) (omega arith) (λ x low high led. let l = led.low in omega (arith, ints, l, straight, high)) in
            let run : IsStoredIn t off (first + 1) (first + 1 + t.nx) old new =
            stored_run off (first + 1) (cells + 1) t.nx old new (omega arith)
            (λ j j_in. stand-inner t space y z y_in z_in (first + 1 + j) j j_in (omega arith) ∙ omega arith)
            (λ j j_in. reached (j + 1) (first + 1 + j) (record { low = omega (arith, ints, straight); high = omega (arith, ints, straight, j_in) }) (omega arith)) inner in
            let right : IsStoredIn t off (first + 1 + t.nx) (first + (t.nx + 2)) new new =
            missed (first + 1 + t.nx) (first + (t.nx + 2)) new (omega arith) (omega arith) (λ x low high led. let h = led.high in omega (arith, ints, h, straight, low)) in
            let end : first + (t.nx + 2) ≡ line_start t (y + 1) z = omega arith in
            let front : IsStoredIn t off first (first + 1 + t.nx) old new = stored_on off first (first + 1) (first + 1 + t.nx) old old new once (omega arith) (omega arith) left run in
            let whole : IsStoredIn t off first (first + (t.nx + 2)) old new = stored_on off first (first + 1 + t.nx) (first + (t.nx + 2)) old new new once (omega arith) (omega arith) front right in
            subst (λ (w : ℕ × ℕ). IsStoredIn t off w.0 w.1 old new) (λ i. (is_first i, end i)) whole

        -- it leads to the right
        pub stored_rightward : (old now new : List ℤ) → part c 0 ≡ pos 1 → IsCopied (first + 2) (cells + 2) (t.nx - 1) old now → IsCopied (first + t.nx + 1) (cells + 1) 1 now new
            → IsStoredIn t (offset t c) (line_start t y z) (line_start t (y + 1) z) old new
        stored_rightward old now new right inner last =
            let off : ℤ = offset t c in let next = line_next t space y z in let inside = room in let wide = space.some_x in
            let left : IsStoredIn t off first (first + 2) old old = missed first (first + 2) old (omega arith) (omega arith) (λ x low high led. let l = led.low in omega (arith, ints, l, right, high)) in
            let run : IsStoredIn t off (first + 2) (first + 2 + (t.nx - 1)) old now =
            stored_run off (first + 2) (cells + 2) (t.nx - 1) old now (omega arith)
            (λ j j_in. stand-inner t space y z y_in z_in (first + 2 + j) (j + 1) (omega arith) (omega arith) ∙ omega arith)
            (λ j j_in. reached (j + 2) (first + 2 + j) (record { low = omega (arith, ints, right); high = omega (arith, ints, right, j_in) }) (omega arith)) inner in
            let final : IsStoredIn t off (first + t.nx + 1) (first + t.nx + 1 + 1) now new =
            stored_run off (first + t.nx + 1) (cells + 1) 1 now new (omega arith)
            (λ j j_in. let zero : j ≡ 0 = omega arith in stand-right t space y z y_in z_in (first + t.nx + 1 + j) (omega arith) ∙ omega arith)
            (λ j j_in. let zero : j ≡ 0 = omega arith in reached (t.nx + 1) (first + t.nx + 1 + j) (record { low = omega (arith, ints, right); high = omega (arith, ints, right) }) (omega arith)) last in
            let middle : first + 2 + (t.nx - 1) ≡ first + t.nx + 1 = omega arith in
            let end : first + t.nx + 1 + 1 ≡ line_start t (y + 1) z = omega arith in
            let front : IsStoredIn t off first (first + t.nx + 1) old now =
            subst (λ (n : ℕ). IsStoredIn t off first n old now) middle (stored_on off first (first + 2) (first + 2 + (t.nx - 1)) old old now once (omega arith) (omega arith) left run) in
            let whole : IsStoredIn t off first (first + t.nx + 1 + 1) old new = stored_on off first (first + t.nx + 1) (first + t.nx + 1 + 1) old now new once (omega arith) (omega arith) front final in
            subst (λ (w : ℕ × ℕ). IsStoredIn t off w.0 w.1 old new) (λ i. (is_first i, end i)) whole

        -- it leads to the left
        pub stored_leftward : (old now new : List ℤ) → part c 0 ≡ negsuc 0 → IsCopied first (cells + t.nx) 1 old now → IsCopied (first + 1) (cells + 1) (t.nx - 1) now new
            → IsStoredIn t (offset t c) (line_start t y z) (line_start t (y + 1) z) old new
        stored_leftward old now new left start inner =
            let off : ℤ = offset t c in let next = line_next t space y z in let inside = room in let wide = space.some_x in
            let begin : IsStoredIn t off first (first + 1) old now =
            stored_run off first (cells + t.nx) 1 old now (omega arith)
            (λ j j_in. let zero : j ≡ 0 = omega arith in stand-left t space y z y_in z_in (first + j) (omega arith) ∙ omega arith)
            (λ j j_in. let zero : j ≡ 0 = omega arith in reached 0 (first + j) (record { low = omega (arith, ints, left); high = omega (arith, ints, left, wide) }) (omega arith)) start in
            let run : IsStoredIn t off (first + 1) (first + 1 + (t.nx - 1)) now new =
            stored_run off (first + 1) (cells + 1) (t.nx - 1) now new (omega arith)
            (λ j j_in. stand-inner t space y z y_in z_in (first + 1 + j) j (omega arith) (omega arith) ∙ omega arith)
            (λ j j_in. reached (j + 1) (first + 1 + j) (record { low = omega (arith, ints, left); high = omega (arith, ints, left, j_in) }) (omega arith)) inner in
            let right : IsStoredIn t off (first + 1 + (t.nx - 1)) (first + (t.nx + 2)) new new =
            missed (first + 1 + (t.nx - 1)) (first + (t.nx + 2)) new (omega arith) (omega arith) (λ x low high led. let h = led.high in omega (arith, ints, h, left, low, wide)) in
            let end : first + (t.nx + 2) ≡ line_start t (y + 1) z = omega arith in
            let front : IsStoredIn t off first (first + 1 + (t.nx - 1)) old new = stored_on off first (first + 1) (first + 1 + (t.nx - 1)) old now new once (omega arith) (omega arith) begin run in
            let whole : IsStoredIn t off first (first + (t.nx + 2)) old new = stored_on off first (first + 1 + (t.nx - 1)) (first + (t.nx + 2)) old new new once (omega arith) (omega arith) front right in
            subst (λ (w : ℕ × ℕ). IsStoredIn t off w.0 w.1 old new) (λ i. (is_first i, end i)) whole

-- a part of a velocity that is neither 0 nor 1
pub leftward : (z : ℤ) → unsigned_abs z ≤ 1 → (of_z w64 z ≡ 0 → ⊥) → (of_z w64 z ≡ 1 → ⊥) → z ≡ negsuc 0
leftward (pos zero) unit other more = absurd (other refl)
leftward (pos (suc zero)) unit other more = absurd (more refl)
leftward (pos (suc (suc n))) unit other more = absurd (omega arith)
leftward (negsuc zero) unit other more = refl
leftward (negsuc (suc n)) unit other more = absurd (omega arith)

-- the padded places of one array in the slots of all
pub length-part : (a n : ℕ) (xs : List ℤ) → a + n ≤ length xs → length (take n (drop a xs)) ≡ n
length-part a n xs inside = search (rules, places)

module _ (a n : ℕ) (xs ys : List ℤ) (inside : a + n ≤ length xs) (whole : length ys ≡ n) where
  put_before : (s : ℕ) → s < a → held (put_mid a n xs ys) s ≡ held xs s
  put_before s early = search (rules, places)

  put_inside : (j : ℕ) → j < n → held (put_mid a n xs ys) (a + j) ≡ held ys j
  put_inside j below = search (rules, places)

  put_behind : (s : ℕ) → a + n ≤ s → held (put_mid a n xs ys) s ≡ held xs s
  put_behind s late = search (rules, places)

  part_held : (j : ℕ) → j < n → held (take n (drop a xs)) j ≡ held xs (a + j)
  part_held j below = search (rules, places)

  module _ (t : Torus) (space : IsSpace t) (margin k base : ℕ) (begins : a ≡ place_slot t margin k base 0) (count : n ≡ padded t) where
    slot_is : (p : ℕ) → place_slot t margin k base p ≡ a + p
    slot_is p = omega (arith, begins)

    pub loaded_whole : IsLoadedIn t 0 (padded t) (take n (drop a xs)) ys → IsLoaded t margin k base xs (put_mid a n xs ys)
    loaded_whole all =
        record {
          pads = λ p pad. let known = pad.known in let there = stand_below t space p known in
              ap (held (put_mid a n xs ys)) (slot_is p) ∙ put_inside p (omega arith) ∙ all.pads p (omega arith) known pad ∙ part_held (stand t p) (omega arith) ∙ ap (held xs) (sym (slot_is (stand t p)));
          others = λ s other. elim (cases_lt s a) [
            | inl early ↦ put_before s early
            | inr low ↦ elim (cases_lt s (a + n)) [
              | inl high ↦ place s (s - a) other (omega arith) (omega arith)
              | inr late ↦ put_behind s late
            ]
          ];
        }
      where
        place : (s j : ℕ) → ((p : ℕ) → IsPad t p → s ≢ place_slot t margin k base p) → j < n → s ≡ a + j → held (put_mid a n xs ys) s ≡ held xs s
        place s j other below at =
            ap (held (put_mid a n xs ys)) at ∙ put_inside j below ∙ all.others j (λ low high pad. other j pad (at ∙ sym (slot_is j))) ∙ part_held j below ∙ ap (held xs) (sym at)

    pub stored_whole : (off : ℤ) → IsStoredIn t off 0 (padded t) (take n (drop a xs)) ys → IsStored t margin k base off xs (put_mid a n xs ys)
    stored_whole off all =
        record {
          pads = λ p pad led. let known = pad.known in let there = stand_below t space p known in
              ap (held (put_mid a n xs ys)) (slot_is (stand t p)) ∙ put_inside (stand t p) (omega arith) ∙ all.pads p (omega arith) known pad led ∙ part_held p (omega arith) ∙ ap (held xs) (sym (slot_is p));
          others = λ s other. elim (cases_lt s a) [
            | inl early ↦ put_before s early
            | inr low ↦ elim (cases_lt s (a + n)) [
              | inl high ↦ place s (s - a) other (omega arith) (omega arith)
              | inr late ↦ put_behind s late
            ]
          ];
        }
      where
        place : (s j : ℕ) → ((p : ℕ) → IsPad t p → IsReached t off p → s ≢ place_slot t margin k base (stand t p)) → j < n → s ≡ a + j → held (put_mid a n xs ys) s ≡ held xs s
        place s j other below at =
            ap (held (put_mid a n xs ys)) at ∙ put_inside j below ∙ all.others j (λ p low high pad led same. other p pad led (at ∙ ap (λ m. a + m) same ∙ sym (slot_is (stand t p)))) ∙ part_held j below ∙ ap (held xs) (sym at)

  -- as many slots as before
  pub length-put_mid : length (put_mid a n xs ys) ≡ length xs
  length-put_mid = search (rules, places)
