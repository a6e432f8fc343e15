-- What the ranges of slabs are, slot by slot: they are disjoint, they cover, and a write in one changes no other.
use Rattle.std.proofs.Common.{◌≡◌, ℕ, zero, suc, ◌+◌, ◌-◌, ◌<◌, ◌≤◌, ◌⊎◌, inl, inr, Bool, true, false, not, ◌&&◌, ◌||◌, List, [], ◌∷◌, length, get_or, take, slice_range, set, refl, sym, ap, subst, ◌∙◌, arith, rules, le-leb, lt-ltb, leb-true, ltb-true, leb, ltb, length-set, length-take}
use Rattle.std.proofs.lemmas.Bool.{and_from, and_parts, both_ways, cases_lt, cases_eq, false_from_ne_true, not-true, not_from_false, or_cases, or_left, or_right}
use Rattle.std.proofs.lemmas.List.{set-set, set-get_or, length-map, get_or_past, same_lists, places, get_or-map, get_or-set_same, get_or-set_other, ext_get_or}
use Rattle.lbm_patch.specs.Masks.{both, without, either}
use Rattle.lbm_patch.proofs.Lengths.{length-both, length-without, length-either}
use Rattle.lbm_patch.specs.Masks.{in_one, in_any, mask}
use Rattle.lbm_arrays.specs.Ranges.{ranges, with_slot, over, with_run, IsApart}
use Rattle.lbm_arrays.proofs.Flags.{or_not, bool_ext, length-flags, get-flags, get-both, get-without, get-either}

-- slot i lies in the part of range k
pub record IsIn (fs : List ℕ) (lo hi i k : ℕ) : Type 0 where
  pub here : k < length fs
  pub low : get_or fs k 0 + lo ≤ i
  pub high : i < get_or fs k 0 + hi

pub one_from : (lo hi i f : ℕ) → f + lo ≤ i → i < f + hi → in_one lo hi i f ≡ true
one_from lo hi i f p q = and_from (leb (f + lo) i) (ltb i (f + hi)) (le-leb _ _ p) (lt-ltb _ _ q)

pub any_from : (fs : List ℕ) (lo hi i k : ℕ) → IsIn fs lo hi i k → in_any fs lo hi i ≡ true
any_from [] lo hi i k h = let l : k < 0 = h.here in absurd (omega (arith, l))
any_from (f ∷ fs) lo hi i zero h = or_left (in_one lo hi i f) (in_any fs lo hi i) (one_from lo hi i f h.low h.high)
any_from (f ∷ fs) lo hi i (suc k) h =
    let l : suc k < suc (length fs) = h.here in
    or_right (in_one lo hi i f) (in_any fs lo hi i) (any_from fs lo hi i k (record { here = omega (arith, l); low = h.low; high = h.high }))

pub any_where : (fs : List ℕ) (lo hi i : ℕ) → in_any fs lo hi i ≡ true → (k : ℕ) × IsIn fs lo hi i k
any_where [] lo hi i e = cc
any_where (f ∷ fs) lo hi i e =
    elim (or_cases (in_one lo hi i f) (in_any fs lo hi i) e) [
      | inl p ↦ (0, record { here = omega arith; low = leb-true _ _ (and_parts (leb (f + lo) i) (ltb i (f + hi)) p).0; high = ltb-true _ _ (and_parts (leb (f + lo) i) (ltb i (f + hi)) p).1 })
      | inr p ↦ (let r = any_where fs lo hi i p in let l = r.1.here in (suc (r.0), record { here = omega (arith, l); low = r.1.low; high = r.1.high }))
    ]

pub length-mask : (fs : List ℕ) (lo hi n : ℕ) → length (mask fs lo hi n) ≡ n
length-mask fs lo hi n = length-flags (in_any fs lo hi) 0 n

pub get-mask : (fs : List ℕ) (lo hi n i : ℕ) → i < n → get_or (mask fs lo hi n) i false ≡ in_any fs lo hi i
get-mask fs lo hi n i l = get-flags (in_any fs lo hi) 0 n i false l ∙ ap (in_any fs lo hi) (omega arith)

-- no slot lies in the low and in the high part
pub apart_parts : (fs : List ℕ) (lo mid hi n i : ℕ) → IsApart fs hi n → mid ≤ hi → in_any fs lo mid i ≡ true → in_any fs mid hi i ≡ true → ⊥
apart_parts fs lo mid hi n i a le p q =
    let j = any_where fs lo mid i p in let k = any_where fs mid hi i q in
    let jl = j.1.low in let jh = j.1.high in let kl = k.1.low in let kh = k.1.high in
    elim (cases_eq j.0 k.0) [
      | inl same ↦ (let e : get_or fs j.0 0 ≡ get_or fs k.0 0 = ap (λ m. get_or fs m 0) same in omega (arith, e, jh, kl))
      | inr other ↦ elim (cases_lt j.0 k.0) [
        | inl l ↦ (let s = a.apart j.0 k.0 l k.1.here in omega (arith, s, jh, kl, le))
        | inr g ↦ (let l : k.0 < j.0 = omega (arith, g, other) in let s = a.apart k.0 j.0 l j.1.here in omega (arith, s, jl, kh))
      ]
    ]

pub low_in : (fs : List ℕ) (lo mid hi i : ℕ) → mid ≤ hi → in_any fs lo mid i ≡ true → in_any fs lo hi i ≡ true
low_in fs lo mid hi i le p = let j = any_where fs lo mid i p in let h = j.1.high in any_from fs lo hi i j.0 (record { here = j.1.here; low = j.1.low; high = omega (arith, h, le) })

pub high_in : (fs : List ℕ) (lo mid hi i : ℕ) → lo ≤ mid → in_any fs mid hi i ≡ true → in_any fs lo hi i ≡ true
high_in fs lo mid hi i le p = let j = any_where fs mid hi i p in let l = j.1.low in any_from fs lo hi i j.0 (record { here = j.1.here; low = omega (arith, l, le); high = j.1.high })

pub part_of : (fs : List ℕ) (lo mid hi i : ℕ) → in_any fs lo hi i ≡ true → (in_any fs lo mid i ≡ true) ⊎ (in_any fs mid hi i ≡ true)
part_of fs lo mid hi i p =
    let j = any_where fs lo hi i p in
    elim (cases_lt i (get_or fs j.0 0 + mid)) [
      | inl l ↦ inl (any_from fs lo mid i j.0 (record { here = j.1.here; low = j.1.low; high = l }))
      | inr g ↦ inr (any_from fs mid hi i j.0 (record { here = j.1.here; low = g; high = j.1.high }))
    ]

pub same_masks : (ms : List Bool) (fs : List ℕ) (lo hi n : ℕ) → length ms ≡ n → ((i : ℕ) → i < n → get_or ms i false ≡ in_any fs lo hi i) → ms ≡ mask fs lo hi n
same_masks ms fs lo hi n e h = ext_get_or false ms (mask fs lo hi n) (e ∙ sym (length-mask fs lo hi n)) (λ i l. let l' : i < n = omega (arith, l, e) in h i l' ∙ sym (get-mask fs lo hi n i l'))

pub mask_off : (fs : List ℕ) (lo hi n i : ℕ) → in_any fs lo hi i ≡ false → get_or (mask fs lo hi n) i false ≡ false
mask_off fs lo hi n i h = elim (cases_lt i n) [ inl l ↦ get-mask fs lo hi n i l ∙ h | inr g ↦ get_or_past (mask fs lo hi n) i false (omega (arith, g, length-mask fs lo hi n)) ]

-- of all places, those of the ranges
pub mask_all : (ms : List Bool) (fs : List ℕ) (lo hi n : ℕ) → length ms ≡ n → ((i : ℕ) → i < n → get_or ms i false ≡ true) → both ms (mask fs lo hi n) ≡ mask fs lo hi n
mask_all ms fs lo hi n e full = same_masks (both ms (mask fs lo hi n)) fs lo hi n (length-both ms (mask fs lo hi n) ∙ e) (λ i l.
    get-both ms (mask fs lo hi n) i ∙ (λ t. full i l t && get-mask fs lo hi n i l t))

-- the ranges and what is left are all places
pub mask_rest : (ms : List Bool) (fs : List ℕ) (lo hi n i : ℕ) → length ms ≡ n → ((j : ℕ) → j < n → get_or ms j false ≡ true) → i < n → get_or (either (mask fs lo hi n) (without ms (mask fs lo hi n))) i false ≡ true
mask_rest ms fs lo hi n i e full l =
    let m = mask fs lo hi n in
    get-either m (without ms m) i (length-without ms m ∙ e ∙ sym (length-mask fs lo hi n)) ∙ (λ t. get_or m i false || get-without ms m i t) ∙ (λ t. get_or m i false || (full i l t && not (get_or m i false))) ∙ or_not (get_or m i false)

pub mask_low : (fs : List ℕ) (lo mid hi n : ℕ) → mid ≤ hi → both (mask fs lo hi n) (mask fs lo mid n) ≡ mask fs lo mid n
mask_low fs lo mid hi n le = same_masks _ fs lo mid n (length-both (mask fs lo hi n) (mask fs lo mid n) ∙ length-mask fs lo hi n) (λ i l.
    get-both (mask fs lo hi n) (mask fs lo mid n) i ∙ (λ t. get-mask fs lo hi n i l t && get-mask fs lo mid n i l t)
    ∙ bool_ext (in_any fs lo hi i && in_any fs lo mid i) (in_any fs lo mid i) (λ p. (and_parts (in_any fs lo hi i) (in_any fs lo mid i) p).1) (λ p. and_from (in_any fs lo hi i) (in_any fs lo mid i) (low_in fs lo mid hi i le p) p))

pub mask_high : (fs : List ℕ) (lo mid hi n : ℕ) → IsApart fs hi n → lo ≤ mid → mid ≤ hi → without (mask fs lo hi n) (mask fs lo mid n) ≡ mask fs mid hi n
mask_high fs lo mid hi n a le le' = same_masks _ fs mid hi n (length-without (mask fs lo hi n) (mask fs lo mid n) ∙ length-mask fs lo hi n) (λ i l.
    get-without (mask fs lo hi n) (mask fs lo mid n) i ∙ (λ t. get-mask fs lo hi n i l t && not (get-mask fs lo mid n i l t))
    ∙ bool_ext (in_any fs lo hi i && not (in_any fs lo mid i)) (in_any fs mid hi i)
    (λ p. elim (part_of fs lo mid hi i (and_parts (in_any fs lo hi i) (not (in_any fs lo mid i)) p).0) [ inl q ↦ absurd (both_ways (in_any fs lo mid i) (not-true (in_any fs lo mid i) (and_parts (in_any fs lo hi i) (not (in_any fs lo mid i)) p).1) q) | inr q ↦ q ])
    (λ p. and_from (in_any fs lo hi i) (not (in_any fs lo mid i)) (high_in fs lo mid hi i le p) (not_from_false (in_any fs lo mid i) (false_from_ne_true (in_any fs lo mid i) (λ q. apart_parts fs lo mid hi n i a le' q p)))))

pub mask_whole : (fs : List ℕ) (lo mid hi n : ℕ) → lo ≤ mid → mid ≤ hi → either (mask fs lo mid n) (mask fs mid hi n) ≡ mask fs lo hi n
mask_whole fs lo mid hi n le le' = same_masks _ fs lo hi n (length-either (mask fs lo mid n) (mask fs mid hi n) ∙ length-mask fs lo mid n) (λ i l.
    get-either (mask fs lo mid n) (mask fs mid hi n) i (length-mask fs mid hi n ∙ sym (length-mask fs lo mid n)) ∙ (λ t. get-mask fs lo mid n i l t || get-mask fs mid hi n i l t)
    ∙ bool_ext (in_any fs lo mid i || in_any fs mid hi i) (in_any fs lo hi i)
    (λ p. elim (or_cases (in_any fs lo mid i) (in_any fs mid hi i) p) [ inl q ↦ low_in fs lo mid hi i le' q | inr q ↦ high_in fs lo mid hi i le q ])
    (λ p. elim (part_of fs lo mid hi i p) [ inl q ↦ or_left (in_any fs lo mid i) (in_any fs mid hi i) q | inr q ↦ or_right (in_any fs lo mid i) (in_any fs mid hi i) q ]))

pub length-range : {X : Type 0} (xs : List X) (a b : ℕ) → b ≤ length xs → length (slice_range xs a b) ≡ b - a
length-range xs a b l = search (rules, places)

pub get-range : {X : Type 0} (xs : List X) (a b i : ℕ) (d : X) → b ≤ length xs → i < b - a → get_or (slice_range xs a b) i d ≡ get_or xs (a + i) d
get-range xs a b i d l h = grind (arith, places)

pub length-ranges : {X : Type 0} (fs : List ℕ) (lo hi : ℕ) (xs : List X) → length (ranges fs lo hi xs) ≡ length fs
length-ranges fs lo hi xs = length-map fs (λ f. slice_range xs (f + lo) (f + hi))

pub get-ranges : {X : Type 0} (fs : List ℕ) (lo hi : ℕ) (xs : List X) (k : ℕ) → k < length fs → get_or (ranges fs lo hi xs) k [] ≡ slice_range xs (get_or fs k 0 + lo) (get_or fs k 0 + hi)
get-ranges fs lo hi xs k l = get_or-map (λ f. slice_range xs (f + lo) (f + hi)) fs k 0 [] l

-- ranges depend on their own slots alone
pub same_ranges : {X : Type 0} (fs : List ℕ) (lo hi n : ℕ) (xs ys : List X) → length xs ≡ n → length ys ≡ n → IsApart fs hi n
    → ((i : ℕ) (d : X) → in_any fs lo hi i ≡ true → get_or xs i d ≡ get_or ys i d) → ranges fs lo hi xs ≡ ranges fs lo hi ys
same_ranges fs lo hi n xs ys ex ey a h = ext_get_or [] (ranges fs lo hi xs) (ranges fs lo hi ys) (length-ranges fs lo hi xs ∙ sym (length-ranges fs lo hi ys)) (λ k l.
    let here : k < length fs = omega (arith, l, length-ranges fs lo hi xs) in let top = a.fits k here in let f = get_or fs k 0 in
    let tx : f + hi ≤ length xs = omega (arith, top, ex) in let ty : f + hi ≤ length ys = omega (arith, top, ey) in
    get-ranges fs lo hi xs k here ∙ same_lists (slice_range xs (f + lo) (f + hi)) (slice_range ys (f + lo) (f + hi)) (length-range xs (f + lo) (f + hi) tx ∙ sym (length-range ys (f + lo) (f + hi) ty))
    (λ i d m. let m' : i < f + hi - (f + lo) = omega (arith, m, length-range xs (f + lo) (f + hi) tx) in
    get-range xs (f + lo) (f + hi) i d tx m' ∙ h (f + lo + i) d (any_from fs lo hi (f + lo + i) k (record { here = here; low = omega arith; high = omega (arith, m') })) ∙ sym (get-range ys (f + lo) (f + hi) i d ty m'))
    ∙ sym (get-ranges fs lo hi ys k here))

-- a write at place `at` of range k
pub set_ranges : {X : Type 0} (fs : List ℕ) (lo hi n : ℕ) (xs : List X) (k at : ℕ) (v : X) → length xs ≡ n → IsApart fs hi n → k < length fs → at < hi - lo
    → ranges fs lo hi (set xs (get_or fs k 0 + lo + at) v) ≡ with_slot (ranges fs lo hi xs) k at v
set_ranges fs lo hi n xs k at v ex a here inside =
    let i = get_or fs k 0 + lo + at in let ys = set xs i v in let rs = ranges fs lo hi xs in
    let ey : length ys ≡ n = length-set xs i v ∙ ex in
    ext_get_or [] (ranges fs lo hi ys) (with_slot rs k at v) (length-ranges fs lo hi ys ∙ sym (length-ranges fs lo hi xs) ∙ sym (length-set rs k (set (get_or rs k []) at v))) (λ j l.
    let there : j < length fs = omega (arith, l, length-ranges fs lo hi ys) in let top = a.fits j there in let f = get_or fs j 0 in
    let tx : f + hi ≤ length xs = omega (arith, top, ex) in let ty : f + hi ≤ length ys = omega (arith, top, ey) in
    get-ranges fs lo hi ys j there ∙ elim (cases_eq j k) [
      | inl same ↦ (
          let e : f ≡ get_or fs k 0 = ap (λ m. get_or fs m 0) same in
          let long : j < length rs = omega (arith, there, length-ranges fs lo hi xs) in
          let one : get_or (with_slot rs k at v) j [] ≡ set (slice_range xs (f + lo) (f + hi)) at v =
          ap (λ m. get_or (set rs k (set (get_or rs k []) at v)) m []) same ∙ get_or-set_same rs k (set (get_or rs k []) at v) [] (omega (arith, long, same))
          ∙ ap (λ r. set r at v) (ap (λ m. get_or rs m []) (sym same) ∙ get-ranges fs lo hi xs j there) in
          let lx = length-range xs (f + lo) (f + hi) tx in let ly = length-range ys (f + lo) (f + hi) ty in
          same_lists (slice_range ys (f + lo) (f + hi)) (set (slice_range xs (f + lo) (f + hi)) at v) (ly ∙ sym lx ∙ sym (length-set (slice_range xs (f + lo) (f + hi)) at v))
          (λ p d m. let m' : p < f + hi - (f + lo) = omega (arith, m, ly) in get-range ys (f + lo) (f + hi) p d ty m' ∙ elim (cases_eq p at) [
            | inl hit ↦ (
                let at_i : f + lo + p ≡ i = omega (arith, hit, e) in let within : i < length xs = omega (arith, at_i, m', tx) in
                ap (λ q. get_or ys q d) at_i ∙ get_or-set_same xs i v d within ∙ sym (ap (λ q. get_or (set (slice_range xs (f + lo) (f + hi)) at v) q d) hit ∙ get_or-set_same (slice_range xs (f + lo) (f + hi)) at v d (omega (arith, m', lx, hit))))
            | inr miss ↦ (
                let off : f + lo + p ≡ i → ⊥ = λ q. miss (omega (arith, q, e)) in
                get_or-set_other xs i (f + lo + p) v d off ∙ sym (get_or-set_other (slice_range xs (f + lo) (f + hi)) at p v d miss ∙ get-range xs (f + lo) (f + hi) p d tx m'))
          ]) ∙ sym one)
      | inr other ↦ (
          let apart : (p : ℕ) → p < f + hi - (f + lo) → f + lo + p ≡ i → ⊥ = λ p m q. elim (cases_lt j k) [
            | inl lt ↦ (let s = a.apart j k lt here in omega (arith, s, m, q))
            | inr ge ↦ (let lt : k < j = omega (arith, ge, other) in let s = a.apart k j lt there in omega (arith, s, m, q, inside))
          ] in
          same_lists (slice_range ys (f + lo) (f + hi)) (slice_range xs (f + lo) (f + hi)) (length-range ys (f + lo) (f + hi) ty ∙ sym (length-range xs (f + lo) (f + hi) tx))
          (λ p d m. let m' : p < f + hi - (f + lo) = omega (arith, m, length-range ys (f + lo) (f + hi) ty) in
          get-range ys (f + lo) (f + hi) p d ty m' ∙ get_or-set_other xs i (f + lo + p) v d (apart p m') ∙ sym (get-range xs (f + lo) (f + hi) p d tx m'))
          ∙ sym (get_or-set_other rs k j (set (get_or rs k []) at v) [] other ∙ get-ranges fs lo hi xs j there))
    ])

-- place `at` of range k is a slot of the slab
module _ {X : Type 0} (fs : List ℕ) (lo hi n : ℕ) (xs : List X) (rs : List (List X)) (k at : ℕ) (a : IsApart fs hi n) (ex : length xs ≡ n) (is : ranges fs lo hi xs ≡ rs) (some : k < length rs) (in_it : at < length (get_or rs k [])) where
  pub range_here : k < length fs
  range_here = let e = ap length is in omega (arith, some, e, length-ranges fs lo hi xs)

  range_long : get_or fs k 0 + hi ≤ length xs
  range_long = let top = a.fits k range_here in omega (arith, top, ex)

  pub place_in : at < hi - lo
  place_in = let e : length (get_or rs k []) ≡ get_or fs k 0 + hi - (get_or fs k 0 + lo) = ap (λ (r : List (List X)). length (get_or r k [])) (sym is) ∙ ap length (get-ranges fs lo hi xs k range_here) ∙ length-range xs (get_or fs k 0 + lo) (get_or fs k 0 + hi) range_long in
      omega (arith, in_it, e)

  pub slot_in : IsIn fs lo hi (get_or fs k 0 + lo + at) k
  slot_in = let p = place_in in record { here = range_here; low = omega arith; high = omega (arith, p) }

  pub slot_below : get_or fs k 0 + lo + at < n
  slot_below = let p = place_in in let top = a.fits k range_here in omega (arith, p, top)

  pub slot_held : (ms : List Bool) → ms ≡ mask fs lo hi n → get_or ms (get_or fs k 0 + lo + at) false ≡ true
  slot_held ms e = ap (λ m. get_or m (get_or fs k 0 + lo + at) false) e ∙ get-mask fs lo hi n (get_or fs k 0 + lo + at) slot_below ∙ any_from fs lo hi (get_or fs k 0 + lo + at) k slot_in

  pub slot_read : (d : X) → get_or xs (get_or fs k 0 + lo + at) d ≡ get_or (get_or rs k []) at d
  slot_read d = let p = place_in in sym (ap (λ (r : List (List X)). get_or (get_or r k []) at d) (sym is) ∙ ap (λ r. get_or r at d) (get-ranges fs lo hi xs k range_here)
      ∙ get-range xs (get_or fs k 0 + lo) (get_or fs k 0 + hi) at d range_long (omega (arith, p)))

  pub slot_written : (v : X) → ranges fs lo hi (set xs (get_or fs k 0 + lo + at) v) ≡ with_slot rs k at v
  slot_written v = set_ranges fs lo hi n xs k at v ex a range_here place_in ∙ ap (λ r. with_slot r k at v) is

pub range_length : {X : Type 0} (fs : List ℕ) (lo hi n : ℕ) (xs : List X) (rs : List (List X)) (k : ℕ) → IsApart fs hi n → length xs ≡ n → ranges fs lo hi xs ≡ rs → k < length rs → length (get_or rs k []) ≡ hi - lo
range_length fs lo hi n xs rs k a ex is some =
    let e = ap length is in let here : k < length fs = omega (arith, some, e, length-ranges fs lo hi xs) in let top = a.fits k here in
    ap (λ r. length (get_or r k [])) (sym is) ∙ ap length (get-ranges fs lo hi xs k here) ∙ length-range xs (get_or fs k 0 + lo) (get_or fs k 0 + hi) (omega (arith, top, ex)) ∙ omega arith

pub over_none : {X : Type 0} (xs : List X) (at : ℕ) → over xs at [] ≡ xs
over_none xs at = same_lists (over xs at []) xs (search (rules, places)) (λ k d h. grind (arith, places))

pub over_more : {X : Type 0} (xs vs : List X) (at j : ℕ) (d : X) → at + j < length xs → j < length vs → set (over xs at (take j vs)) (at + j) (get_or vs j d) ≡ over xs at (take (suc j) vs)
over_more xs vs at j d l m = same_lists (set (over xs at (take j vs)) (at + j) (get_or vs j d)) (over xs at (take (suc j) vs)) (search (rules, places)) (λ k e h. grind (arith, places, get_or-set_same, get_or-set_other, cases_eq k (at + j)))

pub length-over : {X : Type 0} (xs vs : List X) (at : ℕ) → at + length vs ≤ length xs → length (over xs at vs) ≡ length xs
length-over xs vs at l = search (rules, places)

pub run_none : {X : Type 0} (rs : List (List X)) (k at : ℕ) → with_run rs k at [] ≡ rs
run_none rs k at = ap (set rs k) (over_none (get_or rs k []) at) ∙ set-get_or rs k []

pub run_at : {X : Type 0} (rs : List (List X)) (k at : ℕ) (vs : List X) → k < length rs → get_or (with_run rs k at vs) k [] ≡ over (get_or rs k []) at vs
run_at rs k at vs l = get_or-set_same rs k (over (get_or rs k []) at vs) [] l

pub run_more : {X : Type 0} (rs : List (List X)) (k at j : ℕ) (vs : List X) (d : X) → k < length rs → at + j < length (get_or rs k []) → j < length vs
    → with_slot (with_run rs k at (take j vs)) k (at + j) (get_or vs j d) ≡ with_run rs k at (take (suc j) vs)
run_more rs k at j vs d here inside long =
    let xs = get_or rs k [] in
    ap (λ r. set (with_run rs k at (take j vs)) k (set r (at + j) (get_or vs j d))) (run_at rs k at (take j vs) here)
    ∙ set-set rs k (over xs at (take j vs)) (set (over xs at (take j vs)) (at + j) (get_or vs j d)) ∙ ap (set rs k) (over_more xs vs at j d inside long)

-- the slots of a run of range k, from place `at` on
module _ {X : Type 0} (fs : List ℕ) (lo hi n : ℕ) (xs : List X) (rs : List (List X)) (k at count : ℕ) (a : IsApart fs hi n) (ex : length xs ≡ n) (is : ranges fs lo hi xs ≡ rs) (some : k < length rs) (in_it : at + count ≤ length (get_or rs k [])) where
  abbrev first : ℕ
  first = get_or fs k 0 + lo + at

  pub run_held : (ms : List Bool) → ms ≡ mask fs lo hi n → (j : ℕ) → j < count → (first + j < n) × (get_or ms (first + j) false ≡ true)
  run_held ms e j below =
      let place : get_or fs k 0 + lo + (at + j) ≡ first + j = omega arith in
      let inside : at + j < length (get_or rs k []) = omega (arith, in_it) in
      subst (λ (i : ℕ). (i < n) × (get_or ms i false ≡ true)) place (
        slot_below fs lo hi n xs rs k (at + j) a ex is some inside,
        slot_held fs lo hi n xs rs k (at + j) a ex is some inside ms e,
      )

  pub run_read : (d : X) (j : ℕ) → j < count → get_or xs (first + j) d ≡ get_or (get_or rs k []) (at + j) d
  run_read d j below =
      let place : first + j ≡ get_or fs k 0 + lo + (at + j) = omega arith in
      ap (λ i. get_or xs i d) place ∙ slot_read fs lo hi n xs rs k (at + j) a ex is some (omega (arith, in_it)) d

-- the first j values of vs, written one after another
abbrev pub written : {X : Type 0} → List X → ℕ → List X → X → ℕ → List X
written xs at vs d zero = xs
written xs at vs d (suc j) = set (written xs at vs d j) (at + j) (get_or vs j d)

pub written_is : {X : Type 0} (xs : List X) (at : ℕ) (vs : List X) (d : X) (j : ℕ) → j ≤ length vs → at + j ≤ length xs → written xs at vs d j ≡ over xs at (take j vs)
written_is xs at vs d zero few fits = sym (over_none xs at)
written_is xs at vs d (suc j) few fits =
    ap (λ ys. set ys (at + j) (get_or vs j d)) (written_is xs at vs d j (omega arith) (omega arith)) ∙ over_more xs vs at j d (omega arith) (omega arith)

pub length-written : {X : Type 0} (xs : List X) (at : ℕ) (vs : List X) (d : X) (j : ℕ) → length (written xs at vs d j) ≡ length xs
length-written xs at vs d zero = refl
length-written xs at vs d (suc j) = length-set (written xs at vs d j) (at + j) (get_or vs j d) ∙ length-written xs at vs d j

-- what values written one after another to a run of range k leave in the ranges
module _ {X : Type 0} (fs : List ℕ) (lo hi n : ℕ) (xs : List X) (rs : List (List X)) (k at count : ℕ) (a : IsApart fs hi n) (ex : length xs ≡ n) (is : ranges fs lo hi xs ≡ rs) (some : k < length rs) (in_it : at + count ≤ length (get_or rs k [])) where
  pub run_written : (vs : List X) (d : X) (j : ℕ) → j ≤ count → count ≤ length vs → ranges fs lo hi (written xs (get_or fs k 0 + lo + at) vs d j) ≡ with_run rs k at (take j vs)
  run_written vs d zero few long = is ∙ sym (run_none rs k at)
  run_written vs d (suc j) few long =
      let first : ℕ = get_or fs k 0 + lo + at in
      let now = written xs first vs d j in
      let before : ranges fs lo hi now ≡ with_run rs k at (take j vs) = run_written vs d j (omega arith) long in
      let still : k < length (with_run rs k at (take j vs)) = omega (arith, some, length-set rs k (over (get_or rs k []) at (take j vs))) in
      let short : length (take j vs) ≡ j = length-take j vs ∙ omega arith in
      let room : length (get_or (with_run rs k at (take j vs)) k []) ≡ length (get_or rs k []) = ap length (run_at rs k at (take j vs) some) ∙ length-over (get_or rs k []) (take j vs) at (omega (arith, in_it, short)) in
      let place : first + j ≡ get_or fs k 0 + lo + (at + j) = omega arith in
      ap (λ i. ranges fs lo hi (set now i (get_or vs j d))) place
      ∙ slot_written fs lo hi n now (with_run rs k at (take j vs)) k (at + j) a (length-written xs first vs d j ∙ ex) before still (omega (arith, in_it, room)) (get_or vs j d)
      ∙ run_more rs k at j vs d some (omega (arith, in_it)) (omega arith)

  pub run_over : (vs : List X) (d : X) → 0 < count → count ≤ length vs → ranges fs lo hi (over xs (get_or fs k 0 + lo + at) (take count vs)) ≡ with_run rs k at (take count vs)
  run_over vs d more long =
      let last = slot_below fs lo hi n xs rs k (at + (count - 1)) a ex is some (omega (arith, in_it)) in
      ap (ranges fs lo hi) (sym (written_is xs (get_or fs k 0 + lo + at) vs d count long (omega (arith, last, ex)))) ∙ run_written vs d count (omega arith) long
