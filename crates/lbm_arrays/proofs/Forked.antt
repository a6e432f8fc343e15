-- What the pieces of two halves give together.
use Rattle.std.proofs.Common.{◌≡◌, ℕ, ℤ, ◌+◌, ◌-◌, ◌<◌, ◌≤◌, inl, inr, true, false, List, [], ◌∷◌, ◌++◌, length, get_or, slice_index, Option, Some, None, refl, sym, ap, ◌∙◌, subst, arith, length-append}
use Rattle.std.proofs.lemmas.Bool.{cases_lt, false_from_ne_true}
use Rattle.std.proofs.lemmas.List.{get_or_append_left, get_or-append_right}
use Rattle.lbm_patch.specs.Masks.{in_any, mask, both, without, either, picked}
use Rattle.lbm_patch.specs.declared.Patch.{Patch}
use Rattle.core.specs.Mem.Slots.Ownership.{Filled}
use Rattle.lbm_patch.specs.Whole.{IsRefilled}
use Rattle.lbm_arrays.specs.Least.{lesser, least}
use Rattle.lbm_arrays.specs.Forked.{Rows, IsLaid, piece, AllReady, AllDone, Asks, Gives, SameOthers}
use Rattle.lbm_arrays.proofs.Flags.{picked_here, picked_there}
use Rattle.lbm_arrays.proofs.Ranges.{length-mask, get-mask, any_where, low_in, high_in, apart_parts, mask_low, mask_high, mask_whole, mask_off, mask_all, mask_rest, same_ranges}

lesser-None : (a : Option ℕ) → a ≡ lesser a None
lesser-None None = refl
lesser-None (Some x) = refl

lesser_assoc : (a b c : Option ℕ) → lesser a (lesser b c) ≡ lesser (lesser a b) c
lesser_assoc None b c = refl
lesser_assoc (Some x) None c = refl
lesser_assoc (Some x) (Some y) None = refl
lesser_assoc (Some x) (Some y) (Some z) = ap Some (omega arith)

least-append : (ps qs : List (Option ℕ)) → least (ps ++ qs) ≡ lesser (least ps) (least qs)
least-append [] qs = refl
least-append (a ∷ rest) qs = ap (lesser a) (least-append rest qs) ∙ lesser_assoc a (least rest) (least qs)

module _ (ready : ℕ → Rows → Type 0) (does : ℕ → Rows → Option ℕ → Rows → Type 0) (fs marks : List ℕ) where
  abbrev of : ℕ → List ℤ → Rows
  of = piece ready does fs marks

  abbrev Done : ℕ → ℕ → List ℤ → List ℤ → Option ℕ → Type 0
  Done = AllDone ready does fs marks

  pub one_done : (p : ℕ) (xs ys : List ℤ) (r : Option ℕ) → does p (of p xs) r (of p ys) → Done p (p + 1) xs ys r
  one_done p xs ys r h = record {
    answers = r ∷ [];
    count = omega arith;
    done = λ k lt. let e : k ≡ 0 = omega (arith, lt) in let e' : p ≡ p + k = omega (arith, e) in
        subst (λ (q : ℕ × ℕ). does q.0 (of q.0 xs) (get_or (r ∷ []) q.1 None) (of q.0 ys)) (λ i. (e' i, sym e i)) h;
    is_least = lesser-None r;
  }

  pub both_done : (from mid to : ℕ) (xs ys zs ws : List ℤ) (a b : Option ℕ) → from ≤ mid → mid ≤ to
      → Done from mid xs ys a → Done mid to xs zs b
      → ((k : ℕ) → from ≤ k → k < mid → of k ws ≡ of k ys) → ((k : ℕ) → mid ≤ k → k < to → of k ws ≡ of k zs) → Done from to xs ws (lesser a b)
  both_done from mid to xs ys zs ws a b le le' p q same same' =
      let ps = p.answers in let qs = q.answers in let ca = p.count in let cb = q.count in record {
        answers = ps ++ qs;
        count = length-append ps qs ∙ omega (arith, ca, cb, le, le');
        done = λ k lt. elim (cases_lt k (mid - from)) [
          | inl l ↦ (
              let e : get_or ps k None ≡ get_or (ps ++ qs) k None = sym (get_or_append_left ps qs None k (omega (arith, l, ca))) in
              let w : of (from + k) ys ≡ of (from + k) ws = sym (same (from + k) (omega arith) (omega (arith, l))) in
              subst (λ (t : Option ℕ × Rows). does (from + k) (of (from + k) xs) t.0 t.1) (λ i. (e i, w i)) (p.done k l))
          | inr g ↦ (
              let j : ℕ = k - (mid - from) in let at : mid + j ≡ from + k = omega (arith, g, le) in
              let e : get_or qs j None ≡ get_or (ps ++ qs) k None = sym (get_or-append_right ps qs (mid - from) k None ca g) in
              let w : of (mid + j) zs ≡ of (mid + j) ws = sym (same' (mid + j) (omega arith) (omega (arith, lt, at))) in
              subst (λ (m : ℕ). does m (of m xs) (get_or (ps ++ qs) k None) (of m ws)) at
              (subst (λ (t : Option ℕ × Rows). does (mid + j) (of (mid + j) xs) t.0 t.1) (λ i. (e i, w i)) (q.done j (omega (arith, lt, g, le, le')))))
        ];
        is_least = (λ i. lesser (p.is_least i) (q.is_least i)) ∙ sym (least-append ps qs);
      }

  -- the ranges of piece k lie in what the pieces from a to b hold
  abbrev mark : ℕ → ℕ
  mark k = slice_index marks k

  pub within : (n a b k i : ℕ) → IsLaid fs marks n → a ≤ k → k < b → b < length marks → in_any fs (mark k) (mark (k + 1)) i ≡ true → in_any fs (mark a) (mark b) i ≡ true
  within n a b k i laid le lt top h =
      low_in fs (mark a) (mark (k + 1)) (mark b) i (laid.rising (k + 1) b (omega (arith, lt)) top) (high_in fs (mark a) (mark k) (mark (k + 1)) i (laid.rising a k le (omega (arith, lt, top))) h)

  -- a piece of the one half is not touched by the other
  pub low_same : (n from mid to k : ℕ) (ys zs : List ℤ) → IsLaid fs marks n → length ys ≡ n → length zs ≡ n → from ≤ k → k < mid → mid ≤ to → to < length marks
      → of k (picked (mask fs (mark from) (mark mid) n) ys zs) ≡ of k ys
  low_same n from mid to k ys zs laid ey ez le lt le' top =
      let ms = mask fs (mark from) (mark mid) n in let lm : length ms ≡ n = length-mask fs (mark from) (mark mid) n in
      same_ranges fs (mark k) (mark (k + 1)) n (picked ms ys zs) ys (Rattle.lbm_patch.proofs.Lengths.length-picked ms ys zs ∙ ez) ey (laid.apart (k + 1) (omega (arith, lt, le', top))) (λ i d h.
      let inside = within n from mid k i laid le lt (omega (arith, le', top)) h in let lt_n = below n from mid i laid (omega (arith, le', top)) inside in
      picked_here ms ys zs i d (ey ∙ sym lm) (ez ∙ sym lm) (get-mask fs (mark from) (mark mid) n i lt_n ∙ inside))
    where
      below : (n a b i : ℕ) → IsLaid fs marks n → b < length marks → in_any fs (mark a) (mark b) i ≡ true → i < n
      below n a b i laid top h = let w = any_where fs (mark a) (mark b) i h in let f = (laid.apart b top).fits w.0 w.1.here in let g = w.1.high in omega (arith, f, g)

  pub high_same : (n from mid to k : ℕ) (ys zs : List ℤ) → IsLaid fs marks n → length ys ≡ n → length zs ≡ n → from ≤ mid → mid ≤ k → k < to → to < length marks
      → of k (picked (mask fs (mark from) (mark mid) n) ys zs) ≡ of k zs
  high_same n from mid to k ys zs laid ey ez le le' lt top =
      let ms = mask fs (mark from) (mark mid) n in let lm : length ms ≡ n = length-mask fs (mark from) (mark mid) n in
      same_ranges fs (mark k) (mark (k + 1)) n (picked ms ys zs) zs (Rattle.lbm_patch.proofs.Lengths.length-picked ms ys zs ∙ ez) ez (laid.apart (k + 1) (omega (arith, lt, top))) (λ i d h.
      let inside = within n mid to k i laid le' lt top h in
      let off : in_any fs (mark from) (mark mid) i ≡ false = false_from_ne_true (in_any fs (mark from) (mark mid) i) (λ p. apart_parts fs (mark from) (mark mid) (mark to) n i (laid.apart to top) (laid.rising mid to (omega (arith, le', lt)) top) p inside) in
      let w = any_where fs (mark mid) (mark to) i inside in let f = (laid.apart to top).fits w.0 w.1.here in let g = w.1.high in
      picked_there ms ys zs i d (ey ∙ sym lm) (ez ∙ sym lm) (get-mask fs (mark from) (mark mid) n i (omega (arith, f, g)) ∙ off))

  -- what each half is asked, and what the two give together
  module _ (from mid to : ℕ) (a low high : Patch ℤ) (asks : Asks ready does fs marks from to a) (lt : from < mid) (lt' : mid < to)
      (p : (low.ptr ≡ a.ptr) × (low.len ≡ a.len) × (low.items ≡ a.items) × (low.mine ≡ both a.mine (mask fs (mark from) (mark mid) a.len)))
      (q : (high.ptr ≡ a.ptr) × (high.len ≡ a.len) × (high.items ≡ a.items) × (high.mine ≡ without a.mine (mask fs (mark from) (mark mid) a.len))) where
    top : to < length marks
    top = asks.within

    rise : mark from ≤ mark mid
    rise = asks.laid.rising from mid (omega (arith, lt)) (omega (arith, lt', top))

    rise' : mark mid ≤ mark to
    rise' = asks.laid.rising mid to (omega (arith, lt')) top

    low_mine : low.mine ≡ mask fs (mark from) (mark mid) a.len
    low_mine = p.3 ∙ ap (λ ms. both ms (mask fs (mark from) (mark mid) a.len)) asks.mine ∙ mask_low fs (mark from) (mark mid) (mark to) a.len rise'

    high_mine : high.mine ≡ mask fs (mark mid) (mark to) a.len
    high_mine = q.3 ∙ ap (λ ms. without ms (mask fs (mark from) (mark mid) a.len)) asks.mine ∙ mask_high fs (mark from) (mark mid) (mark to) a.len (asks.laid.apart to top) rise rise'

    pub low_asks : Asks ready does fs marks from mid low
    low_asks = record {
      laid = subst (IsLaid fs marks) (sym p.1) asks.laid;
      some = lt;
      within = omega (arith, lt', top);
      mine = low_mine ∙ ap (mask fs (mark from) (mark mid)) (sym p.1);
      all = λ k le l. subst (λ xs. ready k (of k xs)) (sym p.2) (asks.all k le (omega (arith, l, lt')));
    }

    pub high_asks : Asks ready does fs marks mid to high
    high_asks = record {
      laid = subst (IsLaid fs marks) (sym q.1) asks.laid;
      some = lt';
      within = top;
      mine = high_mine ∙ ap (mask fs (mark mid) (mark to)) (sym q.1);
      all = λ k le l. subst (λ xs. ready k (of k xs)) (sym q.2) (asks.all k (omega (arith, le, lt)) l);
    }

    pub both_give : (low' high' new : Patch ℤ) (x y : Option ℕ) → Gives ready does fs marks from mid low low' x → Gives ready does fs marks mid to high high' y
        → (new.ptr ≡ low'.ptr) × (new.len ≡ low'.len) → new.items ≡ picked low'.mine low'.items high'.items → new.mine ≡ either low'.mine high'.mine
        → (z : Option ℕ) → z ≡ lesser x y → Gives ready does fs marks from to a new z
    both_give low' high' new x y f h places items mine z is =
        let n = a.len in let m = low'.mine in
        let em : m ≡ mask fs (mark from) (mark mid) n = f.mine ∙ low_mine in
        let ey : length low'.items ≡ n = sym low'.ok.0 ∙ f.count ∙ p.1 in let ez : length high'.items ≡ n = sym high'.ok.0 ∙ h.count ∙ q.1 in
        let ei : new.items ≡ picked (mask fs (mark from) (mark mid) n) low'.items high'.items = items ∙ ap (λ ms. picked ms low'.items high'.items) em in
        record {
          start = places.0 ∙ f.start ∙ p.0;
          count = places.1 ∙ f.count ∙ p.1;
          mine = mine ∙ (λ i. either (em i) ((h.mine ∙ high_mine) i)) ∙ mask_whole fs (mark from) (mark mid) (mark to) n rise rise' ∙ sym asks.mine;
          did = subst (λ (w : Option ℕ). Done from to a.items new.items w) (sym is) (
              both_done from mid to a.items low'.items high'.items new.items x y (omega (arith, lt)) (omega (arith, lt'))
              (subst (λ xs. Done from mid xs low'.items x) p.2 f.did) (subst (λ xs. Done mid to xs high'.items y) q.2 h.did)
              (λ k le l. ap (of k) ei ∙ low_same n from mid to k low'.items high'.items asks.laid ey ez le l (omega (arith, lt')) top)
              (λ k le l. ap (of k) ei ∙ high_same n from mid to k low'.items high'.items asks.laid ey ez (omega (arith, lt)) le l top));
        }

  pub done_along : (from to : ℕ) (xs ys ws : List ℤ) (a : Option ℕ) → Done from to xs ys a → ((k : ℕ) → from ≤ k → k < to → of k ws ≡ of k ys) → Done from to xs ws a
  done_along from to xs ys ws a p same = record {
    answers = p.answers;
    count = p.count;
    done = λ k lt. subst (λ (t : Rows). does (from + k) (of (from + k) xs) (get_or p.answers k None) t) (sym (same (from + k) (omega arith) (omega (arith, lt)))) (p.done k lt);
    is_least = p.is_least;
  }

  -- the same for a patch of all places, of which the ranges are lent
  module _ (to : ℕ) (a low rest : Patch ℤ) (laid : IsLaid fs marks a.len) (some : 0 < to) (top : to < length marks) (full : Filled a.mine 0 a.len) (all : AllReady ready does fs marks 0 to a.items)
      (p : (low.ptr ≡ a.ptr) × (low.len ≡ a.len) × (low.items ≡ a.items) × (low.mine ≡ both a.mine (mask fs (mark 0) (mark to) a.len)))
      (q : (rest.ptr ≡ a.ptr) × (rest.len ≡ a.len) × (rest.items ≡ a.items) × (rest.mine ≡ without a.mine (mask fs (mark 0) (mark to) a.len))) where
    lent_mine : low.mine ≡ mask fs (mark 0) (mark to) a.len
    lent_mine = p.3 ∙ mask_all a.mine fs (mark 0) (mark to) a.len (sym a.ok.1) (λ k lt. full k (omega arith) lt)

    pub lent_asks : Asks ready does fs marks 0 to low
    lent_asks = record {
      laid = subst (IsLaid fs marks) (sym p.1) laid;
      some = some;
      within = top;
      mine = lent_mine ∙ ap (mask fs (mark 0) (mark to)) (sym p.1);
      all = λ k le l. subst (λ xs. ready k (of k xs)) (sym p.2) (all k le l);
    }

    module _ (low' new : Patch ℤ) (x : Option ℕ) (f : Gives ready does fs marks 0 to low low' x)
        (places : (new.ptr ≡ low'.ptr) × (new.len ≡ low'.len)) (items : new.items ≡ picked low'.mine low'.items rest.items) (mine : new.mine ≡ either low'.mine rest.mine) where
      em : low'.mine ≡ mask fs (mark 0) (mark to) a.len
      em = f.mine ∙ lent_mine

      ei : new.items ≡ picked (mask fs (mark 0) (mark to) a.len) low'.items rest.items
      ei = items ∙ ap (λ ms. picked ms low'.items rest.items) em

      ey : length low'.items ≡ a.len
      ey = sym low'.ok.0 ∙ f.count ∙ p.1

      ez : length rest.items ≡ a.len
      ez = sym rest.ok.0 ∙ q.1

      pub whole_again : IsRefilled a new
      whole_again = (
        places.0 ∙ f.start ∙ p.0,
        places.1 ∙ f.count ∙ p.1,
        λ i le l.
            ap (λ ms. get_or ms i false) (mine ∙ (λ t. either (em t) (q.3 t))) ∙ mask_rest a.mine fs (mark 0) (mark to) a.len i (sym a.ok.1) (λ k lt. full k (omega arith) lt) (omega (arith, l, places.1, f.count, p.1)),
      )

      pub whole_done : Done 0 to a.items new.items x
      whole_done = done_along 0 to a.items low'.items new.items x (subst (λ xs. Done 0 to xs low'.items x) p.2 f.did) (λ k le l.
          ap (of k) ei ∙ low_same a.len 0 to to k low'.items rest.items laid ey ez le l (omega arith) top)

      pub whole_others : SameOthers fs (mark 0) (mark to) a.items new.items
      whole_others i d off =
          let ms = mask fs (mark 0) (mark to) a.len in let lm : length ms ≡ a.len = length-mask fs (mark 0) (mark to) a.len in
          ap (λ xs. get_or xs i d) ei ∙ picked_there ms low'.items rest.items i d (ey ∙ sym lm) (ez ∙ sym lm) (mask_off fs (mark 0) (mark to) a.len i off) ∙ ap (λ xs. get_or xs i d) q.2
