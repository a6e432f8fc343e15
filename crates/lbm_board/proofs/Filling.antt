-- Filling the slots keeps the rule.
use Rattle.std.proofs.Common.{◌≡◌, ◌≢◌, ℕ, zero, suc, ◌+◌, ◌<◌, inl, inr, Bool, true, false, true≢false, List, [], ◌∷◌, length, get_or, set, replicate, sym, ap, refl, subst, ◌∙◌, arith, length-set, Option, Some, None, map}
use mathlib.Core.Logic.{dite}
use mathlib.Core.Option.{some, none, some-injective}
use native.Mathlib.Decide.{ℕ_discrete, dec_lt}
use lib.ListN.{get_elem?}
use Rattle.atomic_table.specs.Table.{step, takes, gives, rest, Allows, opening}
use Rattle.atomic_table.proofs.Lists.{set_else, set_here}
use Rattle.lbm_board.specs.declared.record.View.{View}
use Rattle.lbm_board.specs.Entries.{greatest}
use Rattle.lbm_board.specs.RunningRule.{opening_view, first_view, HasFilled, Opening, Running, Phase, RunningRule}
use Rattle.lbm_board.specs.Steps.{TookToFill, GaveFilled}
use Rattle.lbm_board.proofs.Lists.{each_at}
use Rattle.lbm_board.proofs.Phases.{only_view, filled_all}
use Rattle.lbm_board.proofs.OneMoreEntry.{Homes}

home : {A : Type 0} (y : A) (n k : ℕ) → k < n → get_elem? (map some (replicate n y)) k ≡ some (some y)
home y zero k one_if_below = absurd (omega arith)
home y (suc n) zero one_if_below = refl
home y (suc n) (suc k) one_if_below = home y n k (omega arith)

long : {A : Type 0} (y : A) (n : ℕ) → length (map some (replicate n y)) ≡ n
long y zero = refl
long y (suc n) = ap suc (long y n)

module _ {T : Type 0} where
  -- a load leaves the words as they were
  pub loaded : (turns : ℕ) (given : List T) (words : List ℕ) (homes : Homes T) (views : List (View T)) → length words ≡ 2 → Phase turns given (get_or words 0 0) (get_or words 1 0) homes views
      → RunningRule turns given record { words = set words 0 (get_or words 0 0); homes = homes; views = views }
  loaded turns given words homes views two phase =
      subst (λ (ws : List ℕ). RunningRule turns given record { words = ws; homes = homes; views = views }) (sym (same words two)) (two, phase)
    where
      same : (ws : List ℕ) → length ws ≡ 2 → set ws 0 (get_or ws 0 0) ≡ ws
      same [] e = refl
      same (x ∷ xs) e = refl

  -- before the last slot is filled, the rule is in its opening
  opening_of : (turns : ℕ) (given : List T) (claims least : ℕ) (homes : Homes T) (views : List (View T)) (id l : ℕ) (g : List T) (f : ℕ) (filling : Bool) → Phase turns given claims least homes views
      → get_elem? views id ≡ some (opening_view l g f filling) → f < length homes → Opening turns given claims least homes views
  opening_of turns given claims least homes views id l g f filling (inl h) at one_if_below = h
  opening_of turns given claims least homes views id l g f filling (inr h) at one_if_below =
      let filled = each_at (HasFilled given) views id (opening_view l g f filling) h.filled at (omega arith) in let a = filled.1 in let b = h.slots in absurd (omega arith)

  pub begins : (turns : ℕ) (given : List T) (claims least : ℕ) → claims ≡ 0 → least ≡ greatest → 0 < turns → length given + turns < greatest
      → RunningRule turns given (opening (claims ∷ least ∷ []) (replicate (length given) None) (first_view turns given))
  begins turns given claims least a b some_turn small = (refl, start (dec_lt 0 (length given))) where
    start : Dec (0 < length given) → Phase turns given claims least (map some (replicate (length given) None)) (first_view turns given ∷ [])
    start (yes some_piece) = inl record {
      filled = 0;
      filling = false;
      alone = refl;
      some_left = some_piece;
      slots = long None (length given);
      none_claimed = a;
      none_reported = b;
      full = λ k x one_if_below. absurd (omega arith);
      empty = λ k above one_if_below. home None (length given) k one_if_below;
      next = λ _. home None (length given) 0 some_piece;
      taken = λ e. absurd (true≢false (sym e));
      some_turn = some_turn;
      small = small;
    }
    start (no no_piece) =
        let none_given : 0 ≡ length given = omega arith in
        inr (subst (λ (z : ℕ × ℕ × ℕ). Running turns given z.0 z.1 (map some (replicate (length given) None)) (opening_view turns given z.2 false ∷ [])) (λ i. (sym a i, sym b i, sym none_given i))
        (filled_all turns given (map some (replicate (length given) None)) (long None (length given)) some_turn small (λ k x one_if_below. absurd (omega arith))))

  -- what the one seat of the opening knows
  record Known (turns : ℕ) (given : List T) (homes : Homes T) (views : List (View T)) (id l : ℕ) (g : List T) (f : ℕ) (filling : Bool) : Type 0 where
    turns_is : l ≡ turns
    given_is : g ≡ given
    now : (w : View T) → set views id w ≡ w ∷ []
    slots : length homes ≡ length given
    full : (k : ℕ) (x : T) → k < f → get_elem? given k ≡ some x → get_elem? homes k ≡ some (some (Some x))
    empty : (k : ℕ) → f < k → k < length given → get_elem? homes k ≡ some (some None)
    next : filling ≡ false → get_elem? homes f ≡ some (some None)

  known : (turns : ℕ) (given : List T) (claims least : ℕ) (homes : Homes T) (views : List (View T)) (id l : ℕ) (g : List T) (f : ℕ) (filling : Bool) → Opening turns given claims least homes views
      → get_elem? views id ≡ some (opening_view l g f filling) → Known turns given homes views id l g f filling
  known turns given claims least homes views id l g f filling h at =
      let u : View T = opening_view turns given h.filled h.filling in
      let is = only_view u (opening_view l g f filling) id (subst (λ (vs : List (View T)). get_elem? vs id ≡ some (opening_view l g f filling)) h.alone at) in
      let same : h.filled ≡ f = ap (λ (w : View T). w.filled) is.1 in
      let same' : h.filling ≡ filling = ap (λ (w : View T). w.filling) is.1 in
      record {
        turns_is = sym (ap (λ (w : View T). w.leave) is.1);
        given_is = sym (ap (λ (w : View T). w.given) is.1);
        now = λ w i. set (h.alone i) (is.0 i) w;
        slots = h.slots;
        full = λ k x one_if_below. h.full k x (omega arith);
        empty = λ k above. h.empty k (omega arith);
        next = λ e. ap (get_elem? homes) (sym same) ∙ h.next (same' ∙ e);
      }

  pub take_allowed : (turns : ℕ) (given : List T) (slots id l : ℕ) (g : List T) (f : ℕ) (carried : List (ℕ × Option T)) → f < slots
      → Allows (RunningRule turns given) slots id (opening_view l g f false, carried) 0 (λ n. n) (TookToFill (step slots 0 0 0 none) (opening_view l g f false, carried))
  take_allowed turns given slots id l g f carried one_if_below s (two, phase) wide at small =
      let claims : ℕ = get_or s.words 0 0 in
      let least : ℕ = get_or s.words 1 0 in
      let h = opening_of turns given claims least s.homes s.views id l g f false phase at (omega arith) in
      let k = known turns given claims least s.homes s.views id l g f false h at in
      let slots_is = k.slots in
      let w : View T = opening_view l g f true in (
        w,
        takes f None,
        k.next refl,
        loaded turns given s.words (set s.homes f none) (set s.views id w) two (inl record {
          filled = f;
          filling = true;
          alone = k.now w ∙ (λ i. opening_view (k.turns_is i) (k.given_is i) f true ∷ []);
          some_left = omega arith;
          slots = length-set s.homes f none ∙ k.slots;
          none_claimed = h.none_claimed;
          none_reported = h.none_reported;
          full = λ j x under e. let other : j ≢ f = omega arith in set_else s.homes f j none other ∙ k.full j x under e;
          empty = λ j above inside. let other : j ≢ f = omega arith in set_else s.homes f j none other ∙ k.empty j above inside;
          next = λ e. absurd (true≢false e);
          taken = λ _. set_here s.homes f none (omega arith);
          some_turn = h.some_turn;
          small = h.small;
        }),
        refl,
      )

  pub give_allowed : (turns : ℕ) (given : List T) (slots id l : ℕ) (g : List T) (f : ℕ) (y : T) (carried : List (ℕ × Option T)) → f < slots → get_elem? g f ≡ some y
      → Allows (RunningRule turns given) slots id (opening_view l g f true, (f, Some y) ∷ carried) 0 (λ n. n) (GaveFilled (step slots 0 0 0 none) (opening_view l g f true, (f, Some y) ∷ carried))
  give_allowed turns given slots id l g f y carried one_if_below is s (two, phase) wide at small =
      let claims : ℕ = get_or s.words 0 0 in
      let least : ℕ = get_or s.words 1 0 in
      let h = opening_of turns given claims least s.homes s.views id l g f true phase at (omega arith) in
      let k = known turns given claims least s.homes s.views id l g f true h at in
      let slots_is = k.slots in
      let w : View T = opening_view l g (f + 1) false in
      let hs : Homes T = set s.homes f (some (Some y)) in
      let is' : get_elem? given f ≡ some y = subst (λ (xs : List T). get_elem? xs f ≡ some y) k.given_is is in
      let long_is : length hs ≡ length given = length-set s.homes f (some (Some y)) ∙ k.slots in
      let full : (j : ℕ) (x : T) → j < f + 1 → get_elem? given j ≡ some x → get_elem? hs j ≡ some (some (Some x)) = λ j x under e. dite (ℕ_discrete j f)
      (λ here.
      let same : y ≡ x = some-injective y x (sym is' ∙ ap (get_elem? given) (sym here) ∙ e) in
      ap (get_elem? hs) here ∙ set_here s.homes f (some (Some y)) (omega arith) ∙ (λ i. some (some (Some (same i)))))
      (λ other. set_else s.homes f j (some (Some y)) other ∙ k.full j x (omega arith) e) in
      let view_is : set s.views id w ≡ opening_view turns given (f + 1) false ∷ [] = k.now w ∙ (λ i. opening_view (k.turns_is i) (k.given_is i) (f + 1) false ∷ []) in (
        w,
        gives,
        tt,
        loaded turns given s.words hs (set s.views id w) two
            (dite (dec_lt (f + 1) (length given))
            (λ more. inl record {
              filled = f + 1;
              filling = false;
              alone = view_is;
              some_left = more;
              slots = long_is;
              none_claimed = h.none_claimed;
              none_reported = h.none_reported;
              full = full;
              empty = λ j above inside. let other : j ≢ f = omega arith in set_else s.homes f j (some (Some y)) other ∙ k.empty j (omega arith) inside;
              next = λ _. let other : f + 1 ≢ f = omega arith in set_else s.homes f (f + 1) (some (Some y)) other ∙ k.empty (f + 1) (omega arith) more;
              taken = λ e. absurd (true≢false (sym e));
              some_turn = h.some_turn;
              small = h.small;
            })
            (λ no_more.
            let last : length given ≡ f + 1 = omega arith in
            inr (subst (λ (z : ℕ × ℕ × List (View T)). Running turns given z.0 z.1 hs z.2) (λ i. (sym h.none_claimed i, sym h.none_reported i, ((λ j. opening_view turns given (last j) false ∷ []) ∙ sym view_is) i))
            (filled_all turns given hs long_is h.some_turn h.small (λ j x inside e. full j x (omega arith) e))))),
        λ x others e. λ i. (w, ap rest e i),
      )
