-- What happens to the places of a patch: one is taken out and put back, all are shared out between two owners or come together,
-- and a row of slots gives them and gets them. `b` is the block, and o the byte of it where the places begin. Assumes `Logic`.
use mathlib.Core.Path.{◌≡◌, refl, sym, ap, subst, ◌∙◌}
use mathlib.Core.Bool.{Bool, true, false, not, ◌&&◌, ◌||◌}
use Prim.Native.Nat.{ℕ, zero, suc, ◌+◌, ◌*◌, ◌<◌}
use native.Mathlib.Nat.{not-suc-le-zero, le_of_suc-le-suc, add-mul, add_assoc}
use native.Mathlib.Omega.{arith}
use mathlib.Core.List.{List, [], ◌∷◌}
use lib.ListN.{length, get_or, set}
use seplogic.Ra.Ura.{Ura}
use base.Fraction.{full_share}
use mir.Val.{Val}
use base.Logic.{ent, sep, ex, id⊢}
use base.Fml.{Fml, ftrue, fat}
use types.Logic.{Logic, sem}
use types.Kit.{‵, some, given, show, pick, learn, ◌⊛◌, ◌$◌, ◌∵◌, !, qed, by, move, keep, drop, use1, use2, split, rewrite, fsplit, fjoin, done}
use denote.Steps.{nothing}
use denote.RawPtr.{block_ptr}
use denote.Index.{place, place_is}
use Rattle.std.specs.Prelude.{if◌then◌else◌}
use Rattle.core.proofs.mem.Param.{El, R, el_x, elτ, Good}
use Rattle.core.proofs.slice.Rows.{el_out, el_in}
use Rattle.core.specs.Mem.Slots.Ownership.{bytes_of, slot, slots}
use Rattle.lbm_patch.specs.Masks.{both, without, either, picked}
use Rattle.lbm_patch.specs.Ownership.{spot, spots}

module _ (E : El) {M : Type 1} {𝓤 : Ura M} (𝓛 : Logic 𝓤) (b : ℕ) where
  abbrev Gives : Fml → Fml → Type 1
  Gives P Q = ent 𝓤 (sem 𝓛 P) (sem 𝓛 Q)

  abbrev GivesTwo : Fml → Fml → Fml → Type 1
  GivesTwo P Q S = ent 𝓤 (sem 𝓛 P) (sep 𝓤 (sem 𝓛 Q) (sem 𝓛 S))

  abbrev TwoGive : Fml → Fml → Fml → Type 1
  TwoGive P Q S = ent 𝓤 (sep 𝓤 (sem 𝓛 P) (sem 𝓛 Q)) (sem 𝓛 S)

  abbrev step : ℕ
  step = bytes_of (R E)

  abbrev one : ℕ → Bool → el_x E → Fml
  one o m x = spot (R E) (block_ptr b o) m x

  abbrev all : ℕ → List Bool → List (el_x E) → Fml
  all o ms xs = spots (R E) (block_ptr b o) ms xs

  abbrev filled : ℕ → List Bool → List (el_x E) → Fml
  filled o ms xs = slots (R E) (block_ptr b o) xs ms

  -- place i, and the patch without it
  pub focus : (i o : ℕ) (d : el_x E) (ms : List Bool) (xs : List (el_x E)) → i < length ms → i < length xs → get_or ms i false ≡ true
      → GivesTwo (all o ms xs) (one (place step o i) true (get_or xs i d)) (all o (set ms i false) xs)
  focus i o d [] xs im ix held = absurd (not-suc-le-zero im)
  focus i o d (m ∷ ms) [] im ix held = absurd (not-suc-le-zero ix)
  focus zero o d (m ∷ ms) (x ∷ xs) im ix held =
      qed 𝓛 (‵ (all o (m ∷ ms) (x ∷ xs)) ∷ []) ∵ fsplit ! $ rewrite ! 0 (λ (g : Bool). ‵ (one o g x)) held refl $
      move ! (1 ∷ []) $ nothing ! $ fjoin ! $ move ! (1 ∷ []) $ done !
  focus (suc i) o d (m ∷ ms) (x ∷ xs) im ix held =
      let on = o + step in
      qed 𝓛 (‵ (all o (m ∷ ms) (x ∷ xs)) ∷ []) ∵ fsplit ! $ move ! (1 ∷ []) $
      use1 𝓛 (‵ (one (place step on i) true (get_or xs i d)) ⊛ ‵ (all on (set ms i false) xs)) (focus i on d ms xs (le_of_suc-le-suc im) (le_of_suc-le-suc ix) held) $
      split ! $ move ! (2 ∷ 1 ∷ []) $ fjoin ! $ move ! (1 ∷ []) $ done !

  -- and back, with another value
  pub refill : (i o : ℕ) (y : el_x E) (ms : List Bool) (xs : List (el_x E)) → i < length ms → i < length xs → get_or ms i false ≡ true
      → TwoGive (one (place step o i) true y) (all o (set ms i false) xs) (all o ms (set xs i y))
  refill i o y [] xs im ix held = absurd (not-suc-le-zero im)
  refill i o y (m ∷ ms) [] im ix held = absurd (not-suc-le-zero ix)
  refill zero o y (m ∷ ms) (x ∷ xs) im ix held =
      qed 𝓛 (‵ (one o true y) ∷ ‵ (all o (false ∷ ms) (x ∷ xs)) ∷ []) ∵ rewrite ! 0 (λ (g : Bool). ‵ (one o g y)) (sym held) refl $
      move ! (1 ∷ []) $ fsplit ! $ move ! (2 ∷ 1 ∷ []) $ fjoin ! $ keep ! (0 ∷ []) $ done !
  refill (suc i) o y (m ∷ ms) (x ∷ xs) im ix held =
      let on = o + step in
      qed 𝓛 (‵ (one (place step on i) true y) ∷ ‵ (all o (m ∷ set ms i false) (x ∷ xs)) ∷ []) ∵ move ! (1 ∷ []) $ fsplit ! $ move ! (2 ∷ 1 ∷ []) $
      use2 𝓛 (‵ (all on ms (set xs i y))) (refill i on y ms xs (le_of_suc-le-suc im) (le_of_suc-le-suc ix) held) $ move ! (1 ∷ []) $ fjoin ! $ done !

  module _ (i o : ℕ) (ms : List Bool) (xs : List (el_x E)) (im : i < length ms) (ix : i < length xs) (held : get_or ms i false ≡ true) where
    abbrev byte : ℕ
    byte = i * step + o

    abbrev rest : Fml
    rest = all o (set ms i false) xs

    -- the cell of place i, for which `d` is any value, and the patch without it
    pub cell_out : (d : el_x E) → ent 𝓤 (sem 𝓛 (all o ms xs)) (ex 𝓤 (λ (w : Val). sep 𝓤 (sem 𝓛 (fat full_share (elτ E) b byte w)) (sem 𝓛 rest)))
    cell_out d = let x = get_or xs i d in
        qed 𝓛 (‵ (all o ms xs) ∷ []) ∵ use1 𝓛 (‵ (one (place step o i) true x) ⊛ ‵ rest) (focus i o d ms xs im ix held) $ split ! $
        rewrite ! 0 (λ (k : ℕ). ‵ (one k true x)) (place_is step o i) refl $
        use1 𝓛 (some (λ (w : Val). given (Good E w) (‵ (fat full_share (elτ E) b byte w) ⊛ ‵ (E.row.own_val x (w ∷ []))))) (el_out E 𝓛 b x byte) $
        pick ! (λ w. learn ! (λ good. split ! $ show ! (λ (u : Val). sep 𝓤 (sem 𝓛 (fat full_share (elτ E) b byte u)) (sem 𝓛 rest)) w $ keep ! (0 ∷ 2 ∷ []) $ done !))

    -- and back, with y in it
    pub cell_in : (y : el_x E) (v : Val) → ent 𝓤 (sep 𝓤 (sem 𝓛 (fat full_share (elτ E) b byte v)) (sep 𝓤 (sem 𝓛 (E.row.own_val y (v ∷ []))) (sem 𝓛 rest))) (sem 𝓛 (all o ms (set xs i y)))
    cell_in y v =
        qed 𝓛 (‵ (fat full_share (elτ E) b byte v) ∷ ‵ (E.row.own_val y (v ∷ [])) ∷ ‵ rest ∷ []) ∵ use2 𝓛 (‵ (one byte true y)) (el_in E 𝓛 b y byte v) $
        rewrite ! 0 (λ (k : ℕ). ‵ (one k true y)) (sym (place_is step o i)) refl $ by ! (refill i o y ms xs im ix held)

  -- the same at a place n that lies k places behind place i, by the byte of place i
  module _ (i k n o : ℕ) (on : n ≡ k + i) (ms : List Bool) (xs : List (el_x E)) (im : n < length ms) (ix : n < length xs) (held : get_or ms n false ≡ true) where
    abbrev byte_on : ℕ
    byte_on = k * step + (i * step + o)

    lies_on : n * step + o ≡ byte_on
    lies_on = ap (λ (m : ℕ). m * step + o) on ∙ ap (λ (m : ℕ). m + o) (add-mul k i step) ∙ add_assoc (k * step) (i * step) o

    pub cell_out_on : (d : el_x E) → ent 𝓤 (sem 𝓛 (all o ms xs)) (ex 𝓤 (λ (w : Val). sep 𝓤 (sem 𝓛 (fat full_share (elτ E) b byte_on w)) (sem 𝓛 (all o (set ms n false) xs))))
    cell_out_on d =
        subst (λ (m : ℕ). ent 𝓤 (sem 𝓛 (all o ms xs)) (ex 𝓤 (λ (w : Val). sep 𝓤 (sem 𝓛 (fat full_share (elτ E) b m w)) (sem 𝓛 (all o (set ms n false) xs))))) lies_on
        (cell_out n o ms xs im ix held d)

    pub cell_in_on : (y : el_x E) (v : Val) → ent 𝓤 (sep 𝓤 (sem 𝓛 (fat full_share (elτ E) b byte_on v)) (sep 𝓤 (sem 𝓛 (E.row.own_val y (v ∷ []))) (sem 𝓛 (all o (set ms n false) xs)))) (sem 𝓛 (all o ms (set xs n y)))
    cell_in_on y v =
        subst (λ (m : ℕ). ent 𝓤 (sep 𝓤 (sem 𝓛 (fat full_share (elτ E) b m v)) (sep 𝓤 (sem 𝓛 (E.row.own_val y (v ∷ []))) (sem 𝓛 (all o (set ms n false) xs)))) (sem 𝓛 (all o ms (set xs n y)))) lies_on
        (cell_in n o ms xs im ix held y v)

  -- to the first owner where g says so, and else to the second
  dealt_one : (o : ℕ) (x : el_x E) (m g : Bool) → GivesTwo (one o m x) (one o (m && g) x) (one o (m && not g) x)
  dealt_one o x false g = qed 𝓛 (‵ ftrue ∷ []) ∵ nothing ! $ done !
  dealt_one o x true true = qed 𝓛 (‵ (one o true x) ∷ []) ∵ nothing ! $ move ! (1 ∷ []) $ done !
  dealt_one o x true false = qed 𝓛 (‵ (one o true x) ∷ []) ∵ nothing ! $ done !

  pub dealt : (o : ℕ) (ms gs : List Bool) (xs : List (el_x E)) → GivesTwo (all o ms xs) (all o (both ms gs) xs) (all o (without ms gs) xs)
  dealt o [] gs xs = qed 𝓛 (‵ ftrue ∷ []) ∵ nothing ! $ done !
  dealt o (m ∷ ms) [] [] = qed 𝓛 (‵ ftrue ∷ []) ∵ nothing ! $ done !
  dealt o (m ∷ ms) (g ∷ gs) [] = qed 𝓛 (‵ ftrue ∷ []) ∵ nothing ! $ done !
  dealt o (m ∷ ms) [] (x ∷ xs) =
      let on = o + step in
      qed 𝓛 (‵ (all o (m ∷ ms) (x ∷ xs)) ∷ []) ∵ fsplit ! $ move ! (1 ∷ []) $ use1 𝓛 (‵ (all on (both ms []) xs) ⊛ ‵ (all on (without ms []) xs)) (dealt on ms [] xs) $
      split ! $ nothing ! $ fjoin ! $ move ! (2 ∷ 1 ∷ []) $ fjoin ! $ move ! (1 ∷ []) $ done !
  dealt o (m ∷ ms) (g ∷ gs) (x ∷ xs) =
      let on = o + step in
      qed 𝓛 (‵ (all o (m ∷ ms) (x ∷ xs)) ∷ []) ∵ fsplit ! $
      use1 𝓛 (‵ (one o (m && g) x) ⊛ ‵ (one o (m && not g) x)) (dealt_one o x m g) $ split ! $ move ! (2 ∷ []) $
      use1 𝓛 (‵ (all on (both ms gs) xs) ⊛ ‵ (all on (without ms gs) xs)) (dealt on ms gs xs) $ split ! $
      move ! (3 ∷ 1 ∷ []) $ fjoin ! $ move ! (2 ∷ 1 ∷ []) $ fjoin ! $ done !

  -- two owners come together; where both hold a place, which no two can, the first is believed
  met_one : (o : ℕ) (x y : el_x E) (m g : Bool) → TwoGive (one o m x) (one o g y) (one o (m || g) (if m then x else y))
  met_one o x y true g = qed 𝓛 (‵ (one o true x) ∷ ‵ (one o g y) ∷ []) ∵ keep ! (0 ∷ []) $ done !
  met_one o x y false g = qed 𝓛 (‵ ftrue ∷ ‵ (one o g y) ∷ []) ∵ drop ! $ done !

  -- the two lists of flags, and the two of values, are of one length
  abbrev Even : List Bool → List Bool → List (el_x E) → List (el_x E) → Type 0
  Even ms gs xs ys = (length ms ≡ length xs) × (length gs ≡ length xs) × (length ys ≡ length xs)

  pub met : (o : ℕ) (ms gs : List Bool) (xs ys : List (el_x E)) → Even ms gs xs ys → TwoGive (all o ms xs) (all o gs ys) (all o (either ms gs) (picked ms xs ys))
  met o [] gs xs ys e = qed 𝓛 (‵ ftrue ∷ ‵ (all o gs ys) ∷ []) ∵ keep ! [] $ done !
  met o (m ∷ ms) gs [] ys e = let no : suc (length ms) ≡ 0 = e.0 in absurd (not-suc-le-zero {n = 0} (omega arith))
  met o (m ∷ ms) gs (x ∷ xs) [] e = let no : 0 ≡ suc (length xs) = e.2 in absurd (not-suc-le-zero {n = 0} (omega arith))
  met o (m ∷ ms) [] (x ∷ xs) (y ∷ ys) e = let no : 0 ≡ suc (length xs) = e.1 in absurd (not-suc-le-zero {n = 0} (omega arith))
  met o (m ∷ ms) (g ∷ gs) (x ∷ xs) (y ∷ ys) e =
      let a : suc (length ms) ≡ suc (length xs) = e.0 in let c : suc (length gs) ≡ suc (length xs) = e.1 in let d : suc (length ys) ≡ suc (length xs) = e.2 in
      let on = o + step in
      qed 𝓛 (‵ (all o (m ∷ ms) (x ∷ xs)) ∷ ‵ (all o (g ∷ gs) (y ∷ ys)) ∷ []) ∵ fsplit ! $ move ! (2 ∷ []) $ fsplit ! $
      -- [a place; the others; a place; the others]
      move ! (3 ∷ 1 ∷ []) $ use2 𝓛 (‵ (all on (either ms gs) (picked ms xs ys))) (met on ms gs xs ys (omega arith, omega arith, omega arith)) $
      move ! (2 ∷ 1 ∷ []) $ use2 𝓛 (‵ (one o (m || g) (if m then x else y))) (met_one o x y m g) $ fjoin ! $ done !

  -- an empty place of a row is room, which is given up
  pub kept : (o : ℕ) (ms : List Bool) (xs : List (el_x E)) → Gives (filled o ms xs) (all o ms xs)
  kept o [] [] = id⊢ 𝓤 _
  kept o [] (x ∷ xs) = id⊢ 𝓤 _
  kept o (m ∷ ms) [] = id⊢ 𝓤 _
  kept o (true ∷ ms) (x ∷ xs) =
      qed 𝓛 (‵ (filled o (true ∷ ms) (x ∷ xs)) ∷ []) ∵ fsplit ! $ move ! (1 ∷ []) $ use1 𝓛 (‵ (all (o + step) ms xs)) (kept (o + step) ms xs) $ move ! (1 ∷ []) $ fjoin ! $ done !
  kept o (false ∷ ms) (x ∷ xs) =
      qed 𝓛 (‵ (filled o (false ∷ ms) (x ∷ xs)) ∷ []) ∵ fsplit ! $ drop ! $ use1 𝓛 (‵ (all (o + step) ms xs)) (kept (o + step) ms xs) $ nothing ! $ fjoin ! $ done !

  -- a patch of all places is a row of slots
  pub whole : (o : ℕ) (ms : List Bool) (xs : List (el_x E)) → ((k : ℕ) → k < length xs → get_or ms k false ≡ true) → Gives (all o ms xs) (filled o ms xs)
  whole o [] [] full = id⊢ 𝓤 _
  whole o [] (x ∷ xs) full = id⊢ 𝓤 _
  whole o (m ∷ ms) [] full = id⊢ 𝓤 _
  whole o (m ∷ ms) (x ∷ xs) full =
      let first : m ≡ true = full 0 (let up : 0 < suc (length xs) = omega arith in up) in
      qed 𝓛 (‵ (all o (m ∷ ms) (x ∷ xs)) ∷ []) ∵ fsplit ! $ rewrite ! 0 (λ (g : Bool). ‵ (one o g x)) first refl $ rewrite ! 0 (λ (g : Bool). ‵ (slot (R E) g (block_ptr b o) x)) (sym first) refl $
      move ! (1 ∷ []) $ use1 𝓛 (‵ (filled (o + step) ms xs)) (whole (o + step) ms xs (λ k lt. full (suc k) (let up : suc k < suc (length xs) = omega arith in up))) $
      move ! (1 ∷ []) $ fjoin ! $ done !
