-- A turn that goes on claiming comes to an end, since its numbers rise.
use Rattle.std.proofs.Common.{◌≡◌, ℕ, ◌+◌, ◌-◌, ◌<◌, ◌≤◌, max, List, [], ◌∷◌, ◌++◌, length, ap, refl, ◌∙◌, arith}
use Rattle.std.proofs.lemmas.Option.{slice_get_within}
use Rattle.lbm_board.specs.declared.record.Entry.{Entry}
use Rattle.lbm_board.specs.declared.record.Entry.TheVariants.{Draw, Finish, Look, NoneLeft}
use Rattle.lbm_board.specs.declared.record.Record.{Record}
use Rattle.lbm_board.specs.Lists.{Each}
use Rattle.lbm_board.specs.Entries.{reported, DrawsBelow, with_entry}
use Rattle.lbm_board.specs.Models.{BoardModel, TurnModel, Draws}

module _ {T : Type 0} where
  -- one more than the greatest number that these entries draw, or 0
  abbrev pub next_number : List (Entry T) → ℕ
  next_number [] = 0
  next_number (Draw n own ∷ es) = max (n + 1) (next_number es)
  next_number (_ ∷ es) = next_number es

  -- how many numbers a turn may still draw
  abbrev pub left_to_draw : TurnModel T → ℕ
  left_to_draw t = length t.given - next_number t.log.entries

  next_below : (n : ℕ) (es : List (Entry T)) → Each (DrawsBelow n) es → next_number es ≤ n
  next_below n [] h = omega arith
  next_below n (Draw k own ∷ es) h = let here = h.0 in let rest = next_below n es h.1 in omega arith
  next_below n (Finish k piece report answer last ∷ es) h = next_below n es h.1
  next_below n (Look answer last ∷ es) h = next_below n es h.1
  next_below n (NoneLeft ∷ es) h = next_below n es h.1

  next_after_draw : (n own : ℕ) (es : List (Entry T)) → next_number (es ++ Draw n own ∷ []) ≡ max (n + 1) (next_number es)
  next_after_draw n own [] = refl
  next_after_draw n own (Draw k before ∷ es) = let rest = next_after_draw n own es in omega arith
  next_after_draw n own (Finish k piece report answer last ∷ es) = next_after_draw n own es
  next_after_draw n own (Look answer last ∷ es) = next_after_draw n own es
  next_after_draw n own (NoneLeft ∷ es) = next_after_draw n own es

  next_after_finish : (k : ℕ) (x : T) (report answer last : ℕ) (es : List (Entry T)) → next_number (es ++ Finish k x report answer last ∷ []) ≡ next_number es
  next_after_finish k x report answer last [] = refl
  next_after_finish k x report answer last (Draw n own ∷ es) = let rest = next_after_finish k x report answer last es in omega arith
  next_after_finish k x report answer last (Finish n piece before other late ∷ es) = next_after_finish k x report answer last es
  next_after_finish k x report answer last (Look before late ∷ es) = next_after_finish k x report answer last es
  next_after_finish k x report answer last (NoneLeft ∷ es) = next_after_finish k x report answer last es

  -- a claim leaves fewer
  pub claim_leaves_fewer : (b : BoardModel T) (old new : TurnModel T) (n : ℕ) (piece : T) → old.given ≡ b.given → new.given ≡ b.given → Draws b old n piece new → left_to_draw new < left_to_draw old
  claim_leaves_fewer b old new n piece same same' h =
      let inside = slice_get_within b.given n piece h.piece_is in
      let below = next_below n old.log.entries h.greater in
      let next = ap (λ (r : Record T). next_number r.entries) h.log_is ∙ next_after_draw n (reported old.log.entries) old.log.entries in
      let many : length old.given ≡ length b.given = ap length same in
      let many' : length new.given ≡ length b.given = ap length same' in
      omega arith

  -- a finish leaves as many
  pub finish_leaves_as_many : (old new : TurnModel T) (k : ℕ) (x : T) (report answer last : ℕ) → new.given ≡ old.given → new.log ≡ with_entry old.log (Finish k x report answer last) → left_to_draw new ≡ left_to_draw old
  finish_leaves_as_many old new k x report answer last same is =
      let next = ap (λ (r : Record T). next_number r.entries) is ∙ next_after_finish k x report answer last old.log.entries in
      let many : length new.given ≡ length old.given = ap length same in
      omega arith
