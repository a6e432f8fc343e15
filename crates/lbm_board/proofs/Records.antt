-- What a record says once it has one more entry.
use Rattle.std.proofs.Common.{◌≡◌, ℕ, ◌≤◌, List, [], ◌∷◌, ◌++◌, ap, ◌∙◌, arith}
use Rattle.lbm_board.specs.declared.record.Entry.{Entry}
use Rattle.lbm_board.specs.declared.record.Entry.TheVariants.{Draw, Finish, Look, NoneLeft}
use Rattle.lbm_board.specs.declared.record.Record.{Record}
use Rattle.lbm_board.specs.Lists.{total}
use Rattle.lbm_board.specs.Entries.{one_if_same, draws, finishes, told, with_entry, Holds}
use Rattle.lbm_board.proofs.OneMoreEntry.{total_entry}

module _ {T : Type 0} where
  told_by_look : (answer last : ℕ) (es : List (Entry T)) → answer ≤ told es → told (es ++ Look answer last ∷ []) ≡ answer
  told_by_look answer last [] low = omega arith
  told_by_look answer last (Draw n own ∷ es) low = told_by_look answer last es low
  told_by_look answer last (Finish n piece report before late ∷ es) low = let rest = told_by_look answer last es (omega arith) in omega arith
  told_by_look answer last (Look before late ∷ es) low = let rest = told_by_look answer last es (omega arith) in omega arith
  told_by_look answer last (NoneLeft ∷ es) low = told_by_look answer last es low

  told_by_finish : (k : ℕ) (x : T) (report answer last : ℕ) (es : List (Entry T)) → answer ≤ report → answer ≤ told es → told (es ++ Finish k x report answer last ∷ []) ≡ answer
  told_by_finish k x report answer last [] under low = omega arith
  told_by_finish k x report answer last (Draw n own ∷ es) under low = told_by_finish k x report answer last es under low
  told_by_finish k x report answer last (Finish n piece before other late ∷ es) under low = let rest = told_by_finish k x report answer last es under (omega arith) in omega arith
  told_by_finish k x report answer last (Look before late ∷ es) under low = let rest = told_by_finish k x report answer last es under (omega arith) in omega arith
  told_by_finish k x report answer last (NoneLeft ∷ es) under low = told_by_finish k x report answer last es under low

  -- an answer becomes the least that the turn has been told
  pub told_after_look : (old new : Record T) (answer last : ℕ) → new ≡ with_entry old (Look answer last) → answer ≤ told old.entries → told new.entries ≡ answer
  told_after_look old new answer last is low = ap (λ (r : Record T). told r.entries) is ∙ told_by_look answer last old.entries low

  pub told_after_finish : (old new : Record T) (k : ℕ) (x : T) (report answer last : ℕ) → new ≡ with_entry old (Finish k x report answer last) → answer ≤ report → answer ≤ told old.entries → told new.entries ≡ answer
  told_after_finish old new k x report answer last is under low = ap (λ (r : Record T). told r.entries) is ∙ told_by_finish k x report answer last old.entries under low

  -- a turn still holds what it held, but for a number that it finishes
  pub still_holds : (k : ℕ) (old new : Record T) (e : Entry T) → new ≡ with_entry old e → finishes k e ≡ 0 → Holds k old → Holds k new
  still_holds k old new e is unfinished holds =
      let a = total_entry (draws k) old e in
      let b = total_entry (finishes k) old e in
      let c : total (draws k) new.entries ≡ total (draws k) (with_entry old e).entries = ap (λ (r : Record T). total (draws k) r.entries) is in
      let d : total (finishes k) new.entries ≡ total (finishes k) (with_entry old e).entries = ap (λ (r : Record T). total (finishes k) r.entries) is in
      omega arith

  -- it holds a number that it draws, if it has finished none that it had not drawn
  pub holds_drawn : (n own : ℕ) (old new : Record T) → new ≡ with_entry old (Draw n own) → total (finishes n) old.entries ≤ total (draws n) old.entries → one_if_same n n ≡ 1 → Holds n new
  holds_drawn n own old new is matched once =
      let e : Entry T = Draw n own in
      let a = total_entry (draws n) old e in
      let b = total_entry (finishes n) old e in
      let c : total (draws n) new.entries ≡ total (draws n) (with_entry old e).entries = ap (λ (r : Record T). total (draws n) r.entries) is in
      let d : total (finishes n) new.entries ≡ total (finishes n) (with_entry old e).entries = ap (λ (r : Record T). total (finishes n) r.entries) is in
      omega arith

  -- it holds a number no more that it finishes, if it has drawn it once at most
  pub holds_no_more : (k : ℕ) (x : T) (report answer last : ℕ) (old new : Record T) → new ≡ with_entry old (Finish k x report answer last) → total (draws k) old.entries ≤ 1 → one_if_same k k ≡ 1 → Holds k new → ⊥
  holds_no_more k x report answer last old new is once same holds =
      let e : Entry T = Finish k x report answer last in
      let a = total_entry (draws k) old e in
      let b = total_entry (finishes k) old e in
      let c : total (draws k) new.entries ≡ total (draws k) (with_entry old e).entries = ap (λ (r : Record T). total (draws k) r.entries) is in
      let d : total (finishes k) new.entries ≡ total (finishes k) (with_entry old e).entries = ap (λ (r : Record T). total (finishes k) r.entries) is in
      omega arith
