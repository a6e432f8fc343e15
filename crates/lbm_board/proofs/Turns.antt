-- What the fields of a turn keep, over its calls.
use Rattle.std.proofs.Common.{◌≡◌, ◌≢◌, ℕ, suc, ◌<◌, Bool, true, false, true≢false, List, [], ◌∷◌, ◌++◌, map, length, take, drop, Option, Some, slice_get, sym, ap, refl, subst, ◌∙◌, arith, length-append}
use mathlib.Core.Logic.{dite}
use mathlib.Core.List.{map-append}
use native.Mathlib.Decide.{ℕ_discrete}
use Rattle.std.specs.List.{remove}
use Rattle.std.proofs.lemmas.List.Elements.{All-append, All-push, All-take, All-drop}
use Rattle.atomic_table.specs.Table.{Me}
use Rattle.atomic_table.specs.Seated.{TableId}
use Rattle.lbm_board.specs.declared.record.Entry.{Entry}
use Rattle.lbm_board.specs.declared.record.Entry.TheVariants.{Draw, Finish, Look, NoneLeft}
use Rattle.lbm_board.specs.declared.record.Record.{Record}
use Rattle.lbm_board.specs.declared.record.View.{View}
use Rattle.lbm_board.specs.Lists.{Each, total}
use Rattle.lbm_board.specs.Entries.{one_if_same, draws, finishes, nones, reported, DrawsBelow, only}
use Rattle.lbm_board.specs.Steps.{after_entry, after_none, IsLive, IsSameTurn}
use Rattle.lbm_board.specs.Models.{turn_model}
use Rattle.lbm_board.specs.Fields.{times, empty_slot, IsTurn}
use Rattle.lbm_board.proofs.Lists.{each_front, each_back}
use Rattle.lbm_board.proofs.Counts.{same_counts, other_counts_not}
use Rattle.lbm_board.proofs.OneMoreEntry.{total_entry}
use Rattle.lbm_board.proofs.Times.{times_more, times_remove, length_remove}

module _ {T : Type 0} where
  -- entries that draw below n do not draw n
  pub none_drawn : (n : ℕ) (es : List (Entry T)) → Each (DrawsBelow n) es → total (draws n) es ≡ 0
  none_drawn n [] h = refl
  none_drawn n (Draw k own ∷ es) h =
      let other : k ≢ n = let below = h.0 in λ same. omega arith in
      let here = other_counts_not k n other in
      let rest = none_drawn n es h.1 in omega arith
  none_drawn n (Finish k piece report answer last ∷ es) h = let rest = none_drawn n es h.1 in omega arith
  none_drawn n (Look answer last ∷ es) h = let rest = none_drawn n es h.1 in omega arith
  none_drawn n (NoneLeft ∷ es) h = let rest = none_drawn n es h.1 in omega arith

module _ {T : Type 0} (table : TableId) (me : Me (Option T) (View T)) (number : ℕ) (drawn : List ℕ) (drawn_room : ℕ) (held : List ℕ) (held_room : ℕ) (ended : Bool)
    (h : IsTurn table me number drawn drawn_room held held_room ended) where
  abbrev log : Record T
  log = only me.0.records

  pub room_to_draw : (n : ℕ) → n < table.slots → Each (DrawsBelow n) log.entries → (length drawn < drawn_room) × (length held < held_room)
  room_to_draw n inside below =
      let few = h.few n below in
      let fewer = h.fewer in
      let a = h.room in
      let b = h.room_to_hold in
      (omega arith, omega arith)

  -- a number that the turn holds stands in its list
  pub held_stands : (k : ℕ) → total (finishes k) log.entries < total (draws k) log.entries → 0 < times k held
  held_stands k holds = let d = h.counts k in omega arith

  -- the view of a turn, and the same turn with another view
  pub live : IsLive table.slots me.0
  live = record { alone = h.alone; filled = h.full; leaves = leaves ended refl } where
    leaves : (b : Bool) → ended ≡ b → total nones log.entries ≡ 0 → 0 < me.0.leave
    leaves true e none = let told = h.told_so e in absurd (omega arith)
    leaves false e none = (h.leaves e).0

  pub same_turn : (v : View T) → IsSameTurn me.0 v → IsTurn table (v, me.1) number drawn drawn_room held held_room ended
  same_turn v same =
      let P : List (Record T) → Type 0 = λ rs. IsTurn table (record v { records = rs }, me.1) number drawn drawn_room held held_room ended in
      subst P (sym same.records) record {
        alone = h.alone;
        full = same.filled ∙ h.full;
        named = h.named;
        carries = h.carries;
        counts = h.counts;
        drawn_is = h.drawn_is;
        once = h.once;
        drawn_inside = h.drawn_inside;
        held_inside = h.held_inside;
        leaves = λ on. let now = h.leaves on in (same.leaves now.1, now.1);
        told_so = h.told_so;
        few = h.few;
        fewer = h.fewer;
        room = h.room;
        room_to_hold = h.room_to_hold;
      }

  pub after_draw : (n : ℕ) → n < table.slots → Each (DrawsBelow n) log.entries
      → IsTurn table (after_entry me.0 log (Draw n (reported log.entries)), me.1 ++ empty_slot n ∷ []) number (drawn ++ n ∷ []) drawn_room (held ++ n ∷ []) held_room ended
  after_draw n inside below = let e : Entry T = Draw n (reported log.entries) in record {
    alone = refl;
    full = h.full;
    named = h.named;
    carries = ap (λ (l : List (ℕ × Option T)). l ++ empty_slot n ∷ []) h.carries ∙ sym (map-append empty_slot held (n ∷ []));
    counts = λ k. let a = total_entry (draws k) log e in let b = total_entry (finishes k) log e in let d = h.counts k in let f = times_more k n held in omega arith;
    drawn_is = λ k. let a = total_entry (draws k) log e in let d = h.drawn_is k in let f = times_more k n drawn in omega arith;
    once = λ k.
        let f = times_more k n drawn in
        dite (ℕ_discrete n k)
        (λ same. let none : total (draws k) log.entries ≡ 0 = ap (λ (z : ℕ). total (draws z) log.entries) (sym same) ∙ none_drawn n log.entries below in
        let d = h.drawn_is k in let c : one_if_same n k ≡ 1 = ap (λ (z : ℕ). one_if_same z k) same ∙ same_counts k in omega arith)
        (λ other. let c = other_counts_not n k other in let d = h.once k in omega arith);
    drawn_inside = All-push (λ k. k < table.slots) drawn n h.drawn_inside inside;
    held_inside = All-push (λ k. k < table.slots) held n h.held_inside inside;
    leaves = λ on. let now = h.leaves on in let a = total_entry nones log e in (now.0, (let b = now.1 in omega arith));
    told_so = λ over. let now = h.told_so over in let a = total_entry nones log e in omega arith;
    few = λ m all.
        let now = each_back (DrawsBelow m) log.entries (e ∷ []) all in
        let under : n < m = now.0 in
        let before = h.few n below in
        omega (arith, length-append drawn (n ∷ []));
    fewer = let a = h.fewer in omega (arith, length-append drawn (n ∷ []), length-append held (n ∷ []));
    room = h.room;
    room_to_hold = h.room_to_hold;
  }

  pub after_none_left : IsTurn table (after_none me.0 log, me.1) number drawn drawn_room held held_room true
  after_none_left = record {
    alone = refl;
    full = h.full;
    named = h.named;
    carries = h.carries;
    counts = λ k. let a = total_entry (draws k) log NoneLeft in let b = total_entry (finishes k) log NoneLeft in let d = h.counts k in omega arith;
    drawn_is = λ k. let a = total_entry (draws k) log NoneLeft in let d = h.drawn_is k in omega arith;
    once = h.once;
    drawn_inside = h.drawn_inside;
    held_inside = h.held_inside;
    leaves = λ on. absurd (true≢false on);
    told_so = λ _. let a = total_entry nones log NoneLeft in omega arith;
    few = λ m all. h.few m (each_front (DrawsBelow m) log.entries (NoneLeft ∷ []) all);
    fewer = h.fewer;
    room = h.room;
    room_to_hold = h.room_to_hold;
  }

  pub after_look : (answer last : ℕ) → IsTurn table (after_entry me.0 log (Look answer last), me.1) number drawn drawn_room held held_room ended
  after_look answer last = let e : Entry T = Look answer last in record {
    alone = refl;
    full = h.full;
    named = h.named;
    carries = h.carries;
    counts = λ k. let a = total_entry (draws k) log e in let b = total_entry (finishes k) log e in let d = h.counts k in omega arith;
    drawn_is = λ k. let a = total_entry (draws k) log e in let d = h.drawn_is k in omega arith;
    once = h.once;
    drawn_inside = h.drawn_inside;
    held_inside = h.held_inside;
    leaves = λ on. let now = h.leaves on in let a = total_entry nones log e in (now.0, (let b = now.1 in omega arith));
    told_so = λ over. let now = h.told_so over in let a = total_entry nones log e in omega arith;
    few = λ m all. h.few m (each_front (DrawsBelow m) log.entries (e ∷ []) all);
    fewer = h.fewer;
    room = h.room;
    room_to_hold = h.room_to_hold;
  }

  -- the number at this place is held no more, and the slots that are held are those of the others
  pub after_finish : (place k : ℕ) (x : T) (report answer last : ℕ) → slice_get held place ≡ Some k
      → IsTurn table (after_entry me.0 log (Finish k x report answer last), map empty_slot (remove held place)) number drawn drawn_room (remove held place) held_room ended
  after_finish place k x report answer last at = let e : Entry T = Finish k x report answer last in record {
    alone = refl;
    full = h.full;
    named = h.named;
    carries = refl;
    counts = λ j. let a = total_entry (draws j) log e in let b = total_entry (finishes j) log e in let d = h.counts j in let f = times_remove j place k held at in omega arith;
    drawn_is = λ j. let a = total_entry (draws j) log e in let d = h.drawn_is j in omega arith;
    once = h.once;
    drawn_inside = h.drawn_inside;
    held_inside = All-append (λ n. n < table.slots) (take place held) (drop (suc place) held) (All-take (λ n. n < table.slots) place held h.held_inside) (All-drop (λ n. n < table.slots) (suc place) held h.held_inside);
    leaves = λ on. let now = h.leaves on in let a = total_entry nones log e in (now.0, (let b = now.1 in omega arith));
    told_so = λ over. let now = h.told_so over in let a = total_entry nones log e in omega arith;
    few = λ m all. h.few m (each_front (DrawsBelow m) log.entries (e ∷ []) all);
    fewer = let a = h.fewer in let f = length_remove place k held at in omega arith;
    room = h.room;
    room_to_hold = h.room_to_hold;
  }

module _ {T : Type 0} where
  -- the same of equal parts
  pub moved : (a a' : TableId) (me me' : Me (Option T) (View T)) (number : ℕ) (d d' : List ℕ) (m m' : ℕ) (h h' : List ℕ) (n n' : ℕ) (ended : Bool) → a ≡ a' → me ≡ me' → d ≡ d' → m ≡ m' → h ≡ h' → n ≡ n'
      → IsTurn a me number d m h n ended → IsTurn a' me' number d' m' h' n' ended
  moved a a' me me' number d d' m m' h h' n n' ended ea eme ed em eh en keeps =
      let P : TableId × Me (Option T) (View T) × List ℕ × ℕ × List ℕ × ℕ → Type 0 = λ z. IsTurn z.0 z.1 number z.2 z.3 z.4 z.5 ended in
      subst P (λ i. (ea i, eme i, ed i, em i, eh i, en i)) keeps

  -- contracts see two views of one turn as the same
  pub same_model : (a a' : TableId) (v v' : View T) → a' ≡ a → IsSameTurn v v' → turn_model a' v' ≡ turn_model a v
  same_model a a' v v' at same = λ i. record { table = at i; given = same.given i; log = only (same.records i) }
