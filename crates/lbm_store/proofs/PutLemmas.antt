-- Laws of what is put into a gatherer of pieces: nothing, one thing behind another, and what an error cuts short.
use Rattle.std.proofs.Common.{◌≡◌, ℕ, ◌+◌, ◌<◌, List, [], ◌∷◌, ◌++◌, length, take, drop, get_or, refl, sym, ◌∙◌, ap, subst, add-one, Option, Result, Ok, Err, arith, append-nil, length-append, length-take}
use Rattle.std.specs.List.{flat_map}
use Rattle.std.proofs.lemmas.Grind.{flat_map-append}
use Rattle.std.proofs.lemmas.List.{take-append-drop}
use Rattle.std.proofs.Math.Seq.{take-suc}
use Rattle.lbm_store.specs.declared.outside.IoEnd.{IoEnd}
use Rattle.lbm_store.specs.declared.pieces.Pieces.{Pieces}
use Rattle.lbm_store.specs.Outside.{SinkState, GrowsTo, Rose, Writes, followed}
use Rattle.lbm_store.specs.Pieces.{Puts, Ends, GrowsByPieces, due, held_bytes, loan_of, sink}
use Rattle.lbm_store.proofs.Written.{followed-[], followed-again, GrowsTo-refl, GrowsTo-trans, GrowsTo-more, GrowsTo-same, GrowsTo-to}

GrowsByPieces-none : (written : Option (List ℕ)) → GrowsByPieces written written
GrowsByPieces-none written = (0, [], refl, sym (followed-[] written))

GrowsByPieces-trans : (first second third : Option (List ℕ)) → GrowsByPieces first second → GrowsByPieces second third → GrowsByPieces first third
GrowsByPieces-trans first second third p q = (
  p.0 + q.0,
  p.1 ++ q.1,
  length-append p.1 q.1 ∙ omega (arith, p.2, q.2),
  q.3 ∙ ap (λ w. followed w q.1) p.3 ∙ followed-again first p.1 q.1,
)

held-less : {K : Type 0} (pieces : Pieces K) → length (held_bytes pieces) < 4096
held-less pieces = simp length-take (omega (arith, pieces.has_room))

-- what a call that did not fail answered
abbrev pub done : Result (Unit {0}) IoEnd
done = Ok (tt {0})

module _ {K : Type 0} (state : K → SinkState) where
  pub Puts-none : (pieces : Pieces K) → Puts state pieces pieces done []
  Puts-none pieces = record {
    ok = sym (followed-[] _);
    pieces = GrowsByPieces-none _;
    room = held-less pieces;
    err = tt;
    grows = GrowsTo-refl _;
    cause = record { later = omega arith; kept = refl; failed = λ e. absurd (cc) };
    rest = refl;
    same_sink = refl;
  }

  -- one thing behind another
  pub Puts-then : {T : Type 0} (before between after : Pieces K) (result : Result T IoEnd) (front back : List ℕ)
      → Puts state before between done front → Puts state between after result back → Puts state before after result (front ++ back)
  Puts-then before between after (Ok x) front back p q = record {
    ok = q.ok ∙ ap (λ w. followed w back) p.ok ∙ followed-again _ front back;
    pieces = GrowsByPieces-trans _ _ _ p.pieces q.pieces;
    room = held-less after;
    err = tt;
    grows = GrowsTo-trans _ _ _ p.grows q.grows;
    cause = record { later = omega (arith, p.cause.later, q.cause.later); kept = q.cause.kept ∙ p.cause.kept; failed = λ e. absurd (cc) };
    rest = q.rest ∙ p.rest;
    same_sink = q.same_sink ∙ p.same_sink;
  }
  Puts-then before between after (Err e) front back p q = record {
    ok = tt;
    pieces = tt;
    room = held-less after;
    err = GrowsTo-to _ _ _ q.err (ap (λ w. followed w back) p.ok ∙ followed-again _ front back);
    grows = GrowsTo-trans _ _ _ p.grows q.grows;
    cause = record {
      later = omega (arith, p.cause.later, q.cause.later);
      kept = tt;
      failed = λ h. subst (λ n. Rose n (sink state after).faults) p.cause.kept (q.cause.failed h);
    };
    rest = q.rest ∙ p.rest;
    same_sink = q.same_sink ∙ p.same_sink;
  }

  -- what an error cuts short, whatever was to follow
  pub Puts-cut : {S T : Type 0} (before after : Pieces K) (e : IoEnd) (front back : List ℕ)
      → Puts {T = S} state before after (Err e) front → Puts {T = T} state before after (Err e) (front ++ back)
  Puts-cut before after e front back p = record {
    ok = tt;
    pieces = tt;
    room = held-less after;
    err = GrowsTo-trans _ _ _ p.err (GrowsTo-to _ _ _ (GrowsTo-more _ back) (followed-again _ front back));
    grows = p.grows;
    cause = record { later = p.cause.later; kept = tt; failed = λ h. p.cause.failed (cc) };
    rest = p.rest;
    same_sink = p.same_sink;
  }

  -- the bytes, spelled otherwise
  pub Puts-is : {T : Type 0} (before after : Pieces K) (result : Result T IoEnd) (bytes other : List ℕ)
      → bytes ≡ other → Puts state before after result bytes → Puts state before after result other
  Puts-is before after result bytes other e p = subst (λ b. Puts state before after result b) e p

  -- bytes that filled the piece, which was handed on
  pub Puts-filled : {T : Type 0} (before after : Pieces K) (result : Result T IoEnd) (bytes : List ℕ)
      → length (held_bytes before ++ bytes) ≡ 4096
      → Writes (sink state before) (sink state after) result (held_bytes before ++ bytes) → held_bytes after ≡ [] → loan_of after ≡ loan_of before
      → Puts state before after result bytes
  Puts-filled before after (Ok x) bytes whole wrote empty same = record {
    ok = ap (followed (sink state after).written) empty ∙ followed-[] _ ∙ wrote.ok ∙ sym (followed-again _ (held_bytes before) bytes);
    pieces = (1, held_bytes before ++ bytes, whole, wrote.ok);
    room = held-less after;
    err = tt;
    grows = (held_bytes before ++ bytes, wrote.ok);
    cause = wrote.cause;
    rest = wrote.rest;
    same_sink = same;
  }
  Puts-filled before after (Err e) bytes whole wrote empty same = record {
    ok = tt;
    pieces = tt;
    room = held-less after;
    err = GrowsTo-to _ _ _ wrote.err.within (sym (followed-again _ (held_bytes before) bytes));
    grows = wrote.err.kept;
    cause = wrote.cause;
    rest = wrote.rest;
    same_sink = same;
  }

  -- bytes that are held back
  pub Puts-held : (before after : Pieces K) (bytes : List ℕ)
      → sink state after ≡ sink state before → held_bytes after ≡ held_bytes before ++ bytes → loan_of after ≡ loan_of before
      → Puts state before after done bytes
  Puts-held before after bytes still more same = record {
    ok = ap (λ s. followed s.written (held_bytes after)) still ∙ ap (followed (sink state before).written) more ∙ sym (followed-again _ (held_bytes before) bytes);
    pieces = (0, [], refl, ap (λ s. s.written) still ∙ sym (followed-[] _));
    room = held-less after;
    err = tt;
    grows = GrowsTo-same _ _ (ap (λ s. s.written) still);
    cause = record { later = omega (arith, ap (λ s. s.faults) still); kept = ap (λ s. s.faults) still; failed = λ e. absurd (cc) };
    rest = ap (λ s. s.rest) still;
    same_sink = same;
  }

  -- one more of the items, each of which has its text
  pub Puts-next_item : {T X : Type 0} (f : X → List ℕ) (before between after : Pieces K) (result : Result T IoEnd) (xs : List X) (i : ℕ) (d : X) → i < length xs
      → Puts state before between done (flat_map f (take i xs)) → Puts state between after result (f (get_or xs i d))
      → Puts state before after result (flat_map f (take (i + 1) xs))
  Puts-next_item f before between after result xs i d h p q =
      let more : flat_map f (take (i + 1) xs) ≡ flat_map f (take i xs) ++ f (get_or xs i d) =
      ap (λ n. flat_map f (take n xs)) (add-one i) ∙ ap (flat_map f) (take-suc xs i d h) ∙ flat_map-append f (take i xs) (get_or xs i d ∷ [])
      ∙ ap (λ t. flat_map f (take i xs) ++ t) (append-nil (f (get_or xs i d))) in
      Puts-is before after result _ _ (sym more) (Puts-then before between after result _ _ p q)

  -- what an error cuts short at an item
  pub Puts-cut_item : {S T X : Type 0} (f : X → List ℕ) (before between after : Pieces K) (e : IoEnd) (xs : List X) (i : ℕ) (d : X) → i < length xs
      → Puts state before between done (flat_map f (take i xs)) → Puts {T = S} state between after (Err e) (f (get_or xs i d))
      → Puts {T = T} state before after (Err e) (flat_map f xs)
  Puts-cut_item f before between after e xs i d h p q =
      Puts-is before after (Err e) _ _
      (sym (flat_map-append f (take (i + 1) xs) (drop (i + 1) xs)) ∙ ap (flat_map f) (take-append-drop (i + 1) xs))
      (Puts-cut before after e _ (flat_map f (drop (i + 1) xs)) (Puts-next_item f before between after (Err e) xs i d h p q))

due-new : {K : Type 0} (state : K → SinkState) (start : SinkState) (first : Pieces K) → sink state first ≡ start → held_bytes first ≡ [] → due state first ≡ start.written
due-new state start first sink_first empty =
    ap (λ s. followed s.written (held_bytes first)) sink_first ∙ ap (followed start.written) empty ∙ followed-[] start.written

-- a gatherer that began with a sink in this state, and its end
pub Writes-from_ends : {K T : Type 0} (state : K → SinkState) (start : SinkState) (first last : Pieces K) (after : K) (result : Result T IoEnd) (bytes : List ℕ)
    → sink state first ≡ start → held_bytes first ≡ []
    → Puts state first last done bytes → Ends state last after result → Writes start (state after) result bytes
Writes-from_ends state start first last after (Ok x) bytes sink_first empty put ends = record {
  ok = ends.ok ∙ put.ok ∙ ap (λ w. followed w bytes) (due-new state start first sink_first empty);
  err = tt;
  cause = record {
    later = omega (arith, put.cause.later, ends.cause.later, ap (λ s. s.faults) sink_first);
    kept = ends.cause.kept ∙ put.cause.kept ∙ ap (λ s. s.faults) sink_first;
    failed = λ e. absurd (cc);
  };
  rest = ends.rest ∙ put.rest ∙ ap (λ s. s.rest) sink_first;
}
Writes-from_ends state start first last after (Err e) bytes sink_first empty put ends = record {
  ok = tt;
  err = record {
    kept = GrowsTo-trans _ _ _ (subst (λ s. GrowsTo s.written (sink state last).written) sink_first put.grows) ends.err.kept;
    within = GrowsTo-to _ _ _ ends.err.within (put.ok ∙ ap (λ w. followed w bytes) (due-new state start first sink_first empty));
  };
  cause = record {
    later = omega (arith, put.cause.later, ends.cause.later, ap (λ s. s.faults) sink_first);
    kept = tt;
    failed = λ h. subst (λ n. Rose n (state after).faults) (put.cause.kept ∙ ap (λ s. s.faults) sink_first) (ends.cause.failed h);
  };
  rest = ends.rest ∙ put.rest ∙ ap (λ s. s.rest) sink_first;
}

-- a gatherer that an error cut short
pub Writes-from_cut : {K S T : Type 0} (state : K → SinkState) (start : SinkState) (first last : Pieces K) (e : IoEnd) (bytes : List ℕ)
    → sink state first ≡ start → held_bytes first ≡ []
    → Puts {T = S} state first last (Err e) bytes → Writes {T = T} start (sink state last) (Err e) bytes
Writes-from_cut state start first last e bytes sink_first empty put = record {
  ok = tt;
  err = record {
    kept = subst (λ s. GrowsTo s.written (sink state last).written) sink_first put.grows;
    within = GrowsTo-to _ _ _ put.err (ap (λ w. followed w bytes) (due-new state start first sink_first empty));
  };
  cause = record {
    later = omega (arith, put.cause.later, ap (λ s. s.faults) sink_first);
    kept = tt;
    failed = λ h. subst (λ n. Rose n (sink state last).faults) (ap (λ s. s.faults) sink_first) (put.cause.failed (cc));
  };
  rest = put.rest ∙ ap (λ s. s.rest) sink_first;
}
