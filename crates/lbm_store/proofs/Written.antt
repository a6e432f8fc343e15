-- Laws of what is written to a sink, one piece behind the other.
use Rattle.std.proofs.Common.{◌≡◌, ℕ, List, [], ◌++◌, take, drop, Option, Some, None, refl, sym, ◌∙◌, ap, append_assoc, append-nil, arith, Result, Ok, Err, OnErr}
use Rattle.std.proofs.lemmas.List.{take-append-drop}
use Rattle.lbm_store.specs.declared.outside.IoEnd.{IoEnd}
use Rattle.lbm_store.specs.Outside.{SinkState, Rest, HasCause, Writes, GrowsTo, GotFront, followed}

pub followed-again : (written : Option (List ℕ)) (front back : List ℕ) → followed (followed written front) back ≡ followed written (front ++ back)
unfolding followed
followed-again None front back = refl
followed-again (Some written) front back = ap Some (append_assoc written front back)

pub followed-[] : (written : Option (List ℕ)) → followed written [] ≡ written
unfolding followed
followed-[] None = refl
followed-[] (Some written) = ap Some (append-nil written)

pub GrowsTo-refl : (written : Option (List ℕ)) → GrowsTo written written
GrowsTo-refl written = ([], sym (followed-[] written))

pub GrowsTo-same : (before after : Option (List ℕ)) → after ≡ before → GrowsTo before after
GrowsTo-same before after e = ([], e ∙ sym (followed-[] before))

pub GrowsTo-more : (written : Option (List ℕ)) (bytes : List ℕ) → GrowsTo written (followed written bytes)
GrowsTo-more written bytes = (bytes, refl)

pub GrowsTo-trans : (first second third : Option (List ℕ)) → GrowsTo first second → GrowsTo second third → GrowsTo first third
GrowsTo-trans first second third p q = (p.0 ++ q.0, q.1 ∙ ap (λ w. followed w q.0) p.1 ∙ followed-again first p.0 q.0)

pub GrowsTo-to : (before after whole : Option (List ℕ)) → GrowsTo before after → after ≡ whole → GrowsTo before whole
GrowsTo-to before after whole p e = (p.0, sym e ∙ p.1)

-- a clause on an error, from what holds in any case
pub OnErr-always : {T E P : Type 0} (result : Result T E) → P → OnErr result P
OnErr-always (Ok x) p = tt
OnErr-always (Err e) p = p

-- a call that writes has got a front of the bytes, whatever it answered
pub GotFront-from_writes : {T : Type 0} (before after : SinkState) (result : Result T IoEnd) (bytes : List ℕ) → Writes before after result bytes → GotFront before.written after.written bytes
GotFront-from_writes before after (Ok x) bytes wrote = record { kept = (bytes, wrote.ok); within = GrowsTo-same _ _ (sym wrote.ok) }
GotFront-from_writes before after (Err e) bytes wrote = wrote.err

pub GotFront-none : (written : Option (List ℕ)) (bytes : List ℕ) → GotFront written written bytes
GotFront-none written bytes = record { kept = GrowsTo-refl written; within = GrowsTo-more written bytes }

-- ---- what the sinks in memory and the streams do

-- a sink that tells no bytes
pub Writes-untold : {T : Type 0} (rest : Rest) (before after : ℕ) (result : Result T IoEnd) (bytes : List ℕ) → HasCause before after result
    → Writes (record { written = None; faults = before; rest = rest }) (record { written = None; faults = after; rest = rest }) result bytes
unfolding followed
Writes-untold rest before after (Ok x) bytes cause = record { ok = refl; err = tt; cause = cause; rest = refl }
Writes-untold rest before after (Err e) bytes cause = record { ok = tt; err = record { kept = ([], refl); within = ([], refl) }; cause = cause; rest = refl }

-- a sink that tells its bytes, after Ok
pub Writes-told : {T : Type 0} (x : T) (rest : Rest) (faults : ℕ) (written now bytes : List ℕ) → now ≡ written ++ bytes
    → Writes {T = T} (record { written = Some written; faults = faults; rest = rest }) (record { written = Some now; faults = faults; rest = rest }) (Ok x) bytes
unfolding followed
Writes-told x rest faults written now bytes is = record {
  ok = ap Some is;
  err = tt;
  cause = record { later = omega arith; kept = refl; failed = λ e. absurd (cc) };
  rest = refl;
}

-- and after an error
pub Writes-told_front : {T : Type 0} (e : IoEnd) (rest : Rest) (before after : ℕ) (written now bytes : List ℕ) (n : ℕ) → now ≡ written ++ take n bytes
    → HasCause {T = T} before after (Err e)
    → Writes {T = T} (record { written = Some written; faults = before; rest = rest }) (record { written = Some now; faults = after; rest = rest }) (Err e) bytes
unfolding followed
Writes-told_front e rest before after written now bytes n is cause = record {
  ok = tt;
  err = record {
    kept = (take n bytes, ap Some is);
    within = (drop n bytes, ap Some (ap (λ b. written ++ b) (sym (take-append-drop n bytes)) ∙ sym (append_assoc written (take n bytes) (drop n bytes)) ∙ ap (λ b. b ++ drop n bytes) (sym is)));
  };
  cause = cause;
  rest = refl;
}
