-- What a gatherer of pieces stands for, and what a call that puts bytes into it does.
use Rattle.std.specs.Prelude.{◌≡◌, ℕ, ◌*◌, ◌<◌, List, length, Option, take, Result, OnOk, OnErr}
use Rattle.lbm_store.specs.declared.outside.IoEnd.{IoEnd}
use Rattle.lbm_store.specs.declared.pieces.Pieces.{Pieces}
use Rattle.lbm_store.specs.Outside.{SinkState, HasCause, GrowsTo, Writes, followed}

-- what is held back
abbrev pub held_bytes : {K : Type 0} → Pieces K → List ℕ
held_bytes pieces = take pieces.len pieces.held

-- the loan by which it holds its sink
abbrev pub loan_of : {K : Type 0} → Pieces K → ℕ
loan_of pieces = pieces.out.ghost_name

module _ {K : Type 0} (state : K → SinkState) where
  -- its sink, as it stands
  abbrev pub sink : Pieces K → SinkState
  sink pieces = state pieces.out.now

  -- what the sink will have got when all that was put is handed on
  abbrev pub due : Pieces K → Option (List ℕ)
  due pieces = followed (sink pieces).written (held_bytes pieces)

-- from one to the other a whole number of pieces was handed on
abbrev pub GrowsByPieces : Option (List ℕ) → Option (List ℕ) → Type 0
GrowsByPieces before after = (count : ℕ) × (more : List ℕ) × (length more ≡ 4096 * count) × (after ≡ followed before more)

-- A call put these bytes. What it handed on is whole pieces, and what it holds back is less than a piece.
-- After an error the sink has got a front of all that was put.
pub record Puts {K T : Type 0} (state : K → SinkState) (before after : Pieces K) (result : Result T IoEnd) (bytes : List ℕ) : Type 0 where
  pub ok : OnOk result (due state after ≡ followed (due state before) bytes)
  pub pieces : OnOk result (GrowsByPieces (sink state before).written (sink state after).written)
  pub room : length (held_bytes after) < 4096
  pub err : OnErr result (GrowsTo (sink state after).written (followed (due state before) bytes))
  pub grows : GrowsTo (sink state before).written (sink state after).written
  pub cause : HasCause (sink state before).faults (sink state after).faults result
  pub rest : (sink state after).rest ≡ (sink state before).rest
  pub same_sink : loan_of after ≡ loan_of before

-- A call handed on what was held back, and left the sink so.
abbrev pub Ends : {K T : Type 0} → (K → SinkState) → Pieces K → K → Result T IoEnd → Type 0
Ends state before after result = Writes (sink state before) (state after) result (held_bytes before)
