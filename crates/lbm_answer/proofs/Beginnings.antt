-- Where a run begins: with the first state, or with that of a checkpoint.
use Rattle.std.proofs.Common.{◌≡◌, ◌∙◌, ℕ, ◌<◌, ◌≤◌, ◌*◌, List, length, Some, Ok, Err, Result, refl, sym, ap, subst, None}
use Rattle.std.proofs.lemmas.Bool.{le-leb, lt-leb}
use Rattle.std.proofs.Math.Nat.{mul_comm}
use Rattle.std.specs.Option.{ForSome}
use Rattle.sha2.specs.Sha256.{sha256}
use Rattle.lbm_space.specs.Torus.{Torus, cells}
use Rattle.lbm_store.specs.Outside.{Files, StoreState, content}
use Rattle.lbm_model.specs.State.{FlowState}
use Rattle.lbm_model.specs.Case.{FlowCase}
use Rattle.lbm_model.specs.Flow.{IsStateOf, first}
use Rattle.lbm_ckpt.specs.declared.fault.CkptFault.{CkptFault}
use Rattle.lbm_ckpt.specs.declared.fault.CkptEnd.{CkptEnd}
use Rattle.lbm_ckpt.specs.declared.fault.CkptEnd.TheVariants as ckpt_end
use Rattle.lbm_ckpt.specs.Ckpt.{checkpoint_of, ckpt_size, Refuses}
use Rattle.lbm_answer.specs.declared.answer.File.TheVariants.{CaseFile, Voxel, Checkpoint, Out, Save, Trace}
use Rattle.lbm_answer.specs.declared.answer.End.{End}
use Rattle.lbm_answer.specs.declared.answer.End.TheVariants.{Done, Usage, Case, TooLong, Voxel as BadVoxel, Cut, Spot, Checkpoint as BadCheckpoint, Past, Range, TracerRange, StoreFault, SinkFault, Memory}
use Rattle.lbm_answer.specs.Causes.{checkpoint_end}
use Rattle.lbm_answer.specs.Files.{ReadsBytes}
use Rattle.lbm_answer.specs.Outcome.{Job, begun, begun_at, resumed}
use Rattle.lbm_answer.specs.Jobs.{Begins}

pub begun-first : (job : Job) (files : Files) (s : FlowState) → job.resume ≡ None → s ≡ first job.case → begun job files ≡ Ok (record { state = s; time = 0 })
begun-first job files s none is = ap (begun_at job files) none ∙ ap (λ (t : FlowState). Ok (record { state = t; time = 0 })) (sym is)

pub whole-state : (case : FlowCase) (s : FlowState) (space : Torus) (q : ℕ) → space ≡ case.torus → q ≡ case.stencil.directions → s.directions ≡ q → length s.numbers ≡ q * cells space → IsStateOf case s
whole-state case s space q space_is q_is width size = record {
  directions = width ∙ q_is;
  numbers = size ∙ ap (λ (t : Torus). q * cells t) space_is ∙ mul_comm q (cells case.torus) ∙ ap (λ (n : ℕ). cells case.torus * n) (sym width);
}

-- ---- a checkpoint of these bytes

module _ (job : Job) (bytes : List ℕ) where
  abbrev size : ℕ
  size = ckpt_size job.case.torus job.case.stencil.directions

  abbrev reading : Result (ℕ × FlowState) CkptFault
  reading = checkpoint_of (sha256 job.bytes) job.case.torus job.case.stencil.directions bytes

  resumed-long : size < length bytes → resumed job bytes ≡ Err (TooLong Checkpoint)
  unfolding resumed
  resumed-long long = rw (lt-leb _ _ long) refl

  resumed-refused : (fault : CkptFault) → length bytes ≤ size → reading ≡ Err fault → resumed job bytes ≡ Err (BadCheckpoint fault)
  unfolding resumed
  resumed-refused fault short is = rw (le-leb _ _ short, is) refl

  resumed-past : (at : ℕ) (s : FlowState) → length bytes ≤ size → reading ≡ Ok (at, s) → job.steps < at → resumed job bytes ≡ Err (Past at job.steps)
  unfolding resumed
  resumed-past at s short is past = rw (le-leb _ _ short, is, lt-leb _ _ past) refl

  resumed-found : (at : ℕ) (s : FlowState) → length bytes ≤ size → reading ≡ Ok (at, s) → at ≤ job.steps → resumed job bytes ≡ Ok (record { state = s; time = at })
  unfolding resumed
  resumed-found at s short is ahead = rw (le-leb _ _ short, is, le-leb _ _ ahead) refl

-- ---- the checkpoint that a run names, as it is read with these values

module _ (job : Job) (before : StoreState) (name : List ℕ) (named : job.resume ≡ Some name)
    (space : Torus) (q : ℕ) (space_is : space ≡ job.case.torus) (q_is : q ≡ job.case.stencil.directions) where
  begun-at : (files : Files) → begun job files ≡ resumed job (content files name)
  begun-at files = ap (begun_at job files) named

  -- it was not read
  pub Begins-unread : (A : Type 0) (limit : ℕ) (after : StoreState) (end : End) → limit ≡ ckpt_size space q
      → ReadsBytes {A = A} Checkpoint before after name limit (Err end) → Begins job before after (Err end)
  Begins-unread A limit after (TooLong Checkpoint) limit_is read = (
    read.1,
    λ files told.
        let limit_here : limit ≡ ckpt_size job.case.torus job.case.stencil.directions = limit_is ∙ ap (λ (t : Torus). ckpt_size t q) space_is ∙ ap (ckpt_size job.case.torus) q_is in
        let long : ckpt_size job.case.torus job.case.stencil.directions < length (content files name) = subst (λ (n : ℕ). n < length (content files name)) limit_here (read.2 files told) in
        begun-at files ∙ resumed-long job (content files name) long,
  )
  Begins-unread A limit after (TooLong CaseFile) limit_is read = absurd cc
  Begins-unread A limit after (TooLong Voxel) limit_is read = absurd cc
  Begins-unread A limit after (TooLong Out) limit_is read = absurd cc
  Begins-unread A limit after (TooLong Save) limit_is read = absurd cc
  Begins-unread A limit after (TooLong Trace) limit_is read = absurd cc
  Begins-unread A limit after (StoreFault Checkpoint) limit_is read = (name, named, read.1)
  Begins-unread A limit after (StoreFault CaseFile) limit_is read = absurd cc
  Begins-unread A limit after (StoreFault Voxel) limit_is read = absurd cc
  Begins-unread A limit after (StoreFault Out) limit_is read = absurd cc
  Begins-unread A limit after (StoreFault Save) limit_is read = absurd cc
  Begins-unread A limit after (StoreFault Trace) limit_is read = absurd cc
  Begins-unread A limit after Memory limit_is read = tt
  Begins-unread A limit after Done limit_is read = absurd read
  Begins-unread A limit after Usage limit_is read = absurd read
  Begins-unread A limit after (Case fault) limit_is read = absurd read
  Begins-unread A limit after (BadVoxel fault) limit_is read = absurd read
  Begins-unread A limit after (Cut k) limit_is read = absurd read
  Begins-unread A limit after (Spot cell) limit_is read = absurd read
  Begins-unread A limit after (BadCheckpoint fault) limit_is read = absurd read
  Begins-unread A limit after (Past at to) limit_is read = absurd read
  Begins-unread A limit after (Range step cell) limit_is read = absurd read
  Begins-unread A limit after (TracerRange step cell) limit_is read = absurd read
  Begins-unread A limit after SinkFault limit_is read = absurd read

  -- it was read: the items of `bytes`, of which there are at most as many as a checkpoint of this space has
  module _ (digest bytes items : List ℕ) (limit : ℕ) (sized : Torus) (digest_is : digest ≡ sha256 job.bytes) (bytes_is : bytes ≡ items)
      (sized_is : sized ≡ job.case.torus) (limit_is : limit ≡ ckpt_size sized q)
      (read : (length items ≤ limit) × ForSome before.files (λ files. items ≡ content files name)) where
    module _ (files : Files) (told : before.files ≡ Some files) where
      short : length (content files name) ≤ ckpt_size job.case.torus job.case.stencil.directions
      short =
          let limit_here : limit ≡ ckpt_size job.case.torus job.case.stencil.directions = limit_is ∙ ap (λ (t : Torus). ckpt_size t q) sized_is ∙ ap (ckpt_size job.case.torus) q_is in
          subst (λ (n : ℕ). length (content files name) ≤ n) limit_here (subst (λ (xs : List ℕ). length xs ≤ limit) (read.1 files told) read.0)

      same : checkpoint_of digest space q bytes ≡ checkpoint_of (sha256 job.bytes) job.case.torus job.case.stencil.directions (content files name)
      same =
          ap (λ (d : List ℕ). checkpoint_of d space q bytes) digest_is
          ∙ ap (λ (t : Torus). checkpoint_of (sha256 job.bytes) t q bytes) space_is
          ∙ ap (λ (n : ℕ). checkpoint_of (sha256 job.bytes) job.case.torus n bytes) q_is
          ∙ ap (checkpoint_of (sha256 job.bytes) job.case.torus job.case.stencil.directions) (bytes_is ∙ read.1 files told)

    -- it is refused
    pub Begins-refused : (after : StoreState) (end : CkptEnd) → after ≡ before → Refuses end (checkpoint_of digest space q bytes) → Begins job before after (Err (checkpoint_end end))
    Begins-refused after ckpt_end.Memory kept refused = tt
    Begins-refused after (ckpt_end.Fault fault) kept refused = (
      kept,
      λ files told. begun-at files ∙ resumed-refused job (content files name) fault (short files told) (sym (same files told) ∙ refused),
    )

    -- its step is past the last one
    pub begun-past : (at to : ℕ) (s : FlowState) → checkpoint_of digest space q bytes ≡ Ok (at, s) → to ≡ job.steps → to < at → ForSome before.files (λ files. begun job files ≡ Err (Past at to))
    begun-past at to s is last past = λ files told.
        begun-at files ∙ resumed-past job (content files name) at s (short files told) (sym (same files told) ∙ is) (subst (λ (n : ℕ). n < at) last past) ∙ ap (λ (n : ℕ). Err (Past at n)) (sym last)

    -- the run goes on from it
    pub begun-found : (at : ℕ) (s : FlowState) → checkpoint_of digest space q bytes ≡ Ok (at, s) → at ≤ job.steps → ForSome before.files (λ files. begun job files ≡ Ok (record { state = s; time = at }))
    begun-found at s is ahead = λ files told.
        begun-at files ∙ resumed-found job (content files name) at s (short files told) (sym (same files told) ∙ is) ahead
