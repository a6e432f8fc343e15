-- The files that are read first: that of the case, and the voxel file.
use Rattle.std.proofs.Common.{◌≡◌, ◌∙◌, ℕ, ◌≤◌, List, length, Result, Ok, Err, sym, ap}
use Rattle.std.specs.Option.{ForSome}
use Rattle.lbm_store.specs.Outside.{Files, StoreState, content}
use Rattle.lbm_model.specs.Case.{FlowCase}
use Rattle.lbm_case.specs.declared.fault.CaseEnd.{CaseEnd}
use Rattle.lbm_case.specs.declared.fault.CaseEnd.TheVariants as case_ends
use Rattle.lbm_case.specs.CaseOf.{case_of}
use Rattle.lbm_case.specs.Refusals.{Refuses as CaseRefuses}
use Rattle.lbm_voxel.specs.declared.fault.VoxelEnd.{VoxelEnd}
use Rattle.lbm_voxel.specs.declared.fault.VoxelEnd.TheVariants as voxel_ends
use Rattle.lbm_voxel.specs.Voxels.{voxels_of}
use Rattle.lbm_voxel.specs.Refusals.{Refuses as VoxelRefuses}
use Rattle.lbm_answer.specs.declared.answer.File.{File}
use Rattle.lbm_answer.specs.declared.answer.File.TheVariants.{CaseFile, Voxel}
use Rattle.lbm_answer.specs.declared.answer.End.{End}
use Rattle.lbm_answer.specs.declared.answer.End.TheVariants.{Done, Usage, Case, TooLong, Voxel as BadVoxel, Cut, Spot, Checkpoint as BadCheckpoint, Past, Range, TracerRange, StoreFault, SinkFault, Memory}
use Rattle.lbm_answer.specs.Causes.{case_end, voxel_end}
use Rattle.lbm_answer.specs.Files.{ReadsBytes, ReadsAs}
use Rattle.lbm_answer.specs.Outcome.{bytes_within, case_limit, voxel_limit, case_read, voxels_read}
use Rattle.lbm_answer.proofs.Asked.{bytes_within-long, bytes_within-whole, case_read-unread, case_read-refused, case_read-case, voxels_read-unread, voxels_read-refused, voxels_read-case}

module _ (before after : StoreState) (name : List ℕ) where
  -- the bytes were not read
  unread : {X Y : Type 0} (A : Type 0) (view : X → Y) (kind : File) (limit : ℕ) (reading : Files → Result Y End)
      → ((files : Files) (refused : End) → bytes_within kind limit name files ≡ Err refused → reading files ≡ Err refused)
      → (end : End) → ReadsBytes {A = A} kind before after name limit (Err end) → ReadsAs view kind name reading before after (Err end)
  unread A view kind limit reading refuses (TooLong file) read = (
    read.1,
    λ files told. refuses files (TooLong kind) (bytes_within-long kind limit name files (read.2 files told)) ∙ ap (λ (f : File). Err (TooLong f)) (sym read.0),
  )
  unread A view kind limit reading refuses (StoreFault failed) read = read
  unread A view kind limit reading refuses Memory read = tt
  unread A view kind limit reading refuses Done read = absurd read
  unread A view kind limit reading refuses Usage read = absurd read
  unread A view kind limit reading refuses (Case fault) read = absurd read
  unread A view kind limit reading refuses (BadVoxel fault) read = absurd read
  unread A view kind limit reading refuses (Cut k) read = absurd read
  unread A view kind limit reading refuses (Spot cell) read = absurd read
  unread A view kind limit reading refuses (BadCheckpoint fault) read = absurd read
  unread A view kind limit reading refuses (Past at to) read = absurd read
  unread A view kind limit reading refuses (Range step cell) read = absurd read
  unread A view kind limit reading refuses (TracerRange step cell) read = absurd read
  unread A view kind limit reading refuses SinkFault read = absurd read

  module _ {X : Type 0} (view : X → List ℕ × FlowCase) where
    pub case-unread : (A : Type 0) (end : End) → ReadsBytes {A = A} CaseFile before after name case_limit (Err end) → ReadsAs view CaseFile name (case_read name) before after (Err end)
    case-unread A = unread A view CaseFile case_limit (case_read name) (λ files refused. case_read-unread name files refused)

    pub voxels-unread : (A : Type 0) (case : FlowCase) (end : End) → ReadsBytes {A = A} Voxel before after name voxel_limit (Err end)
        → ReadsAs view Voxel name (voxels_read name case) before after (Err end)
    voxels-unread A case = unread A view Voxel voxel_limit (voxels_read name case) (λ files refused. voxels_read-unread name files case refused)

    -- these bytes were read
    module _ (bytes : List ℕ) (same : after ≡ before) (whole : ForSome before.files (λ files. bytes ≡ content files name)) where
      within : (kind : File) (limit : ℕ) → length bytes ≤ limit → ForSome before.files (λ files. bytes_within kind limit name files ≡ Ok bytes)
      within kind limit short = λ files told. bytes_within-whole kind limit name files bytes short (whole files told)

      module _ (short : length bytes ≤ case_limit) where
        pub case-refused : (end : CaseEnd) → CaseRefuses end (case_of bytes) → ReadsAs view CaseFile name (case_read name) before after (Err (case_end end))
        case-refused (case_ends.Fault fault) is = (same, λ files told. case_read-refused name files bytes (within CaseFile case_limit short files told) fault is)
        case-refused case_ends.Memory is = tt

        pub case-read : (case : FlowCase) → case_of bytes ≡ Ok case → ForSome before.files (λ files. case_read name files ≡ Ok (bytes, case))
        case-read case is = λ files told. case_read-case name files bytes (within CaseFile case_limit short files told) case is

      module _ (short : length bytes ≤ voxel_limit) (case : FlowCase) where
        pub voxels-refused : (end : VoxelEnd) → VoxelRefuses end (voxels_of bytes case) → ReadsAs view Voxel name (voxels_read name case) before after (Err (voxel_end end))
        voxels-refused (voxel_ends.Fault fault) is = (same, λ files told. voxels_read-refused name files case bytes (within Voxel voxel_limit short files told) fault is)
        voxels-refused voxel_ends.Memory is = tt

        pub voxels-read : (shaped : FlowCase) → voxels_of bytes case ≡ Ok shaped → ForSome before.files (λ files. voxels_read name case files ≡ Ok (bytes, shaped))
        voxels-read shaped is = λ files told. voxels_read-case name files case bytes (within Voxel voxel_limit short files told) shaped is
