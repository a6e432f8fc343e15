-- Faults that a store has counted in a call.
use Rattle.std.specs.Prelude.{◌≡◌, List, ℕ, Option, Some, None}
use Rattle.lbm_store.specs.Outside.{Counts, StoreState, Rose, SameBeside}
use Rattle.lbm_answer.specs.declared.answer.File.{File}
use Rattle.lbm_answer.specs.declared.answer.File.TheVariants.{CaseFile, Voxel, Checkpoint, Out, Save, Trace}

-- no fault was counted
pub record NoFault (before after : StoreState) : Type 0 where
  pub reads : after.read_faults ≡ before.read_faults
  pub writes : after.write_faults ≡ before.write_faults

-- a fault of this name was counted, and of no other
pub record FaultAt (name : List ℕ) (before after : Counts) : Type 0 where
  pub rose : Rose (before name) (after name)
  pub others : SameBeside name before after

-- ---- of the files that a call is given, by their names: the case, the voxels and the checkpoint are read, the others are written

-- the count of this file rose
abbrev pub NamedRose : (before after : Counts) → Option (List ℕ) → Type 0
NamedRose before after (Some name) = Rose (before name) (after name)
NamedRose before after None = ⊥

abbrev pub FaultRose : (File → Option (List ℕ)) → File → StoreState → StoreState → Type 0
FaultRose name CaseFile before after = NamedRose before.read_faults after.read_faults (name CaseFile)
FaultRose name Voxel before after = NamedRose before.read_faults after.read_faults (name Voxel)
FaultRose name Checkpoint before after = NamedRose before.read_faults after.read_faults (name Checkpoint)
FaultRose name Out before after = NamedRose before.write_faults after.write_faults (name Out)
FaultRose name Save before after = NamedRose before.write_faults after.write_faults (name Save)
FaultRose name Trace before after = NamedRose before.write_faults after.write_faults (name Trace)

-- a fault of this file was counted, and no other
abbrev pub NamedFault : (before after : Counts) → Option (List ℕ) → Type 0
NamedFault before after (Some name) = FaultAt name before after
NamedFault before after None = ⊥

abbrev pub FaultOf : (File → Option (List ℕ)) → File → StoreState → StoreState → Type 0
FaultOf name CaseFile before after = NamedFault before.read_faults after.read_faults (name CaseFile) × (after.write_faults ≡ before.write_faults)
FaultOf name Voxel before after = NamedFault before.read_faults after.read_faults (name Voxel) × (after.write_faults ≡ before.write_faults)
FaultOf name Checkpoint before after = NamedFault before.read_faults after.read_faults (name Checkpoint) × (after.write_faults ≡ before.write_faults)
FaultOf name Out before after = NamedFault before.write_faults after.write_faults (name Out) × (after.read_faults ≡ before.read_faults)
FaultOf name Save before after = NamedFault before.write_faults after.write_faults (name Save) × (after.read_faults ≡ before.read_faults)
FaultOf name Trace before after = NamedFault before.write_faults after.write_faults (name Trace) × (after.read_faults ≡ before.read_faults)
