-- How a reading of a voxel file is refused.
use Rattle.std.specs.Prelude.{◌≡◌, Option, Some, None, Result, Ok, Err}
use Rattle.lbm_voxel.specs.declared.fault.VoxelFault.{VoxelFault}
use Rattle.lbm_voxel.specs.declared.fault.VoxelEnd.{VoxelEnd}
use Rattle.lbm_voxel.specs.declared.fault.VoxelEnd.TheVariants.{Fault, Memory}

-- a refusal for what was found, if anything was
abbrev pub refuse : {A : Type 0} → (A → VoxelFault) → Option A → Result (Unit {0}) VoxelFault
refuse fault None = Ok tt
refuse fault (Some x) = Err (fault x)

-- how a function ended in place of a value, beside what the reading gives: with its refusal, or for want of memory
abbrev pub Refuses : {Y : Type 0} → VoxelEnd → Result Y VoxelFault → Type 0
Refuses Memory reading = Unit {0}
Refuses (Fault fault) reading = reading ≡ Err fault

-- what a function gave, seen through view, is what the reading gives, unless memory ran out
abbrev pub Gives : {X Y : Type 0} → (X → Y) → Result X VoxelEnd → Result Y VoxelFault → Type 0
Gives view (Ok x) reading = reading ≡ Ok (view x)
Gives view (Err end) reading = Refuses end reading
