-- A patch holds memory alone, so it crosses threads where each value that it holds may.
use mathlib.Core.Bool.{Bool, true, false}
use mathlib.Core.List.{List, [], ◌∷◌}
use base.Fraction.{full_share}
use base.Shift.{Keyless}
use denote.RattleType.{RattleType}
use denote.RawPtr.{Ptr, block_ptr, null_ptr, in_block, ◌+ₚ◌}
use denote.Struct.Struct.{exits_of}
use denote.Struct.Owning.{shape, fields, to}
use denote.Param.Send.{IsSend, AllSend, part_keyless, owning_send, struct_send, sendable}
use Rattle.std_alloc.proofs.SendSync.{quiet}
use Rattle.core.specs.Mem.Slots.Ownership.{bytes_of}
use Rattle.lbm_patch.specs.Ownership.{spots}
use Rattle.lbm_patch.specs.contracts.Patch.{the_row, the_type}

pub send : (R : RattleType) → IsSend R → IsSend (the_row R)
send R s =
    let T = the_type R in let words : AllSend (fields T) = (search sendable, (search sendable, tt)) in
    owning_send T words (λ a. (tt, placed a.ptr a.mine a.items)) (λ k. quiet (to T) (exits_of k (fields T)) ((struct_send (shape T) words).leaving k))
  where
    -- at every pointer, null too, where the places are false
    spread : (ms : List Bool) (xs : List R.Denot) (p : Ptr) → Keyless (spots R p ms xs)
    spread [] xs p = tt
    spread (m ∷ ms) [] p = tt
    spread (false ∷ ms) (x ∷ xs) p = (tt, spread ms xs (p +ₚ bytes_of R))
    spread (true ∷ ms) (x ∷ xs) null_ptr = (tt, spread ms xs null_ptr)
    spread (true ∷ ms) (x ∷ xs) (block_ptr b o) = (part_keyless R s full_share x b o, spread ms xs (block_ptr b o +ₚ bytes_of R))

    placed : (p : Ptr) (ms : List Bool) (xs : List R.Denot) → Keyless (in_block p (spots R p ms xs))
    placed null_ptr ms xs = tt
    placed (block_ptr b o) ms xs = spread ms xs (block_ptr b o)
