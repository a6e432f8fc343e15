-- A borrow of a patch lends the size's bound and each value that the patch holds, as a borrow of a `Slots` does. Assumes `Logic`.
use mathlib.Core.Bool.{Bool, true, false}
use mathlib.Core.List.{List, [], ◌∷◌, ◌++◌}
use Prim.Native.Nat.{ℕ, ◌*◌, ◌^◌}
use seplogic.Ra.Ura.{Ura}
use base.Fml.{Lft, Fml, ftrue, flt, Incl-trans}
use types.Logic.{Logic}
use contract.BorrowLft.{meet_⊑_left}
use denote.RattleType.{RattleType}
use denote.Sharing.{ShrLaws, nothing, said}
use denote.SharingLaws.{nothing_shr_laws, said_shr_laws, beside_shr_laws}
use denote.RawPtr.{Ptr, block_ptr, null_ptr, in_block, ◌+ₚ◌}
use denote.Shares.{Shares, Shares-less}
use denote.Param.Laws.{Laws}
use denote.Param.Shared.{copy_shared}
use denote.Struct.Field.{RawPtr-field, usize-field}
use denote.Struct.Laws.{RawPtr-copy, usize-copy}
use denote.Struct.Lending.{lent_at, lent_at_shr_laws, Lends, Lends-false, Lends-lies, Lends-said, Lends-nothing, Lends-both, of_Lends}
use Rattle.core.specs.Mem.Slots.Ownership.{bytes_of, slot, slots_lent}
use Rattle.lbm_patch.specs.Ownership.{spots}
use Rattle.lbm_patch.specs.contracts.Patch.{struct, the_codes, the_heap, the_lent, the_row}
use Rattle.lbm_patch.proofs.Patch.TheLaw.Statement.{statement}

abbrev limit : RattleType → ℕ → Fml
limit R n = flt (n * bytes_of R) (2 ^ 63)

pub shares : (R : RattleType) (L : Laws R) → statement R L
shares R L = of_Lends (struct R) (the_codes R.Denot R.coded) (the_heap R) (the_lent R)
    (λ a p. beside_shr_laws (said (limit R a.len)) (slots_lent R a.ptr a.items a.mine) (said_shr_laws (limit R a.len) tt) (keeps a.mine a.items a.ptr))
    (copy_shared RawPtr-field RawPtr-copy, (copy_shared usize-field usize-copy, tt))
    (λ M 𝓤 𝓛 a p. let l = (the_row R).lives in let s = Shares-less 𝓛 R R.lives l (Incl-trans (meet_⊑_left (R.lives ++ []) _) (meet_⊑_left R.lives [])) (L.shares 𝓛) in
    Lends-both 𝓛 (limit R a.len) (in_block a.ptr (spots R a.ptr a.mine a.items)) (said (limit R a.len)) (slots_lent R a.ptr a.items a.mine) l (Lends-said 𝓛 (limit R a.len) tt l) (anywhere 𝓛 l s a.mine a.items a.ptr))
  where
    keeps : (ms : List Bool) (xs : List R.Denot) (p : Ptr) → ShrLaws (slots_lent R p xs ms)
    keeps ms [] p = nothing_shr_laws
    keeps [] (x ∷ xs) p = nothing_shr_laws
    keeps (true ∷ ms) (x ∷ xs) p = beside_shr_laws (lent_at R p x) (slots_lent R (p +ₚ bytes_of R) xs ms) (lent_at_shr_laws R L.shr_laws p x) (keeps ms xs (p +ₚ bytes_of R))
    keeps (false ∷ ms) (x ∷ xs) p = beside_shr_laws nothing (slots_lent R (p +ₚ bytes_of R) xs ms) nothing_shr_laws (keeps ms xs (p +ₚ bytes_of R))

    given_out : {M : Type 1} {𝓤 : Ura M} (𝓛 : Logic 𝓤) (l : Lft) → Shares 𝓛 R l → (ms : List Bool) (xs : List R.Denot) (p : Ptr) → Lends 𝓛 (spots R p ms xs) (slots_lent R p xs ms) l
    given_out 𝓛 l s [] [] p = Lends-nothing 𝓛 ftrue l
    given_out 𝓛 l s [] (x ∷ xs) p = Lends-nothing 𝓛 ftrue l
    given_out 𝓛 l s (m ∷ ms) [] p = Lends-nothing 𝓛 ftrue l
    given_out 𝓛 l s (true ∷ ms) (x ∷ xs) p = let on = p +ₚ bytes_of R in
        Lends-both 𝓛 (slot R true p x) (spots R on ms xs) (lent_at R p x) (slots_lent R on xs ms) l (Lends-lies 𝓛 R l p x (s x)) (given_out 𝓛 l s ms xs on)
    given_out 𝓛 l s (false ∷ ms) (x ∷ xs) p = let on = p +ₚ bytes_of R in
        Lends-both 𝓛 ftrue (spots R on ms xs) nothing (slots_lent R on xs ms) l (Lends-nothing 𝓛 ftrue l) (given_out 𝓛 l s ms xs on)

    anywhere : {M : Type 1} {𝓤 : Ura M} (𝓛 : Logic 𝓤) (l : Lft) → Shares 𝓛 R l → (ms : List Bool) (xs : List R.Denot) (p : Ptr) → Lends 𝓛 (in_block p (spots R p ms xs)) (slots_lent R p xs ms) l
    anywhere 𝓛 l s ms xs null_ptr = Lends-false 𝓛 (slots_lent R null_ptr xs ms) l
    anywhere 𝓛 l s ms xs (block_ptr b o) = given_out 𝓛 l s ms xs (block_ptr b o)
