-- A list of `Masks` is as long as the one that it is made of.
use Rattle.std.proofs.Common.{◌≡◌, suc, Bool, List, [], ◌∷◌, length, refl, ap}
use Rattle.lbm_patch.specs.Masks.{both, without, either, picked}

pub length-both : (fs gs : List Bool) → length (both fs gs) ≡ length fs
length-both [] gs = refl
length-both (f ∷ fs) [] = ap suc (length-both fs [])
length-both (f ∷ fs) (g ∷ gs) = ap suc (length-both fs gs)

pub length-without : (fs gs : List Bool) → length (without fs gs) ≡ length fs
length-without [] gs = refl
length-without (f ∷ fs) [] = ap suc (length-without fs [])
length-without (f ∷ fs) (g ∷ gs) = ap suc (length-without fs gs)

pub length-either : (fs gs : List Bool) → length (either fs gs) ≡ length fs
length-either [] gs = refl
length-either (f ∷ fs) [] = ap suc (length-either fs [])
length-either (f ∷ fs) (g ∷ gs) = ap suc (length-either fs gs)

pub length-picked : {X : Type 0} (fs : List Bool) (xs ys : List X) → length (picked fs xs ys) ≡ length ys
length-picked [] xs ys = refl
length-picked (f ∷ fs) [] ys = refl
length-picked (f ∷ fs) (x ∷ xs) [] = refl
length-picked (f ∷ fs) (x ∷ xs) (y ∷ ys) = ap suc (length-picked fs xs ys)
