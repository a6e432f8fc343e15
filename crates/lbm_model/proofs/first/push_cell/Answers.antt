use Rattle.std.proofs.Common.{◌≡◌, ◌<◌, ◌^◌, ◌+◌, ◌++◌, ◌∷◌, [], ℤ, List, unsigned_abs, arith, append_assoc, ap, sym, ◌∙◌, to_z, of_z}
use Rattle.std.specs.Int.{w32, w64}
use Rattle.std.proofs.lemmas.Int.{ints}
use Rattle.std.proofs.lemmas.List.FromFn.{map-range_with_len_more}
use Rattle.lbm_space.specs.Sum.{list_below}
use Rattle.lbm_cell.specs.Moments.{populations}
use Rattle.lbm_model.proofs.first.push_cell.Goals as goal

-- a small number survives the cast
cast_is : (z : ℤ) → unsigned_abs z < 2 ^ 28 → to_z w32 (of_z w32 (to_z w64 (of_z w64 z))) ≡ z
cast_is z small = omega (arith, ints)

pub loop-i-preserved : goal.loop-i-preserved
loop-i-preserved c =
    let f = populations c.args.f.now.f in
    let i = c.loop-i.i in
    let more : list_below (i + 1) f ≡ list_below i f ++ f i ∷ [] = map-range_with_len_more f 0 i i (omega arith) in
    c.in_ok-push.ensures.items
    ∙ ap (λ (z : ℤ). c.loop-i.pops.items ++ z ∷ []) (cast_is (f i) (c.requires.small i))
    ∙ ap (λ (xs : List ℤ). xs ++ f i ∷ []) c.loop-i.invariant
    ∙ append_assoc c.args.pops.now.items (list_below i f) (f i ∷ [])
    ∙ ap (λ (xs : List ℤ). c.args.pops.now.items ++ xs) (sym more)
