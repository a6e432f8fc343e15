-- `split` copies two words twice, and the places are dealt out between the copies. Assumes `Logic`.
use mathlib.Core.Path.{◌≡◌, refl, sym, ◌∙◌}
use mathlib.Core.List.{List, [], ◌∷◌, ◌++◌}
use mir.MapTy.{inst_fn}
use mir.Val.{Val, WT, vint}
use mir.Syntax.{w64}
use prog.Wp.{WpFn}
use contract.Running.{tables}
use types.Kit.{‵, raw, prop, ◌⊛◌, ◌$◌, ◌∵◌, !, qed, move, keep, use1, use2, split, fsplit, regoal, suffices, done}
use types.Part.{whole, sub, agg}
use types.Run.{stop, fld, of_opd, and_then, no_more, returns, enter}
use types.ByLocal.{alloc_all, pass_all, free_all, look_at, get, get_in, sets}
use denote.Exit.{yes, no}
use denote.Builtin.{usize, SliceRefOf}
use denote.RattleType.{owns}
use denote.Signature.{plain, types_at}
use denote.Slice.{slice_val}
use denote.Struct.Tuple.{Tuple}
use denote.Triple.Entry.{alive}
use denote.Triple.Walked.{Stays, stay_dropped, walk_of, ends_at, Goes-dropped}
use Rattle.std.proofs.raw_atomic.Walks.{proved_at}
use Rattle.std_alloc.proofs.Pairs.{pair_of, pair_val}
use Rattle.core.proofs.mem.Param.{El, args}
use Rattle.core.proofs.mem.Facts.{says_two}
use Rattle.core.proofs.slots.Opens.{row_val}
use lib.ListN.{length}
use Rattle.lbm_patch.specs.Masks.{both, without, mask}
use Rattle.lbm_patch.proofs.Lengths.{length-both, length-without}
use Rattle.lbm_patch.proofs.Opened.{Of, Held, patch_at, lain, apart, together, none_left}
use Rattle.lbm_patch.proofs.Spots.{dealt}
use Rattle.lbm_patch.specs.contracts.Patch.split.{ended, clauses}
use Rattle.lbm_patch.specs.contracts.Patch.split.Key.{name as key}
use Rattle.lbm_patch.proofs.Patch.split.Statement.{statement}
use Rattle.lbm_patch.proofs.Patch.split.Code as code

pub split_spec : {M : Type 1} → statement M
split_spec 𝓤 𝓛 𝓜 𝓡 wired T L =
    let E : El = record { row = T; laws = L } in let X = ended T in let c = clauses T 𝓛 𝓜.mem 𝓡.returns in
    let fn = inst_fn (args E) code.function in let 𝓣 = tables 𝓤 𝓛.H 𝓜 𝓡 𝓡.env in
    let Patched = plain (λ _. Of E) in let Number = plain (λ _. usize) in let Numbers = SliceRefOf (0 ∷ []) tt Number (λ _. tt) in
    let left : Stays X.signature.params X.kept = (stay_dropped Patched no, (stay_dropped Numbers yes, (stay_dropped Number yes, (stay_dropped Number yes, tt)))) in
    let number = Goes-dropped 𝓛 2 Number yes (λ κs x f. refl) in
    proved_at 𝓛 X left c 𝓜 𝓡 (Goes-dropped 𝓛 2 Patched no (λ κs x f. refl), (Goes-dropped 𝓛 2 Numbers yes (λ κs x f. refl), (number, (number, tt))))
    (key (args E)) fn (code.unfolded 𝓤 𝓛.H 𝓜 𝓡 wired (T, tt)) (λ z are.
    let a : Held E = z.0.3.0 in let n = a.len in let ms = a.mine in let xs = a.items in let firsts = z.0.3.1.0 in let lo = z.0.3.1.1.0 in let hi = z.0.3.1.1.1.0 in
    let gs = mask firsts.now lo hi n in
    let in_gs : (n ≡ length xs) × (n ≡ length (both ms gs)) = (a.ok.0, a.ok.1 ∙ sym (length-both ms gs)) in
    let outside : (n ≡ length xs) × (n ≡ length (without ms gs)) = (a.ok.0, a.ok.1 ∙ sym (length-without ms gs)) in
    qed 𝓛 ((raw (alive 𝓛 X.signature z.0.0 z.0.1) ⊛ ‵ (owns (types_at X.signature.params z.0.0) z.0.3 z.0.4)) ∷ raw ((c z.0.0 z.0.3).requires z.1) ∷ []) ∵
    split ! $ move ! (1 ∷ []) $ fsplit ! $ apart E ! a z.0.4.0 (λ b o at is fit. keep ! (0 ∷ 2 ∷ []) $
    let v : Val = row_val b o n in let typed : WT v = (tt, (record { fits = a.small }, tt)) in let one = patch_at E b o n (both ms gs) xs in_gs a.small in let two = patch_at E b o n (without ms gs) xs outside a.small in
    -- the places
    use1 𝓛 (‵ (lain E b o (both ms gs) xs) ⊛ ‵ (lain E b o (without ms gs) xs)) (dealt E 𝓛 b o ms gs xs) $ split ! $ together E ! b o n (both ms gs) xs in_gs a.small fit $
    move ! (1 ∷ []) $ together E ! b o n (without ms gs) xs outside a.small fit $ move ! (1 ∷ 0 ∷ []) $
    use2 𝓛 (‵ ((Tuple (Of E ∷ Of E ∷ [])).own_val (one, two) (pair_val v v ∷ []))) (pair_of 𝓛 (Of E) (Of E) one two v v) $
    -- the code
    regoal ! (λ (us : List Val). prop (WpFn 𝓤 𝓛.H 𝓣.C 𝓣.Λ fn us ((walk_of 𝓛 X left c).post z))) (λ i. is i ++ (are.1.0.0.0 i ++ (are.1.1.0.0 i ++ (are.1.1.1.0.0 i ++ [])))) refl $
    enter ! 𝓣.C 𝓣.Λ fn (v ∷ slice_val firsts.ref_ptr (length firsts.now) ∷ vint w64 lo ∷ vint w64 hi ∷ []) _ $
    alloc_all ! (λ l. pass_all ! refl ((tt, typed), ((tt, (tt, (record { fits = are.1.0.0.1.0 }, tt))), ((tt, record { fits = are.1.1.0.1 }), ((tt, record { fits = are.1.1.1.0.1 }), tt)))) $
    sets ! (of_opd ! (get_in ! (fld ! refl (stop !)) (sub ! 0 refl (whole !)))) refl (tt, tt) $
    sets ! (of_opd ! (get_in ! (fld ! refl (stop !)) (sub ! 1 refl (whole !)))) refl (tt, record { fits = a.small }) $
    sets ! (agg ! (and_then ! (get ! refl) (and_then ! (get ! refl) (no_more !)))) refl (tt, typed) $
    sets ! (agg ! (and_then ! (get ! refl) (and_then ! (get ! refl) (no_more !)))) refl (tt, typed) $
    sets ! (agg ! (and_then ! (get ! refl) (and_then ! (get ! refl) (no_more !)))) refl (tt, (typed, (typed, tt))) $
    returns ! (look_at ! 0 refl) $ free_all ! refl $
    suffices ! _ (ends_at 𝓛 X left c z (pair_val v v) (one, two) (tt, (tt, (tt, (tt, tt)))) (tt, (tt, (tt, (tt, tt))))) $
    says_two ! ((sym at, refl, refl, refl), (sym at, refl, refl, refl)) $
    none_left ! 4 $ move ! (2 ∷ 0 ∷ []) $ done !)))
