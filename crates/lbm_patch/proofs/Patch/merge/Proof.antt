-- `merge` keeps the words of one patch, and the places of both. Assumes `Logic`.
use mathlib.Core.Path.{◌≡◌, refl, sym, ◌∙◌}
use mathlib.Core.List.{List, [], ◌∷◌, ◌++◌}
use mir.MapTy.{inst_fn}
use mir.Val.{Val, WT}
use prog.Wp.{WpFn}
use contract.BorrowLft.{◌⊑◌}
use contract.Monad.{fact}
use contract.Running.{tables}
use types.Kit.{‵, raw, prop, ◌⊛◌, ◌$◌, ◌∵◌, !, qed, move, keep, drop, use2, split, rewrite, fsplit, regoal, suffices, done}
use types.Part.{whole, sub, agg}
use types.Run.{stop, fld, of_opd, and_then, no_more, returns, enter}
use types.ByLocal.{alloc_all, pass_all, free_all, look_at, get, get_in, sets}
use denote.Exit.{no}
use denote.RattleType.{owns}
use denote.RawPtr.{Ptr}
use denote.Signature.{plain, types_at}
use denote.Steps.{heard}
use denote.Triple.Entry.{alive}
use denote.Triple.Walked.{Stays, stay_dropped, walk_of, ends_at, Goes-dropped}
use Rattle.std.proofs.raw_atomic.Walks.{proved_at}
use Rattle.core.proofs.mem.Param.{El, R, args}
use Rattle.core.proofs.mem.Facts.{says_three}
use Rattle.core.proofs.slots.Opens.{row_val}
use lib.ListN.{length}
use Rattle.lbm_patch.specs.Masks.{either, picked}
use Rattle.lbm_patch.specs.Ownership.{spots}
use Rattle.lbm_patch.proofs.Lengths.{length-either, length-picked}
use Rattle.lbm_patch.proofs.Opened.{Of, Held, patch_at, lain, apart, together, none_left}
use Rattle.lbm_patch.proofs.Spots.{met}
use Rattle.lbm_patch.specs.contracts.Patch.merge.{ended, clauses}
use Rattle.lbm_patch.specs.contracts.Patch.merge.Key.{name as key}
use Rattle.lbm_patch.proofs.Patch.merge.Statement.{statement}
use Rattle.lbm_patch.proofs.Patch.merge.Code as code

pub merge_spec : {M : Type 1} → statement M
merge_spec 𝓤 𝓛 𝓜 𝓡 wired T L =
    let E : El = record { row = T; laws = L } in let X = ended T in let c = clauses T 𝓛 𝓜.mem 𝓡.returns in
    let fn = inst_fn (args E) code.function in let 𝓣 = tables 𝓤 𝓛.H 𝓜 𝓡 𝓡.env in let Patched = plain (λ _. Of E) in
    let left : Stays X.signature.params X.kept = (stay_dropped Patched no, (stay_dropped Patched no, tt)) in
    let gone = Goes-dropped 𝓛 1 Patched no (λ κs x f. refl) in
    proved_at 𝓛 X left c 𝓜 𝓡 (gone, (gone, tt)) (key (args E)) fn (code.unfolded 𝓤 𝓛.H 𝓜 𝓡 wired (T, tt)) (λ z are.
    let a : Held E = z.0.3.0 in let a' : Held E = z.0.3.1.0 in let n = a.len in let ms = a.mine in let gs = a'.mine in let xs = a.items in let ys = a'.items in
    let One : Type 0 = (a'.ptr ≡ a.ptr) × (a'.len ≡ a.len) in
    qed 𝓛 ((raw (alive 𝓛 X.signature z.0.0 z.0.1) ⊛ ‵ (owns (types_at X.signature.params z.0.0) z.0.3 z.0.4)) ∷ (raw (fact 𝓤 (z.0.0.0 ⊑ T.lives)) ⊛ raw (fact 𝓤 One)) ∷ []) ∵
    move ! (1 ∷ []) $ split ! $ drop ! $ heard ! One (λ same. split ! $ move ! (1 ∷ []) $ fsplit ! $
    apart E ! a z.0.4.0 (λ b o at is fit. move ! (1 ∷ []) $ fsplit ! $ apart E ! a' z.0.4.1.0 (λ b' o' at' is' fit'.
    -- [the other's places; no more; the places; the tokens]
    rewrite ! 0 (λ (p : Ptr). ‵ (spots (R E) p gs ys)) (sym at' ∙ same.0 ∙ at) refl $ keep ! (2 ∷ 0 ∷ 3 ∷ []) $
    let v : Val = row_val b o n in let typed : WT v = (tt, (record { fits = a.small }, tt)) in let long : (n ≡ length (picked ms xs ys)) × (n ≡ length (either ms gs)) = (sym same.1 ∙ a'.ok.0 ∙ sym (length-picked ms xs ys), a.ok.1 ∙ sym (length-either ms gs)) in
    use2 𝓛 (‵ (lain E b o (either ms gs) (picked ms xs ys))) (met E 𝓛 b o ms gs xs ys (sym a.ok.1 ∙ a.ok.0, sym a'.ok.1 ∙ same.1 ∙ a.ok.0, sym a'.ok.0 ∙ same.1 ∙ a.ok.0)) $
    together E ! b o n (either ms gs) (picked ms xs ys) long a.small fit $
    regoal ! (λ (us : List Val). prop (WpFn 𝓤 𝓛.H 𝓣.C 𝓣.Λ fn us ((walk_of 𝓛 X left c).post z))) (λ i. is i ++ (is' i ++ [])) refl $
    enter ! 𝓣.C 𝓣.Λ fn (v ∷ row_val b' o' a'.len ∷ []) _ $ alloc_all ! (λ l. pass_all ! refl ((tt, typed), ((tt, (tt, (record { fits = a'.small }, tt))), tt)) $
    sets ! (of_opd ! (get_in ! (fld ! refl (stop !)) (sub ! 0 refl (whole !)))) refl (tt, tt) $
    sets ! (of_opd ! (get_in ! (fld ! refl (stop !)) (sub ! 1 refl (whole !)))) refl (tt, record { fits = a.small }) $
    sets ! (agg ! (and_then ! (get ! refl) (and_then ! (get ! refl) (no_more !)))) refl (tt, typed) $
    returns ! (look_at ! 0 refl) $ free_all ! refl $
    suffices ! _ (ends_at 𝓛 X left c z v (patch_at E b o n (either ms gs) (picked ms xs ys) long a.small) (tt, (tt, tt)) (tt, (tt, tt))) $
    says_three ! ((sym at, refl), refl, refl) $
    none_left ! 2 $ move ! (2 ∷ 0 ∷ []) $ done !)))))
