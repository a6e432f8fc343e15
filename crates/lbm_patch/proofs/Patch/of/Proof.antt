-- `of` takes the words and the places of a row, and leaves its room. Assumes `Logic`.
use mathlib.Core.Path.{◌≡◌, refl, sym}
use mathlib.Core.List.{List, [], ◌∷◌, ◌++◌}
use mir.MapTy.{inst_fn}
use mir.Val.{Val, WT}
use prog.Wp.{WpFn}
use base.Fml.{ftrue, flft}
use contract.BorrowLft.{◌⊑◌}
use contract.Monad.{fact}
use contract.Running.{tables}
use types.Kit.{‵, raw, prop, given, later, at_ret, ◌⊛◌, ◌$◌, ◌∵◌, !, qed, move, keep, drop, use1, use2, split, join, fsplit, learn, await, regoal, suffices, done}
use types.Part.{whole, sub, agg}
use types.Run.{stop, fld, of_opd, and_then, no_more, first, blocks, exec, returns, enter}
use types.ByLocal.{alloc_all, pass_all, free_all, look_at, get, get_in, sets, sets_last, lands_as, env}
use denote.Exit.{no}
use denote.RattleType.{owns}
use denote.Signature.{plain, types_at}
use denote.Steps.{heard, nothing}
use denote.Triple.Call.{calls_at}
use denote.Triple.Walked.{Stays, stay_dropped, walk_of, ends_at, Goes-dropped}
use Rattle.std.proofs.raw_atomic.Walks.{proved_at}
use Rattle.std.proofs.VecSteps.Shapes.{after}
use Rattle.std_alloc.proofs.VecSteps.El.{El, no_al}
use Rattle.std_alloc.proofs.vec.Blocks.{el}
use Rattle.std_alloc.proofs.vec.Spares.{Row, Into, at_into, Into-goes, Into-gives}
use Rattle.core.proofs.atomic.Steps.{fm}
use Rattle.core.proofs.mem.Param.{args, R}
use Rattle.core.proofs.mem.Facts.{says_two}
use Rattle.core.proofs.slots.Opens.{row_val, row_had, row_made}
use Rattle.core.proofs.slots.Slots.into_raw_parts.Met as into_raw_parts
use Rattle.core.specs.Mem.Slots.{slots_items, slots_filled, slots_len, slots_counts, slots_small}
use Rattle.core.specs.Mem.Slots.Ownership.{slots}
use Rattle.lbm_patch.proofs.Opened.{patch_at, lain, together, none_left}
use Rattle.lbm_patch.proofs.Spots.{kept}
use Rattle.lbm_patch.specs.contracts.Patch.of.{ended, clauses}
use Rattle.lbm_patch.specs.contracts.Patch.of.Key.{name as key}
use Rattle.lbm_patch.proofs.Patch.of.Statement.{statement}
use Rattle.lbm_patch.proofs.Patch.of.Code as code
use denote.RawPtr.{block_ptr}

pub of_spec : {M : Type 1} → statement M
of_spec 𝓤 𝓛 𝓜 𝓡 wired T L =
    let S : El = record { row = T; laws = L; al = no_al } in let E = el S in let X = ended T in let c = clauses T 𝓛 𝓜.mem 𝓡.returns in
    let fn = inst_fn (args E) code.function in let 𝓣 = tables 𝓤 𝓛.H 𝓜 𝓡 𝓡.env in let Given = plain (λ _. Row S) in
    let left : Stays X.signature.params X.kept = (stay_dropped Given no, tt) in
    proved_at 𝓛 X left c 𝓜 𝓡 (Goes-dropped 𝓛 1 Given no (λ κs x f. refl), tt) (key (args E)) fn (code.unfolded 𝓤 𝓛.H 𝓜 𝓡 wired (T, tt)) (λ z are.
    let κ = z.0.0.0 in let q = z.0.1.0 in let row = z.0.3.0 in let n = slots_len row in let xs = slots_items row in let ms = slots_filled row in
    let Post : Val → base.Logic.SProp 𝓤 = (walk_of 𝓛 X left c).post z in
    qed 𝓛 (((‵ (flft κ q) ⊛ ‵ ftrue) ⊛ ‵ (owns (types_at X.signature.params z.0.0) z.0.3 z.0.4)) ∷ (raw (fact 𝓤 (κ ⊑ T.lives)) ⊛ ‵ ftrue) ∷ []) ∵
    move ! (1 ∷ []) $ split ! $ heard ! (κ ⊑ T.lives) (λ le. drop ! $ split ! $ split ! $ move ! (2 ∷ []) $ fsplit ! $
    row_had E ! row z.0.4.0 (λ b o at spelled low fit. row_made E ! row b o at low fit $ keep ! (0 ∷ 2 ∷ []) $
    let v : Val = row_val b o n in let typed : WT v = (tt, (record { fits = low }, tt)) in
    regoal ! (λ (us : List Val). prop (WpFn 𝓤 𝓛.H 𝓣.C 𝓣.Λ fn us Post)) (λ i. spelled i ++ []) refl $
    enter ! 𝓣.C 𝓣.Λ fn (v ∷ []) Post $ alloc_all ! (λ l. pass_all ! refl ((tt, typed), tt) $
    let here = env fn.locals l in let y = at_into S 𝓛 𝓜.mem 𝓡.returns κ q row b o in
    first ! $ blocks ! $ sets ! (of_opd ! (get ! refl)) refl (tt, typed) $
    use2 𝓛 (raw ((Into S 𝓛 𝓜.mem 𝓡.returns).pre y)) (Into-goes S 𝓛 𝓜.mem 𝓡.returns κ q row b o le) $
    calls_at ! (fm 𝓛 𝓜 𝓡) (Into S 𝓛 𝓜.mem 𝓡.returns) (into_raw_parts.met 𝓤 𝓛 𝓜 𝓡 (code.calls-core::slots::Slots::into_raw_parts 𝓡.env wired) T L) y
    (and_then ! (get ! refl) (no_more !)) (λ u.
    use1 𝓛 (later (given (u ≡ v) (‵ (slots (R E) (block_ptr b o) xs ms) ⊛ ‵ (flft κ q)))) (Into-gives S 𝓛 𝓜.mem 𝓡.returns κ q row b o u at) $
    await ! tt $ learn ! (λ same. split ! $ lands_as ! same refl (tt, typed) $
    sets ! (of_opd ! (get_in ! (fld ! refl (stop !)) (sub ! 0 refl (whole !)))) refl (tt, tt) $
    sets ! (of_opd ! (get_in ! (fld ! refl (stop !)) (sub ! 1 refl (whole !)))) refl (tt, record { fits = low }) $
    sets_last ! (agg ! (and_then ! (get ! refl) (and_then ! (get ! refl) (no_more !)))) refl (tt, typed) $
    exec ! 𝓣.C 𝓣.Λ here (after 1 fn.body) (at_ret here Post) $ sets ! (of_opd ! (get ! refl)) refl (tt, typed) $
    use1 𝓛 (‵ (lain E b o ms xs)) (kept E 𝓛 b o ms xs) $ together E ! b o n ms xs (slots_counts row) (slots_small row) fit $
    returns ! (look_at ! 0 refl) $ free_all ! refl $
    suffices ! _ (ends_at 𝓛 X left c z v (patch_at E b o n ms xs (slots_counts row) (slots_small row)) (tt, tt) (tt, tt)) $ says_two ! ((sym at, refl), (refl, refl)) $
    nothing ! $ move ! (2 ∷ 0 ∷ []) $ join ! $ none_left ! 1 $ move ! (1 ∷ 0 ∷ []) $ done !))))))
