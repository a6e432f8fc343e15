-- `into_slots` gives the words, and the places, which are all of the row's. Assumes `Logic`.
use mathlib.Core.Path.{◌≡◌, refl, sym, ◌∙◌}
use mathlib.Core.List.{List, [], ◌∷◌, ◌++◌}
use native.Mathlib.Omega.{arith}
use mir.MapTy.{inst_fn}
use mir.Val.{Val, WT}
use prog.Wp.{WpFn}
use base.Fml.{ftrue, flft}
use contract.BorrowLft.{◌⊑◌}
use contract.Monad.{fact}
use contract.Running.{tables}
use types.Kit.{‵, raw, prop, some, given, later, at_ret, ◌⊛◌, ◌$◌, ◌∵◌, !, qed, move, keep, use1, use2, split, join, fsplit, pick, learn, await, regoal, suffices, done}
use types.Part.{whole, sub}
use types.Run.{stop, fld, of_opd, and_then, no_more, first, blocks, exec, returns, enter}
use types.ByLocal.{alloc_all, pass_all, free_all, look_at, get, get_in, sets, is, lands_last, env}
use denote.Exit.{no}
use denote.RattleType.{owns}
use denote.RawPtr.{block_ptr}
use denote.Signature.{plain, types_at}
use denote.Steps.{heard, nothing}
use denote.Triple.Call.{calls_at_last}
use denote.Triple.Walked.{Stays, stay_dropped, walk_of, ends_at, Goes-dropped}
use Rattle.std.proofs.raw_atomic.Walks.{proved_at}
use Rattle.std.proofs.VecSteps.Shapes.{after}
use Rattle.std_alloc.proofs.VecSteps.El.{El, no_al}
use Rattle.std_alloc.proofs.vec.Blocks.{el}
use Rattle.std_alloc.proofs.vec.Spares.{Row, From, at_from, Made, from_goes, from_gives, row_Typed}
use Rattle.core.proofs.atomic.Steps.{fm}
use Rattle.core.proofs.mem.Param.{args, R}
use Rattle.core.proofs.mem.Facts.{says_two}
use Rattle.core.proofs.slots.Opens.{row_val}
use Rattle.core.proofs.slots.Slots.from_raw_parts.Met as from_raw_parts
use Rattle.core.specs.Mem.Slots.Ownership.{slots, Filled}
use Rattle.lbm_patch.proofs.Opened.{Of, Held, apart, none_left}
use Rattle.lbm_patch.proofs.Spots as spots
use Rattle.lbm_patch.specs.contracts.Patch.into_slots.{ended, clauses}
use Rattle.lbm_patch.specs.contracts.Patch.into_slots.Key.{name as key}
use Rattle.lbm_patch.proofs.Patch.into_slots.Statement.{statement}
use Rattle.lbm_patch.proofs.Patch.into_slots.Code as code

pub into_slots_spec : {M : Type 1} → statement M
into_slots_spec 𝓤 𝓛 𝓜 𝓡 wired T L =
    let S : El = record { row = T; laws = L; al = no_al } in let E = el S in let X = ended T in let c = clauses T 𝓛 𝓜.mem 𝓡.returns in
    let fn = inst_fn (args E) code.function in let 𝓣 = tables 𝓤 𝓛.H 𝓜 𝓡 𝓡.env in let Patched = plain (λ _. Of E) in
    let left : Stays X.signature.params X.kept = (stay_dropped Patched no, tt) in
    proved_at 𝓛 X left c 𝓜 𝓡 (Goes-dropped 𝓛 1 Patched no (λ κs x f. refl), tt) (key (args E)) fn (code.unfolded 𝓤 𝓛.H 𝓜 𝓡 wired (T, tt)) (λ z are.
    let κ = z.0.0.0 in let q = z.0.1.0 in let a : Held E = z.0.3.0 in let n = a.len in let xs = a.items in let ms = a.mine in
    let Post : Val → base.Logic.SProp 𝓤 = (walk_of 𝓛 X left c).post z in
    qed 𝓛 (((‵ (flft κ q) ⊛ ‵ ftrue) ⊛ ‵ (owns (types_at X.signature.params z.0.0) z.0.3 z.0.4)) ∷ (raw (fact 𝓤 (κ ⊑ T.lives)) ⊛ raw (fact 𝓤 (Filled ms 0 n))) ∷ []) ∵
    move ! (1 ∷ []) $ split ! $ heard ! (κ ⊑ T.lives) (λ le. heard ! (Filled ms 0 n) (λ full. split ! $ split ! $ move ! (2 ∷ []) $ fsplit ! $
    apart E ! a z.0.4.0 (λ b o at spelled fit. keep ! (0 ∷ 2 ∷ []) $
    let v : Val = row_val b o n in let typed : WT v = (tt, (record { fits = a.small }, tt)) in
    use1 𝓛 (‵ (slots (R E) (block_ptr b o) xs ms)) (spots.whole E 𝓛 b o ms xs (λ k lt. full k (omega arith) (omega (arith, lt, a.ok.0)))) $
    regoal ! (λ (us : List Val). prop (WpFn 𝓤 𝓛.H 𝓣.C 𝓣.Λ fn us Post)) (λ i. spelled i ++ []) refl $
    enter ! 𝓣.C 𝓣.Λ fn (v ∷ []) Post $ alloc_all ! (λ l. pass_all ! refl ((tt, typed), tt) $
    let here = env fn.locals l in let y = at_from S 𝓛 𝓜.mem 𝓡.returns κ q b o n xs ms in
    sets ! (of_opd ! (get_in ! (fld ! refl (stop !)) (sub ! 0 refl (whole !)))) refl (tt, tt) $
    sets ! (of_opd ! (get_in ! (fld ! refl (stop !)) (sub ! 1 refl (whole !)))) refl (tt, record { fits = a.small }) $
    first ! $ blocks ! $
    use2 𝓛 (raw ((From S 𝓛 𝓜.mem 𝓡.returns).pre y)) (from_goes S 𝓛 𝓜.mem 𝓡.returns κ q b o n xs ms le a.ok.0 a.ok.1 a.small fit) $
    calls_at_last ! (fm 𝓛 𝓜 𝓡) (From S 𝓛 𝓜.mem 𝓡.returns) (from_raw_parts.met 𝓤 𝓛 𝓜 𝓡 (code.calls-core::slots::Slots::from_raw_parts 𝓡.env wired) T L) y
    (and_then ! (get ! refl) (and_then ! (get ! refl) (no_more !))) (λ u.
    use1 𝓛 (later (some (λ (row : (Row S).Denot). given ((u ≡ v) × Made S 𝓛 𝓜.mem 𝓡.returns κ q b o n xs ms row) (‵ ((Row S).own_val row (v ∷ [])) ⊛ ‵ (flft κ q))))) (from_gives S 𝓛 𝓜.mem 𝓡.returns κ q b o n xs ms u) $
    await ! tt $ pick ! (λ row. learn ! (λ made. split ! $
    lands_last ! refl (row_Typed S u b o n made.0 a.small) $ exec ! 𝓣.C 𝓣.Λ here (after 3 fn.body) (at_ret here Post) $
    sets ! (is ! (of_opd ! (get ! refl)) made.0) refl (tt, typed) $ returns ! (look_at ! 0 refl) $ free_all ! refl $
    suffices ! _ (ends_at 𝓛 X left c z v row (tt, tt) (tt, tt)) $ says_two ! ((made.1.0 ∙ sym at, made.1.1), (made.1.2, made.1.3)) $
    nothing ! $ move ! (2 ∷ 0 ∷ []) $ join ! $ none_left ! 1 $ move ! (1 ∷ 0 ∷ []) $ done !))))))))
