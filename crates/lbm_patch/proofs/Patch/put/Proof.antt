-- `put` takes the place out of the patch, writes it, and puts it back. Assumes `Logic`.
use mathlib.Core.Path.{◌≡◌, refl, sym, ◌∙◌}
use mathlib.Core.Bool.{true, false}
use Prim.Native.Nat.{◌+◌, ◌*◌, ◌<◌}
use native.Mathlib.Omega.{arith}
use mathlib.Core.List.{List, [], ◌∷◌, ◌++◌}
use lib.ListN.{length, get_or, set, length-set}
use base.Fraction.{full_share}
use mir.MapTy.{inst_fn}
use mir.Syntax.{w64}
use mir.Val.{Val, vunit, vint, vptr}
use prog.Wp.{WpFn}
use base.Fml.{ftrue, fat, flft}
use contract.BorrowLft.{◌⊑◌}
use contract.Monad.{fact}
use contract.Running.{tables}
use types.Kit.{‵, raw, prop, some, at_ret, ◌⊛◌, ◌$◌, ◌∵◌, !, qed, move, keep, drop, use1, split, join, fsplit, fsplit3, fjoin, fjoin3, feq_i, pick, rewrite, regoal, suffices, done, use3}
use types.Part.{whole, sub, look_in}
use types.Run.{store, stop, fld, load, size_lit, unit_lit, of_opd, bin, assigns_last, first, blocks, exec, returns, enter}
use types.ByLocal.{alloc_all, pass_all, free_all, look_at, get, through, sets, env}
use denote.Exit.{yes, no}
use denote.Builtin.{usize}
use denote.Memory.{cell_at}
use denote.RattleType.{owns}
use denote.Signature.{plain, types_at}
use denote.Steps.{heard, opens, closes}
use denote.Triple.Walked.{Stays, stay_dropped, stay_ref, walk_of, ends_at, Goes-dropped, Goes-ref}
use Rattle.std.proofs.raw_atomic.Walks.{proved_at}
use Rattle.std.proofs.VecSteps.Shapes.{after}
use Rattle.core.proofs.mem.Param.{El, R, args, elτ, lawful, one}
use Rattle.core.proofs.mem.Facts.{says_three}
use Rattle.core.proofs.slots.Opens.{row_val}
use Rattle.lbm_patch.proofs.Opened.{Of, Held, each, patch_at, lain, apart, together, none_left, within_reach}
use Rattle.lbm_patch.proofs.Spots.{cell_out, cell_in}
use Rattle.lbm_patch.specs.contracts.Patch.put.{ended, clauses}
use Rattle.lbm_patch.specs.contracts.Patch.put.Key.{name as key}
use Rattle.lbm_patch.proofs.Patch.put.Statement.{statement}
use Rattle.lbm_patch.proofs.Patch.put.Code as code

pub put_spec : {M : Type 1} → statement M
put_spec 𝓤 𝓛 𝓜 𝓡 wired T L =
    let E : El = record { row = T; laws = L } in let X = ended T in let c = clauses T 𝓛 𝓜.mem 𝓡.returns in
    let fn = inst_fn (args E) code.function in let 𝓣 = tables 𝓤 𝓛.H 𝓜 𝓡 𝓡.env in
    let Patched = plain (λ _. Of E) in let Number = plain (λ _. usize) in let Value = plain (λ _. R E) in
    let left : Stays X.signature.params X.kept = (stay_ref (0 ∷ []) tt Patched, (stay_dropped Number yes, (stay_dropped Value no, tt))) in
    proved_at 𝓛 X left c 𝓜 𝓡 (Goes-ref 𝓛 2 0 tt Patched, (Goes-dropped 𝓛 2 Number yes (λ κs x f. refl), (Goes-dropped 𝓛 2 Value no (λ κs x f. refl), tt)))
    (key (args E)) fn (code.unfolded 𝓤 𝓛.H 𝓜 𝓡 wired (T, tt)) (λ z are.
    let rb = z.0.3.0.ref_ptr.0 in let ro = z.0.3.0.ref_ptr.1 in let a : Held E = z.0.3.0.now in let i = z.0.3.1.0 in let y = z.0.3.1.1.0 in
    let n = a.len in let xs = a.items in let ms = a.mine in let s = each E in
    let Asked : Type 0 = (i < n) × (get_or ms i false ≡ true) in
    let Post : Val → base.Logic.SProp 𝓤 = (walk_of 𝓛 X left c).post z in
    let word = one E z.0.4.1.1.0 ((lawful E 𝓛).typed y z.0.4.1.1.0 are.1.1.0) in let v : Val = word.0 in
    qed 𝓛 (((‵ (flft z.0.0.0 z.0.1.0) ⊛ ‵ (flft z.0.0.1.0 z.0.1.1.0) ⊛ ‵ ftrue) ⊛ ‵ (owns (types_at X.signature.params z.0.0) z.0.3 z.0.4)) ∷ (raw (fact 𝓤 (z.0.0.1.0 ⊑ T.lives)) ⊛ raw (fact 𝓤 Asked)) ∷ []) ∵
    move ! (1 ∷ []) $ split ! $ drop ! $ heard ! Asked (λ ok.
    let im : i < length ms = omega (arith, ok.0, a.ok.1) in let ix : i < length xs = omega (arith, ok.0, a.ok.0) in
    split ! $ split ! $ move ! (2 ∷ []) $ fsplit3 ! $ move ! (2 ∷ []) $ fsplit ! $ keep ! (2 ∷ 0 ∷ 4 ∷ 5 ∷ []) $ fsplit3 ! $
    regoal ! (λ (us : List Val). prop (WpFn 𝓤 𝓛.H 𝓣.C 𝓣.Λ fn us Post)) (λ k. are.0.0 k ++ (are.1.0.0 k ++ (word.1 k ++ []))) refl $
    enter ! 𝓣.C 𝓣.Λ fn (vptr rb ro ∷ vint w64 i ∷ v ∷ []) Post $ alloc_all ! (λ l. pass_all ! refl ((tt, tt), ((tt, record { fits = are.1.0.1 }), (word.2, tt))) $
    let here = env fn.locals l in
    -- [two parts of self; the token; self's first part; what y owns; the other token]
    move ! (1 ∷ 2 ∷ 4 ∷ []) $ opens ! tt (Of E) {h = a} rb ro (λ us. move ! (1 ∷ []) $ apart E ! a us (λ b o at is fit.
    rewrite ! 1 (λ (ws : List Val). ‵ (cell_at full_share (Of E).mir ws rb ro)) is refl $ rewrite ! 6 (λ (ws : List Val). ‵ (T.own_val y ws)) word.1 refl $
    let reach = within_reach i n s ok.0 fit in
    use1 𝓛 (some (λ (w : Val). ‵ (fat full_share (elτ E) b (i * s + o) w) ⊛ ‵ (lain E b o (set ms i false) xs))) (cell_out E 𝓛 b i o ms xs im ix ok.1 y) $ pick ! (λ w. split ! $
    -- [the cell; the other places; the two words; the open borrow, in three; self's first part; what y owns; the other token]
    first ! $ blocks ! $
    sets ! (of_opd ! (load ! (through ! refl (fld ! refl (stop !))) (look_in ! 2 (sub ! 0 refl (whole !))))) refl (tt, tt) $
    sets ! (bin ! (get ! refl) (size_lit ! (record { fits = reach.0 })) (record { fits = reach.1 })) refl (tt, record { fits = reach.1 }) $
    sets ! (bin ! (get ! refl) (get ! refl) tt) refl (tt, tt) $ sets ! (of_opd ! (get ! refl)) refl word.2 $
    assigns_last ! (of_opd ! (get ! refl)) (through ! refl (stop !)) (store ! 0 refl word.2) $
    exec ! 𝓣.C 𝓣.Λ here (after 1 fn.body) (at_ret here Post) $ sets ! (of_opd ! (unit_lit !)) refl (tt, tt) $
    move ! (0 ∷ 7 ∷ []) $ use3 𝓛 (‵ (lain E b o ms (set xs i y))) (cell_in E 𝓛 b i o ms xs im ix ok.1 y v) $
    let long : (n ≡ length (set xs i y)) × (n ≡ length ms) = (a.ok.0 ∙ sym (length-set xs i y), a.ok.1) in let new = patch_at E b o n ms (set xs i y) long a.small in
    together E ! b o n ms (set xs i y) long a.small fit $ move ! (1 ∷ 0 ∷ []) $ closes ! tt (Of E) new (row_val b o n ∷ []) rb ro $
    returns ! (look_at ! 0 refl) $ free_all ! refl $
    suffices ! _ (ends_at 𝓛 X left c z vunit tt (new, (tt, (tt, tt))) (tt, (tt, (tt, tt)))) $ says_three ! (refl, refl, (sym at, refl)) $
    -- [two parts of self; the token; self's first part; the other token]
    move ! (2 ∷ 4 ∷ []) $ join ! $ move ! (3 ∷ 1 ∷ 2 ∷ []) $ fjoin3 ! $ none_left ! 2 $ move ! (1 ∷ 0 ∷ []) $ fjoin ! $
    feq_i ! _ (vunit ∷ []) _ refl $ keep ! (2 ∷ 1 ∷ 0 ∷ []) $ done !))))))
