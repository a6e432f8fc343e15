-- `put_four` takes each of four places out of the patch, writes it, and puts it back, the last three by their distance from the
-- first. Assumes `Logic`.
use mathlib.Core.Path.{◌≡◌, refl, sym, ap, ◌∙◌}
use mathlib.Core.Bool.{true, false}
use Prim.Native.Nat.{ℕ, suc, ◌+◌, ◌*◌, ◌<◌}
use native.Mathlib.Omega.{arith}
use Rattle.std.proofs.Common.{lit<}
use mathlib.Core.List.{List, [], ◌∷◌, ◌++◌}
use lib.ListN.{length, get_or, set, length-set}
use base.Fraction.{full_share}
use mir.MapTy.{inst_fn}
use mir.Syntax.{w64}
use mir.Val.{Val, vunit, vint, vptr}
use prog.Wp.{WpFn}
use base.Fml.{ftrue, fat, flft}
use contract.BorrowLft.{◌⊑◌}
use contract.Monad.{fact}
use contract.Running.{tables}
use types.Kit.{‵, raw, prop, some, at_ret, ◌⊛◌, ◌$◌, ◌∵◌, !, qed, move, keep, drop, use1, split, join, fsplit3, fjoin, fjoin3, feq_i, pick, rewrite, regoal, suffices, done, use3}
use types.Part.{whole, sub, look_in}
use types.Run.{store, stop, fld, load, size_lit, unit_lit, of_opd, bin, lit, assigns, assigns_last, first, blocks, exec, returns, enter}
use types.ByLocal.{alloc_all, pass_all, free_all, look_at, get, through, sets, env}
use denote.Exit.{yes, no}
use denote.Builtin.{usize}
use denote.Memory.{cell_at}
use denote.RattleType.{owns}
use denote.Signature.{plain, types_at}
use denote.Steps.{heard, opens, closes}
use denote.Triple.Walked.{Stays, stay_dropped, stay_ref, walk_of, ends_at, Goes-dropped, Goes-ref}
use Rattle.std.proofs.raw_atomic.Walks.{proved_at}
use Rattle.std.proofs.VecSteps.Shapes.{after}
use Rattle.core.proofs.mem.Param.{El, R, args, elτ, lawful, one}
use Rattle.core.proofs.mem.Facts.{says_three}
use Rattle.core.proofs.slots.Opens.{row_val}
use Rattle.lbm_patch.proofs.Opened.{Of, Held, each, patch_at, lain, apart, together, none_left, within_reach}
use Rattle.lbm_patch.proofs.Spots.{cell_out, cell_in, cell_out_on, cell_in_on}
use Rattle.lbm_patch.specs.contracts.Patch.put_four.{ended, clauses}
use Rattle.lbm_patch.specs.contracts.Patch.put_four.Key.{name as key}
use Rattle.lbm_patch.proofs.Patch.put_four.Statement.{statement}
use Rattle.lbm_patch.proofs.Patch.put_four.Code as code

pub put_four_spec : {M : Type 1} → statement M
put_four_spec 𝓤 𝓛 𝓜 𝓡 wired T L =
    let E : El = record { row = T; laws = L } in let X = ended T in let c = clauses T 𝓛 𝓜.mem 𝓡.returns in
    let fn = inst_fn (args E) code.function in let 𝓣 = tables 𝓤 𝓛.H 𝓜 𝓡 𝓡.env in
    let Patched = plain (λ _. Of E) in let Number = plain (λ _. usize) in let Value = plain (λ _. R E) in
    let value = stay_dropped Value no in let gone = Goes-dropped 𝓛 2 Value no (λ κs x f. refl) in
    let left : Stays X.signature.params X.kept = (stay_ref (0 ∷ []) tt Patched, (stay_dropped Number yes, (value, (value, (value, (value, tt)))))) in
    proved_at 𝓛 X left c 𝓜 𝓡 (Goes-ref 𝓛 2 0 tt Patched, (Goes-dropped 𝓛 2 Number yes (λ κs x f. refl), (gone, (gone, (gone, (gone, tt))))))
    (key (args E)) fn (code.unfolded 𝓤 𝓛.H 𝓜 𝓡 wired (T, tt)) (λ z are.
    let rb = z.0.3.0.ref_ptr.0 in let ro = z.0.3.0.ref_ptr.1 in let a : Held E = z.0.3.0.now in let i : ℕ = z.0.3.1.0 in
    let ya = z.0.3.1.1.0 in let yb = z.0.3.1.1.1.0 in let yc = z.0.3.1.1.1.1.0 in let yd = z.0.3.1.1.1.1.1.0 in
    let n = a.len in let xs = a.items in let ms = a.mine in let s = each E in
    let Asked : Type 0 = (j : ℕ) → j < 4 → (i + j < n) × (get_or ms (i + j) false ≡ true) in
    let Post : Val → base.Logic.SProp 𝓤 = (walk_of 𝓛 X left c).post z in
    let wa = one E z.0.4.1.1.0 ((lawful E 𝓛).typed ya z.0.4.1.1.0 are.1.1.0) in let va : Val = wa.0 in
    let wb = one E z.0.4.1.1.1.0 ((lawful E 𝓛).typed yb z.0.4.1.1.1.0 are.1.1.1.0) in let vb : Val = wb.0 in
    let wc = one E z.0.4.1.1.1.1.0 ((lawful E 𝓛).typed yc z.0.4.1.1.1.1.0 are.1.1.1.1.0) in let vc : Val = wc.0 in
    let wd = one E z.0.4.1.1.1.1.1.0 ((lawful E 𝓛).typed yd z.0.4.1.1.1.1.1.0 are.1.1.1.1.1.0) in let vd : Val = wd.0 in
    let xa = set xs i ya in let xb = set xa (suc i) yb in let xc = set xb (suc (suc i)) yc in let xd = set xc (suc (suc (suc i))) yd in
    qed 𝓛 (((‵ (flft z.0.0.0 z.0.1.0) ⊛ ‵ (flft z.0.0.1.0 z.0.1.1.0) ⊛ ‵ ftrue) ⊛ ‵ (owns (types_at X.signature.params z.0.0) z.0.3 z.0.4)) ∷ (raw (fact 𝓤 (z.0.0.1.0 ⊑ T.lives)) ⊛ raw (fact 𝓤 Asked)) ∷ []) ∵
    move ! (1 ∷ []) $ split ! $ drop ! $ heard ! Asked (λ ok.
    let first_is : i + 0 ≡ i = omega arith in let second_is : i + 1 ≡ suc i = omega arith in let third_is : i + 2 ≡ suc (suc i) = omega arith in let fourth_is : i + 3 ≡ suc (suc (suc i)) = omega arith in
    let o0 = ok 0 (lit< tt) in let o1 = ok 1 (lit< tt) in let o2 = ok 2 (lit< tt) in let o3 = ok 3 (lit< tt) in
    let last = o3.0 in
    let la = length-set xs i ya in let lb = length-set xa (suc i) yb ∙ la in let lc = length-set xb (suc (suc i)) yc ∙ lb in let ld = length-set xc (suc (suc (suc i))) yd ∙ lc in
    let h0 : get_or ms i false ≡ true = sym (ap (λ (k : ℕ). get_or ms k false) first_is) ∙ o0.1 in
    let h1 : get_or ms (suc i) false ≡ true = sym (ap (λ (k : ℕ). get_or ms k false) second_is) ∙ o1.1 in
    let h2 : get_or ms (suc (suc i)) false ≡ true = sym (ap (λ (k : ℕ). get_or ms k false) third_is) ∙ o2.1 in
    let h3 : get_or ms (suc (suc (suc i))) false ≡ true = sym (ap (λ (k : ℕ). get_or ms k false) fourth_is) ∙ o3.1 in
    let im0 : i < length ms = omega (arith, last, a.ok.1) in let ix0 : i < length xs = omega (arith, last, a.ok.0) in
    let im1 : suc i < length ms = omega (arith, last, a.ok.1) in let ix1 : suc i < length xa = omega (arith, last, a.ok.0, la) in
    let im2 : suc (suc i) < length ms = omega (arith, last, a.ok.1) in let ix2 : suc (suc i) < length xb = omega (arith, last, a.ok.0, lb) in
    let im3 : suc (suc (suc i)) < length ms = omega (arith, last, a.ok.1) in let ix3 : suc (suc (suc i)) < length xc = omega (arith, last, a.ok.0, lc) in
    let on1 : suc i ≡ 1 + i = omega arith in let on2 : suc (suc i) ≡ 2 + i = omega arith in let on3 : suc (suc (suc i)) ≡ 3 + i = omega arith in
    split ! $ split ! $ move ! (2 ∷ []) $ fsplit3 ! $ move ! (2 ∷ []) $ fsplit3 ! $ move ! (2 ∷ []) $ fsplit3 ! $ keep ! (5 ∷ 3 ∷ 4 ∷ 0 ∷ 1 ∷ 7 ∷ 8 ∷ []) $ fsplit3 ! $
    regoal ! (λ (us : List Val). prop (WpFn 𝓤 𝓛.H 𝓣.C 𝓣.Λ fn us Post)) (λ k. are.0.0 k ++ (are.1.0.0 k ++ (wa.1 k ++ (wb.1 k ++ (wc.1 k ++ (wd.1 k ++ [])))))) refl $
    enter ! 𝓣.C 𝓣.Λ fn (vptr rb ro ∷ vint w64 i ∷ va ∷ vb ∷ vc ∷ vd ∷ []) Post $ alloc_all ! (λ l. pass_all ! refl ((tt, tt), ((tt, record { fits = are.1.0.1 }), (wa.2, (wb.2, (wc.2, (wd.2, tt)))))) $
    let here = env fn.locals l in
    -- [two parts of self; the token; self's first part; what the four values own; the other token]
    move ! (1 ∷ 2 ∷ 7 ∷ []) $ opens ! tt (Of E) {h = a} rb ro (λ us. move ! (1 ∷ []) $ apart E ! a us (λ b o at is fit.
    rewrite ! 1 (λ (ws : List Val). ‵ (cell_at full_share (Of E).mir ws rb ro)) is refl $ rewrite ! 6 (λ (ws : List Val). ‵ (T.own_val ya ws)) wa.1 refl $
    rewrite ! 7 (λ (ws : List Val). ‵ (T.own_val yb ws)) wb.1 refl $ rewrite ! 8 (λ (ws : List Val). ‵ (T.own_val yc ws)) wc.1 refl $ rewrite ! 9 (λ (ws : List Val). ‵ (T.own_val yd ws)) wd.1 refl $
    let reach = within_reach i n s (omega (arith, last)) fit in let reach1 = within_reach 1 n s (omega (arith, last)) fit in
    let reach2 = within_reach 2 n s (omega (arith, last)) fit in let reach3 = within_reach 3 n s (omega (arith, last)) fit in
    use1 𝓛 (some (λ (w : Val). ‵ (fat full_share (elτ E) b (i * s + o) w) ⊛ ‵ (lain E b o (set ms i false) xs))) (cell_out E 𝓛 b i o ms xs im0 ix0 h0 ya) $ pick ! (λ w. split ! $
    -- [the cell; the other places; the two words; the open borrow, in three; self's first part; what the values own that are still to be written; the other token]
    first ! $ blocks ! $
    sets ! (of_opd ! (load ! (through ! refl (fld ! refl (stop !))) (look_in ! 2 (sub ! 0 refl (whole !))))) refl (tt, tt) $
    sets ! (bin ! (get ! refl) (size_lit ! (record { fits = reach.0 })) (record { fits = reach.1 })) refl (tt, record { fits = reach.1 }) $
    sets ! (bin ! (get ! refl) (get ! refl) tt) refl (tt, tt) $ sets ! (of_opd ! (get ! refl)) refl wa.2 $
    assigns ! (of_opd ! (get ! refl)) (through ! refl (stop !)) (store ! 0 refl wa.2) $
    move ! (0 ∷ 7 ∷ []) $ use3 𝓛 (‵ (lain E b o ms xa)) (cell_in E 𝓛 b i o ms xs im0 ix0 h0 ya va) $
    use1 𝓛 (some (λ (w : Val). ‵ (fat full_share (elτ E) b (1 * s + (i * s + o)) w) ⊛ ‵ (lain E b o (set ms (suc i) false) xa))) (cell_out_on E 𝓛 b i 1 (suc i) o on1 ms xa im1 ix1 h1 yb) $ pick ! (λ w1. split ! $
    sets ! (bin ! (lit ! tt) (size_lit ! (record { fits = reach.0 })) (record { fits = reach1.1 })) refl (tt, record { fits = reach1.1 }) $
    sets ! (bin ! (get ! refl) (get ! refl) tt) refl (tt, tt) $ sets ! (of_opd ! (get ! refl)) refl wb.2 $
    assigns ! (of_opd ! (get ! refl)) (through ! refl (stop !)) (store ! 0 refl wb.2) $
    move ! (0 ∷ 7 ∷ []) $ use3 𝓛 (‵ (lain E b o ms xb)) (cell_in_on E 𝓛 b i 1 (suc i) o on1 ms xa im1 ix1 h1 yb vb) $
    use1 𝓛 (some (λ (w : Val). ‵ (fat full_share (elτ E) b (2 * s + (i * s + o)) w) ⊛ ‵ (lain E b o (set ms (suc (suc i)) false) xb))) (cell_out_on E 𝓛 b i 2 (suc (suc i)) o on2 ms xb im2 ix2 h2 yc) $ pick ! (λ w2. split ! $
    sets ! (bin ! (lit ! tt) (size_lit ! (record { fits = reach.0 })) (record { fits = reach2.1 })) refl (tt, record { fits = reach2.1 }) $
    sets ! (bin ! (get ! refl) (get ! refl) tt) refl (tt, tt) $ sets ! (of_opd ! (get ! refl)) refl wc.2 $
    assigns ! (of_opd ! (get ! refl)) (through ! refl (stop !)) (store ! 0 refl wc.2) $
    move ! (0 ∷ 7 ∷ []) $ use3 𝓛 (‵ (lain E b o ms xc)) (cell_in_on E 𝓛 b i 2 (suc (suc i)) o on2 ms xb im2 ix2 h2 yc vc) $
    use1 𝓛 (some (λ (w : Val). ‵ (fat full_share (elτ E) b (3 * s + (i * s + o)) w) ⊛ ‵ (lain E b o (set ms (suc (suc (suc i))) false) xc))) (cell_out_on E 𝓛 b i 3 (suc (suc (suc i))) o on3 ms xc im3 ix3 h3 yd) $ pick ! (λ w3. split ! $
    sets ! (bin ! (lit ! tt) (size_lit ! (record { fits = reach.0 })) (record { fits = reach3.1 })) refl (tt, record { fits = reach3.1 }) $
    sets ! (bin ! (get ! refl) (get ! refl) tt) refl (tt, tt) $ sets ! (of_opd ! (get ! refl)) refl wd.2 $
    assigns_last ! (of_opd ! (get ! refl)) (through ! refl (stop !)) (store ! 0 refl wd.2) $
    exec ! 𝓣.C 𝓣.Λ here (after 1 fn.body) (at_ret here Post) $ sets ! (of_opd ! (unit_lit !)) refl (tt, tt) $
    move ! (0 ∷ 7 ∷ []) $ use3 𝓛 (‵ (lain E b o ms xd)) (cell_in_on E 𝓛 b i 3 (suc (suc (suc i))) o on3 ms xc im3 ix3 h3 yd vd) $
    let long : (n ≡ length xd) × (n ≡ length ms) = (a.ok.0 ∙ sym ld, a.ok.1) in let new = patch_at E b o n ms xd long a.small in
    together E ! b o n ms xd long a.small fit $ move ! (1 ∷ 0 ∷ []) $ closes ! tt (Of E) new (row_val b o n ∷ []) rb ro $
    returns ! (look_at ! 0 refl) $ free_all ! refl $
    suffices ! _ (ends_at 𝓛 X left c z vunit tt (new, (tt, (tt, (tt, (tt, (tt, tt)))))) (tt, (tt, (tt, (tt, (tt, (tt, tt))))))) $ says_three ! (refl, refl, (sym at, refl)) $
    -- [two parts of self; the token; self's first part; the other token]
    move ! (2 ∷ 4 ∷ []) $ join ! $ move ! (3 ∷ 1 ∷ 2 ∷ []) $ fjoin3 ! $ none_left ! 5 $ move ! (1 ∷ 0 ∷ []) $ fjoin ! $
    feq_i ! _ (vunit ∷ []) _ refl $ keep ! (2 ∷ 1 ∷ 0 ∷ []) $ done !)))))))))
