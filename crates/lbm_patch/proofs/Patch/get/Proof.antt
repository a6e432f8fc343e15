-- `get` hands on the `&` to a value that a `&` to a patch holds, as one to a `Slots` does. Assumes `Logic`.
use mathlib.Core.Path.{◌≡◌, refl}
use mathlib.Core.Bool.{true, false}
use Prim.Native.Nat.{◌+◌, ◌*◌, ◌<◌}
use native.Mathlib.Omega.{arith}
use mathlib.Core.List.{[], ◌∷◌}
use lib.ListN.{length, get_or}
use mir.MapTy.{inst_fn}
use mir.Syntax.{w64, named}
use mir.Val.{Val, vint, vptr}
use base.Logic.{id⊢}
use base.Fml.{ftrue, flft}
use contract.BorrowLft.{◌⊑◌}
use contract.Monad.{fact}
use contract.Running.{tables}
use types.Kit.{‵, raw, at_ret, ◌⊛◌, ◌$◌, ◌∵◌, !, qed, move, keep, drop, split, join, fsplit, fjoin, feq_i, suffices, done}
use types.Run.{look, stop, fld, load, addr, size_lit, of_opd, bin, first, blocks, exec, returns, enter}
use types.ByLocal.{alloc_all, pass_all, free_all, look_at, get, through, sets, sets_last, env}
use denote.Exit.{yes}
use denote.Builtin.{usize, RefOf}
use denote.Plain.{uint_vals, uint_Tells}
use denote.RattleType.{owns}
use denote.Ref.{shr_vals, shr_Tells}
use denote.Signature.{plain, types_at}
use denote.Steps.{heard}
use denote.Triple.Walked.{says, Stays, stay_dropped, walk_of, ends_at, Goes-dropped}
use Rattle.std.proofs.raw_atomic.Walks.{proved}
use Rattle.std.proofs.VecSteps.Shapes.{after}
use Rattle.core.proofs.mem.Param.{El, args, el_x}
use Rattle.core.proofs.slice.Lists.{hd, any-default}
use Rattle.core.proofs.slots.Lent.{pointer_in, pointer_out}
use Rattle.lbm_patch.proofs.Opened.{Of, Held, each, shown, none_left, within_reach}
use Rattle.lbm_patch.specs.contracts.Patch.get.{ended, clauses}
use Rattle.lbm_patch.specs.contracts.Patch.get.Key.{name as key}
use Rattle.lbm_patch.proofs.Patch.get.Statement.{statement}
use Rattle.lbm_patch.proofs.Patch.get.Code as code

pub get_spec : {M : Type 1} → statement M
get_spec 𝓤 𝓛 𝓜 𝓡 wired T L =
    let E : El = record { row = T; laws = L } in let X = ended T in let c = clauses T 𝓛 𝓜.mem 𝓡.returns in
    let fn = inst_fn (args E) code.function in let 𝓣 = tables 𝓤 𝓛.H 𝓜 𝓡 𝓡.env in
    let Self = RefOf (0 ∷ []) tt (plain (λ _. Of E)) (λ _. tt) in let Number = plain (λ _. usize) in
    let left : Stays X.signature.params X.kept = (stay_dropped Self yes, (stay_dropped Number yes, tt)) in
    proved 𝓛 X left c 𝓜 𝓡 (Goes-dropped 𝓛 2 Self yes (λ κs x f. refl), (Goes-dropped 𝓛 2 Number yes (λ κs x f. refl), tt))
    (key (args E)) fn (code.unfolded 𝓤 𝓛.H 𝓜 𝓡 wired (T, tt))
    (λ κs. (shr_vals, (uint_vals w64, tt))) (λ κs. (shr_Tells (named 0) κs.0 (Of E), (uint_Tells w64, tt))) (λ κs qs bounds args g are.
    let κ = κs.0 in let rb = args.0.ref_ptr.0 in let ro = args.0.ref_ptr.1 in let a : Held E = args.0.now in let i = args.1.0 in
    let n = a.len in let xs = a.items in let ms = a.mine in let s = each E in let Asked : Type 0 = (i < n) × (get_or ms i false ≡ true) in
    let z : (walk_of 𝓛 X left c).Ghost = ((κs, qs, bounds, args, (shr_vals args.0, (uint_vals w64 i, tt))), g) in
    let Post : Val → base.Logic.SProp 𝓤 = (walk_of 𝓛 X left c).post z in
    qed 𝓛 (((‵ (flft κ qs.0) ⊛ ‵ (flft κs.1.0 qs.1.0) ⊛ ‵ ftrue) ⊛ ‵ (owns (types_at X.signature.params κs) args z.0.4)) ∷ (raw (fact 𝓤 (κs.1.0 ⊑ T.lives)) ⊛ raw (fact 𝓤 Asked)) ∷ []) ∵
    move ! (1 ∷ []) $ split ! $ drop ! $ heard ! Asked (λ ok.
    let ix : i < length xs = omega (arith, ok.0, a.ok.0) in let other : el_x E = hd xs (omega (arith, ix)) in let x : el_x E = get_or xs i other in
    split ! $ move ! (1 ∷ []) $ fsplit ! $ fsplit ! $ drop ! $ shown E ! κ a rb ro i other ok.0 ok.1 (λ b o at fit.
    -- [the `&` to the pointer; the `&` to the value; i; the tokens]
    let reach = within_reach i n s ok.0 fit in let to = vptr b (i * s + o) in
    move ! (3 ∷ []) $ split ! $ keep ! (2 ∷ 0 ∷ 1 ∷ 3 ∷ []) $
    enter ! 𝓣.C 𝓣.Λ fn (vptr rb ro ∷ vint w64 i ∷ []) Post $ alloc_all ! (λ l. pass_all ! refl ((tt, tt), ((tt, record { fits = are.1.0.1 }), tt)) $
    let here = env fn.locals l in
    first ! $ blocks ! $ pointer_in ! tt a.ptr b o at rb (ro + 0) (λ q.
    sets ! (of_opd ! (load ! (through ! refl (fld ! refl (stop !))) (look ! 0 refl))) refl (tt, tt) $
    sets ! (bin ! (get ! refl) (size_lit ! (record { fits = reach.0 })) (record { fits = reach.1 })) refl (tt, record { fits = reach.1 }) $
    sets ! (bin ! (get ! refl) (get ! refl) tt) refl (tt, tt) $
    pointer_out ! tt a.ptr b o at rb (ro + 0) $
    sets_last ! (addr ! (through ! refl (stop !))) refl (tt, tt) $
    exec ! 𝓣.C 𝓣.Λ here (after 1 fn.body) (at_ret here Post) $ sets ! (of_opd ! (get ! refl)) refl (tt, tt) $ returns ! (look_at ! 0 refl) $
    free_all ! refl $ suffices ! _ (ends_at 𝓛 X left c z to (record { ref_ptr = (b, i * s + o); now = x }) (tt, (tt, tt)) (tt, (tt, tt))) $ says ! (any-default xs i other x ix) $
    -- [the first token; the other; the `&` to the value]
    none_left ! 2 $ move ! (1 ∷ 2 ∷ []) $ join ! $ move ! (2 ∷ []) $ feq_i ! _ (to ∷ []) _ refl $ fjoin ! $ keep ! (1 ∷ 2 ∷ 0 ∷ []) $ done !)))))
