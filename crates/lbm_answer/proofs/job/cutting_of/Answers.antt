use Rattle.std.proofs.Common.{◌≡◌, ap, sym, subst, Some, Err, List, ℕ}
use Rattle.std.specs.Prelude.{option_map, is_some}
use Rattle.std.proofs.lemmas.Result.{err_from_is_err_and}
use Rattle.lbm_space.specs.Cuttings.{IsBadCut}
use Rattle.lbm_space.specs.Torus.{rows}
use Rattle.lbm_space.specs.declared.cutting.CutEnd.TheVariants.{BadCut}
use Rattle.lbm_answer.specs.Causes.{cut_end}
use Rattle.lbm_answer.specs.Jobs.{Cuts}
use Rattle.lbm_answer.proofs.BadCuts.{Cuts-end, bad_cut-none}
use Rattle.lbm_answer.proofs.job.cutting_of.Goals as goal

pub returns-in_err-of_rows-in-Some : goal.returns-in_err-of_rows-in-Some
returns-in_err-of_rows-in-Some c =
    let p = err_from_is_err_and c.from_residual.result c.from_residual.ensures.1 in
    let entries = c.in-Some.rows.items in
    let given : option_map (λ rows. rows.items) c.args.choice.now.cut ≡ Some entries = ap (option_map (λ rows. rows.items)) c.in-Some.is in
    let why = c.in_err-of_rows-in-Some.field-0.0 in
    let bad : (k : ℕ) → why ≡ BadCut k → IsBadCut (rows c.args.space.now) entries k =
    λ k is. subst (λ (xs : List ℕ). IsBadCut (rows c.args.space.now) xs k) c.deref.ensures.value ((c.in_err-of_rows-in-Some.ensures.bad k).0 (ap Err is)) in
    rw (p.1, p.2) (subst (λ cut. Cuts c.args.space.now cut (Err (cut_end why))) (sym given) (Cuts-end c.args.space.now entries why bad))

pub returns-in_ok-of_rows-in-Some : goal.returns-in_ok-of_rows-in-Some
returns-in_ok-of_rows-in-Some c =
    let entries = c.in-Some.rows.items in
    let none : (k : ℕ) → IsBadCut (rows c.args.space.now) entries k → ⊥ =
    λ k bad. (let e = (c.in_ok-of_rows-in-Some.ensures.bad k).1 (subst (λ (xs : List ℕ). IsBadCut (rows c.args.space.now) xs k) (sym c.deref.ensures.value) bad) in cc) in
    rw c.in-Some.is
    (c.in_ok-of_rows-in-Some.ensures.whole, ap is_some (bad_cut-none c.args.space.now entries none))
