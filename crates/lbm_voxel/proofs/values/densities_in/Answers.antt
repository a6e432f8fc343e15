use Rattle.std.proofs.Common.{◌≡◌, List, ℕ, [], ◌∷◌, ◌++◌, drop, length, Some, Ok, below_more, sym, ap, ◌∙◌, arith}
use Rattle.std.specs.Prelude.{is_none}
use Rattle.std.proofs.lemmas.List.Elements.{All-push}
use Rattle.lbm_case.specs.CaseOf.{IsFirstDensity}
use Rattle.lbm_voxel.specs.Text.{words}
use Rattle.lbm_voxel.specs.Voxels.{density_at, densities_in}
use Rattle.lbm_voxel.proofs.Heads.{drop-next}
use Rattle.lbm_voxel.proofs.Densities.{density_at-none, density_at-word, refused, accepted, one_more, length-densities_of}
use Rattle.lbm_voxel.proofs.values.densities_in.Goals as goal

-- a word is missing
pub returns-in_default-clause-value : goal.returns-in_default-clause-value
returns-in_default-clause-value c =
    let all = words c.args.text.now in
    refused all c.args.count c.loop-x.x (omega arith) c.loop-x.invariant.before
    (density_at-none all c.loop-x.x (sym c.loop-x.invariant.rest ∙ c.in_default.ensures))

-- a word is no value
pub returns-in_default-density_in-clause-value : goal.returns-in_default-density_in-clause-value
returns-in_default-density_in-clause-value c =
    let all = words c.args.text.now in
    refused all c.args.count c.loop-x.x (omega arith) c.loop-x.invariant.before
    (density_at-word all _ c.loop-x.x _ (sym c.loop-x.invariant.rest ∙ c.in-Some.ensures) ∙ sym c.in_default-density_in.ensures.value)

pub loop-x-preserved : goal.loop-x-preserved
loop-x-preserved c =
    let all = words c.args.text.now in
    let x = c.loop-x.x in
    let density = c.in-Some-density_in.density in
    let here : drop x all ≡ c.in-Some.word.now ∷ words c.in-Some.after.now = sym c.loop-x.invariant.rest ∙ c.in-Some.ensures in
    let is : density_at all x ≡ Some density = density_at-word all _ x _ here ∙ sym c.in-Some-density_in.ensures.value in
    record {
      value = c.in_ok-push.ensures.items ∙ (ap (λ (front : List ℕ). front ++ density ∷ []) c.loop-x.invariant.value ∙ sym (one_more all x density is));
      rest = drop-next all _ x _ here;
      before = below_more _ _ c.loop-x.invariant.before (ap is_none is);
      allowed = rw c.in_ok-push.ensures.items (All-push IsFirstDensity c.loop-x.densities.items density c.loop-x.invariant.allowed c.in-Some-density_in.ensures.allowed);
    }

pub returns-clause-value : goal.returns-clause-value
returns-clause-value c =
    let all = words c.args.text.now in
    let whole : c.args.count ≡ c.loop-x.x = omega arith in
    ap (densities_in all) whole ∙ (accepted all c.loop-x.x c.loop-x.invariant.before ∙ ap (λ (densities : List ℕ). Ok densities) (sym c.loop-x.invariant.value))

pub returns-clause-one_each : goal.returns-clause-one_each
returns-clause-one_each c =
    let whole : c.loop-x.x ≡ c.args.count = omega arith in
    ap length c.loop-x.invariant.value ∙ (length-densities_of (words c.args.text.now) c.loop-x.x ∙ whole)
