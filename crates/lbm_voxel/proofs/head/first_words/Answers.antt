use Rattle.std.proofs.Common.{◌≡◌, List, ℕ, [], ◌∷◌, ◌++◌, drop, sym, ap, ◌∙◌, arith}
use Rattle.std.proofs.lemmas.List.{map-append, length_push}
use Rattle.lbm_voxel.specs.Text.{words}
use Rattle.lbm_voxel.specs.declared.head.TheConstants.{MOST_WORDS}
use Rattle.lbm_voxel.proofs.Heads.{take-none, take-next, drop-next}
use Rattle.lbm_voxel.proofs.head.first_words.Goals as goal

pub returns-in_default-clause-value : goal.returns-in_default-clause-value
returns-in_default-clause-value c =
    c.loop-n.invariant.value ∙ take-none (words c.args.text.now) c.loop-n.n MOST_WORDS (sym c.loop-n.invariant.rest ∙ c.in_default.ensures) (omega arith)

pub loop-n-preserved : goal.loop-n-preserved
loop-n-preserved c =
    let all = words c.args.text.now in
    let here : drop c.loop-n.n all ≡ c.in-Some.word.now ∷ words c.in-Some.after.now = sym c.loop-n.invariant.rest ∙ c.in-Some.ensures in
    record {
      value = rw (c.in_ok-push.ensures.items, map-append)
          (ap (λ (front : List (List ℕ)). front ++ c.in-Some.word.now ∷ []) c.loop-n.invariant.value ∙ sym (take-next all _ c.loop-n.n _ here));
      rest = drop-next all _ c.loop-n.n _ here;
      count = rw (c.in_ok-push.ensures.items, length_push) (omega arith);
    }
