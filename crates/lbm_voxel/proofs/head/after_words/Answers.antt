use Rattle.std.proofs.Common.{◌≡◌, [], sym, ◌∙◌, arith}
use Rattle.lbm_voxel.specs.Text.{words}
use Rattle.lbm_voxel.proofs.Heads.{drop-none, drop-next}
use Rattle.lbm_voxel.proofs.head.after_words.Goals as goal

pub returns-in_default : goal.returns-in_default
returns-in_default c =
    let none : words c.loop-n.rest.now ≡ [] = c.in_default.ensures in
    none ∙ sym (drop-none (words c.args.text.now) c.loop-n.n c.args.count (sym c.loop-n.invariant ∙ none) (omega arith))

pub loop-n-preserved : goal.loop-n-preserved
loop-n-preserved c = drop-next (words c.args.text.now) _ c.loop-n.n _ (sym c.loop-n.invariant ∙ c.in-Some.ensures)
