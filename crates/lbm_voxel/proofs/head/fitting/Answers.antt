use Rattle.std.proofs.Common.{◌≡◌, true, false, sym, ◌∙◌, arith, rules}
use Rattle.lbm_voxel.proofs.Heads.{texts-go, texts-stop, texts-end}
use Rattle.lbm_voxel.proofs.head.fitting.Goals as goal

pub returns-then-not-fits-clause-value : goal.returns-then-not-fits-clause-value
returns-then-not-fits-clause-value c =
    let other : c.fits.result ≡ false = search rules in
    sym (texts-stop c.args.head.now c.args.words.now c.loop-n.n _ _ (omega arith) (omega arith) (sym c.fits.ensures ∙ other)) ∙ c.loop-n.invariant

pub loop-n-preserved : goal.loop-n-preserved
loop-n-preserved c =
    let fit : c.fits.result ≡ true = search rules in
    sym (texts-go c.args.head.now c.args.words.now c.loop-n.n _ _ (omega arith) (omega arith) (sym c.fits.ensures ∙ fit)) ∙ c.loop-n.invariant

pub returns-clause-value : goal.returns-clause-value
returns-clause-value c =
    let whole : c.min-count.result ≡ c.loop-n.n = omega arith in
    whole ∙ (sym (texts-end c.args.head.now c.args.words.now c.loop-n.n (omega arith)) ∙ c.loop-n.invariant)
