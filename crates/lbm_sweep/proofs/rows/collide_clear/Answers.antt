use Rattle.std.proofs.Common.{rules}
use Rattle.lbm_sweep.proofs.Held.{but_as, lent_as}
use Rattle.lbm_sweep.proofs.rows.collide_clear.Goals as goal

pub returns-clause-post : goal.returns-clause-post
returns-clause-post g c = λ f taken none i j known lane.
    let kept = c.collide.ensures.kept in let name = kept.0 in let writes = kept.2 in let at = kept.3 in
    let post = c.collide.ensures.post f taken none i j known lane in search rules

pub returns-clause-stopped : goal.returns-clause-stopped
returns-clause-stopped g c = λ k is.
    let name = c.collide.ensures.kept.0 in
    lent_as _ _ _ (search rules) (λ m. (c.collide.ensures.stopped k is m).loan.now)

pub returns-clause-but : goal.returns-clause-but
returns-clause-but g c =
    let kept = c.collide.ensures.kept in let name = kept.0 in
    but_as c.args.at _ c.args.loan.now c.collide.new.rows.loan.now _ (search rules) kept.4
