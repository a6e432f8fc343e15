use Rattle.lbm_answer.proofs.SavedFiles.{saves-second}
use Rattle.lbm_answer.proofs.save.save_all.Goals as goal

pub returns-in-Some-clause-saved : goal.returns-in-Some-clause-saved
returns-in-Some-clause-saved g c =
    rw c.in-Some.is
    (saves-second _ _ (g.T.Store.state c.args.store.now) (g.T.Store.state c.save_moments.new.store) (g.T.Store.state c.save_state.new.store)
    c.in_ok-save_moments.ensures.saved _ c.save_state.ensures.saved)
