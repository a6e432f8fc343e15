use Rattle.lbm_answer.proofs.SavedFiles.{traces-second}
use Rattle.lbm_answer.proofs.tracer.save_traced.Goals as goal

pub returns-clause-saved : goal.returns-clause-saved
returns-clause-saved g c =
    traces-second _ _ (g.T.Store.state c.args.store.now) (g.T.Store.state c.save_moments.new.store) (g.T.Store.state c.save_amounts.new.store)
    c.in_ok-save_moments.ensures.saved _ c.save_amounts.ensures.saved
