use Rattle.lbm_answer.proofs.Completeness.{answers-complete}
use Rattle.lbm_flow.proofs.top.run_words.Goals as goal

pub returns-clause-complete : goal.returns-clause-complete
returns-clause-complete g c =
    answers-complete _ (g.T.Store.state c.args.store.now) (g.T.Store.state c.decide-decision.new.store) (g.K.Sink.state c.args.out.now) (g.K.Sink.state c.tell.new.out) c.tell.result
    (record { decision = c.decide-decision.result; decided = c.decide-decision.ensures; told = c.tell.ensures.told })
