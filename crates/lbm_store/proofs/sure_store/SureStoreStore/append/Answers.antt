use Rattle.std.proofs.Common.{refl}
use Rattle.lbm_store.proofs.StoreLemmas.{Appends-told}
use Rattle.lbm_store.proofs.sure_store.SureStoreStore.append.Goals as goal

pub returns-clause-appends : goal.returns-clause-appends
returns-clause-appends c = Appends-told _ _ _ _ refl c.args.name.now _ c.in_ok-append.ensures.ok
