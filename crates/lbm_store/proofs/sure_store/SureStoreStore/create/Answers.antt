use Rattle.std.proofs.Common.{refl}
use Rattle.lbm_store.proofs.StoreLemmas.{Creates-told}
use Rattle.lbm_store.proofs.sure_store.SureStoreStore.create.Goals as goal

pub returns-clause-creates : goal.returns-clause-creates
returns-clause-creates c = Creates-told _ _ _ _ refl c.args.name.now c.in_ok-put.ensures.ok
