use Rattle.lbm_store.proofs.StoreLemmas.{Creates-counted}
use Rattle.lbm_store.proofs.folder.FolderStoreStore.create.Goals as goal

pub returns : goal.returns
returns g c =
    Creates-counted _ _ _ _ _ c.empty-came_to.result _ c.in_ok-make_room.ensures.same c.counted.ensures.answer c.counted.ensures.counts
