use Rattle.lbm_store.proofs.StoreLemmas.{Appends-counted}
use Rattle.lbm_store.proofs.folder.FolderStoreStore.append.Goals as goal

pub returns : goal.returns
returns g c =
    Appends-counted _ _ _ _ _ c.append_to-came_to.result _ c.in_ok-make_room.ensures.same c.counted.ensures.answer c.counted.ensures.counts _
