use Rattle.std.proofs.Common.{rules}
use Rattle.lbm_store.proofs.StoreLemmas.{Reads-counted}
use Rattle.lbm_store.proofs.folder.FolderStoreStore.read.Goals as goal

pub returns : goal.returns
returns g c =
    Reads-counted _ _ _ _ _ _ _ c.read_at-came_to.result _ c.in_ok-make_room.ensures.same (search rules) c.counted.ensures.answer c.counted.ensures.counts
