use Rattle.std.proofs.Common.{◌-◌, ◌+◌, vec_len}
use Rattle.lbm_answer.specs.Files.{HasRead}
use Rattle.lbm_answer.proofs.files.read_file.Given as goal

abbrev pub invariant-more : goal.invariant-more
invariant-more g l = HasRead (g.T.Store.state l.initial.store) (g.T.Store.state l.store) l.name l.bytes.items

abbrev pub decreases-more : goal.decreases-more
decreases-more g l = l.limit + 1 - vec_len l.bytes
