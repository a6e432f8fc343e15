use Rattle.std.proofs.Common.{rules}
use Rattle.lbm_store.proofs.MapLemmas.{files_of-appended, files_of-full, files_of-made}
use Rattle.lbm_store.proofs.named_files.NamedFiles.append.Goals as goal

pub returns-in-Some-clause-ok : goal.returns-in-Some-clause-ok
returns-in-Some-clause-ok c =
    files_of-appended c.args.self.now _ c.args.name.now c.in-Some.held.now c.extend_from_slice.new.self c.args.bytes.now c.in-Some.ensures.value
    ((c.get_mut.follows.holds c.extend_from_slice.new.self).3 (search rules)) c.extend_from_slice.result c.extend_from_slice.ensures.items

pub returns-in-Some-clause-err : goal.returns-in-Some-clause-err
returns-in-Some-clause-err c =
    files_of-full c.args.self.now _ c.args.name.now c.in-Some.held.now c.extend_from_slice.new.self c.args.bytes.now c.in-Some.ensures.value
    ((c.get_mut.follows.holds c.extend_from_slice.new.self).3 (search rules)) c.extend_from_slice.result c.extend_from_slice.ensures.items

pub returns-in-None-clause-ok : goal.returns-in-None-clause-ok
returns-in-None-clause-ok c =
    files_of-made c.args.self.now c.put.new.self c.args.name.now c.get_mut.follows.lender-at-none c.args.bytes.now c.put.result
    c.in-None.ensures.value c.get_mut.follows.holds-at-none c.put.ensures.ok
