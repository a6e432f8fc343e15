use Rattle.std.proofs.Common.{Ok, Err, rules}
use Rattle.lbm_store.specs.declared.outside.IoEnd.TheVariants.{Failed}
use Rattle.lbm_store.specs.declared.map_store.MapStore.{MapStore}
use Rattle.lbm_store.specs.Memory.{MapReads, map_state}
use Rattle.lbm_store.proofs.StoreLemmas.{Reads-from_map}
use Rattle.lbm_store.proofs.map_store.MapStoreStore.read.Goals as goal

pub returns-then-fails : goal.returns-then-fails
returns-then-fails c =
    let after : MapStore = record c.args.self.now { read_faults = c.raise.new.self; calls = c.count.new.self } in
    let exactly : MapReads (map_state c.args.self.now) (map_state after) (Err Failed) c.args.name.now c.args.at c.args.buf.now = search rules in
    record { reads = Reads-from_map _ _ _ _ _ _ exactly; exactly = exactly }

pub returns-in-Some : goal.returns-in-Some
returns-in-Some c =
    let after : MapStore = record c.args.self.now { read_faults = c.make_room.new.self; calls = c.count.new.self } in
    let exactly : MapReads (map_state c.args.self.now) (map_state after) (Ok c.in-Some.count) c.args.name.now c.args.at c.read.new.buf = search rules in
    record { reads = Reads-from_map _ _ _ _ _ _ exactly; exactly = exactly }

pub returns-in-None : goal.returns-in-None
returns-in-None c =
    let after : MapStore = record c.args.self.now { read_faults = c.raise-in-None.new.self; calls = c.count.new.self } in
    let exactly : MapReads (map_state c.args.self.now) (map_state after) (Err Failed) c.args.name.now c.args.at c.read.new.buf = search rules in
    record { reads = Reads-from_map _ _ _ _ _ _ exactly; exactly = exactly }
