use Rattle.std.proofs.Common.{Ok, Err, rules}
use Rattle.lbm_store.specs.declared.outside.IoEnd.TheVariants.{Failed}
use Rattle.lbm_store.specs.declared.map_store.MapStore.{MapStore}
use Rattle.lbm_store.specs.Memory.{MapAppends, map_state}
use Rattle.lbm_store.proofs.StoreLemmas.{Appends-from_map}
use Rattle.lbm_store.proofs.map_store.MapStoreStore.append.Goals as goal

pub returns-then-is_to_fail : goal.returns-then-is_to_fail
returns-then-is_to_fail c =
    let after : MapStore = record c.args.self.now { files = c.append.new.self; write_faults = c.raise.new.self; calls = c.count.new.self } in
    let exactly : MapAppends (map_state c.args.self.now) (map_state after) (Err Failed) c.args.name.now c.args.bytes.now = search rules in
    record { appends = Appends-from_map _ _ _ _ _ exactly; exactly = exactly }

pub returns : goal.returns
returns c =
    let after : MapStore = record c.args.self.now { files = c.append-2.new.self; write_faults = c.make_room.new.self; calls = c.count-2.new.self } in
    let exactly : MapAppends (map_state c.args.self.now) (map_state after) (Ok tt) c.args.name.now c.args.bytes.now = search rules in
    record { appends = Appends-from_map _ _ _ _ _ exactly; exactly = exactly }
