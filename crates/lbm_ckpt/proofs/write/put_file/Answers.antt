use Rattle.std.proofs.Common.{Err, [], refl, ap}
use Rattle.std.specs.List.{flat_map}
use Rattle.std.proofs.lemmas.Result.{err_from_is_err_and}
use Rattle.lbm_store.proofs.PutLemmas.{Puts-then, Puts-cut, Puts-is}
use Rattle.lbm_ckpt.specs.declared.version.Version.TheVariants.{Two}
use Rattle.lbm_ckpt.specs.Ckpt.{head, population_bytes}
use Rattle.lbm_ckpt.proofs.Hashing.{Takes-then}
use Rattle.lbm_ckpt.proofs.Puts.{file_is}
use Rattle.lbm_ckpt.proofs.write.put_file.Goals as goal

pub returns-in_err-put_head : goal.returns-in_err-put_head
returns-in_err-put_head g c =
    let p = err_from_is_err_and c.from_residual.result c.from_residual.ensures.1 in
    rw (p.1, p.2)
    (Puts-is _ _ _ (Err c.in_err-put_head.field-0.0) _ _
    (file_is c.args.case_digest.now c.args.step c.args.space.now c.args.state.now (head Two c.args.case_digest.now c.args.step c.args.space.now c.q.result) _ _
    (ap (head Two c.args.case_digest.now c.args.step c.args.space.now) c.q.ensures.value) refl refl)
    (Puts-cut _ {S = Unit {0}} _ _ _ _ _ (Puts-cut _ {S = Unit {0}} _ _ _ _ _ c.in_err-put_head.ensures.puts)))

pub returns-in_err-put_populations : goal.returns-in_err-put_populations
returns-in_err-put_populations g c =
    let p = err_from_is_err_and c.from_residual-in_err-put_populations.result c.from_residual-in_err-put_populations.ensures.1 in
    rw (p.1, p.2)
    (Puts-is _ _ _ (Err c.in_err-put_populations.field-0.0) _ _
    (file_is c.args.case_digest.now c.args.step c.args.space.now c.args.state.now (head Two c.args.case_digest.now c.args.step c.args.space.now c.q.result) (flat_map population_bytes c.pops.result.now) _
    (ap (head Two c.args.case_digest.now c.args.step c.args.space.now) c.q.ensures.value) (ap (flat_map population_bytes) c.pops.ensures.value) refl)
    (Puts-cut _ {S = Unit {0}} _ _ _ _ _ (Puts-then _ _ _ _ _ _ _ c.in_ok-put_head.ensures.puts c.in_err-put_populations.ensures.puts)))

pub returns : goal.returns
returns g c =
    let held = Takes-then _ _ _ _ _ c.in_ok-put_head.ensures.hashes c.in_ok-put_populations.ensures.hashes [] c.new-hasher.ensures in
    Puts-is _ _ _ _ _ _
    (file_is c.args.case_digest.now c.args.step c.args.space.now c.args.state.now (head Two c.args.case_digest.now c.args.step c.args.space.now c.q.result) (flat_map population_bytes c.pops.result.now) _
    (ap (head Two c.args.case_digest.now c.args.step c.args.space.now) c.q.ensures.value) (ap (flat_map population_bytes) c.pops.ensures.value) (c.finalize-seal.ensures _ held))
    (Puts-then _ _ _ _ _ _ _ (Puts-then _ _ _ _ _ _ _ c.in_ok-put_head.ensures.puts c.in_ok-put_populations.ensures.puts) c.put.ensures)
