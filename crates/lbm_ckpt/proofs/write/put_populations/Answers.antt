use Rattle.std.proofs.Common.{◌≡◌, [], ◌++◌, Err, refl, sym, ◌∙◌, ap}
use Rattle.std.specs.List.{flat_map}
use Rattle.std.proofs.lemmas.Grind.{flat_map-append}
use Rattle.std.proofs.lemmas.Result.{err_from_is_err_and}
use Rattle.lbm_store.proofs.PutLemmas.{Puts-none, Puts-then, Puts-cut, Puts-is}
use Rattle.lbm_ckpt.specs.Ckpt.{population_bytes}
use Rattle.lbm_ckpt.proofs.Hashing.{Takes-none, Takes-then, Takes-is, Takes-if_ok}
use Rattle.lbm_ckpt.proofs.Puts.{in_blocks}
use Rattle.lbm_ckpt.proofs.write.put_populations.Goals as goal

pub loop-rest-init : goal.loop-rest-init
loop-rest-init g c = ([], refl, Puts-none _ _, Takes-none _)

pub returns-in_err-put_block-clause-puts : goal.returns-in_err-put_block-clause-puts
returns-in_err-put_block-clause-puts g c =
    let p = err_from_is_err_and c.from_residual.result c.from_residual.ensures.1 in
    let parts : flat_map population_bytes c.args.pops.now
    ≡ (flat_map population_bytes c.loop-rest.invariant.0 ++ flat_map population_bytes c.split_at.result.0.now) ++ flat_map population_bytes c.split_at.result.1.now =
    ap (flat_map population_bytes) (in_blocks _ _ _ _ _ 1024 c.loop-rest.invariant.1 c.split_at.ensures.front c.split_at.ensures.back)
    ∙ flat_map-append population_bytes (c.loop-rest.invariant.0 ++ c.split_at.result.0.now) c.split_at.result.1.now
    ∙ ap (λ t. t ++ flat_map population_bytes c.split_at.result.1.now) (flat_map-append population_bytes c.loop-rest.invariant.0 c.split_at.result.0.now) in
    rw (p.1, p.2)
    (Puts-is _ _ _ (Err c.in_err-put_block.field-0.0) _ _ (sym parts)
    (Puts-cut _ {S = Unit {0}} _ _ _ _ _ (Puts-then _ _ _ _ _ _ _ c.loop-rest.invariant.2 c.in_err-put_block.ensures.puts)))

pub loop-rest-preserved : goal.loop-rest-preserved
loop-rest-preserved g c =
    let more = sym (flat_map-append population_bytes c.loop-rest.invariant.0 c.split_at.result.0.now) in (
      c.loop-rest.invariant.0 ++ c.split_at.result.0.now,
      in_blocks _ _ _ _ _ 1024 c.loop-rest.invariant.1 c.split_at.ensures.front c.split_at.ensures.back,
      Puts-is _ _ _ _ _ _ more (Puts-then _ _ _ _ _ _ _ c.loop-rest.invariant.2 c.in_ok-put_block.ensures.puts),
      Takes-is _ _ _ _ more (Takes-then _ _ _ _ _ c.loop-rest.invariant.3 c.put_block.ensures.hashes),
    )

pub returns-clause-puts : goal.returns-clause-puts
returns-clause-puts g c =
    let all = sym (ap (flat_map population_bytes) c.loop-rest.invariant.1 ∙ flat_map-append population_bytes c.loop-rest.invariant.0 c.loop-rest.rest.now) in
    Puts-is _ _ _ _ _ _ all (Puts-then _ _ _ _ _ _ _ c.loop-rest.invariant.2 c.put_block-2.ensures.puts)

pub returns-clause-hashes : goal.returns-clause-hashes
returns-clause-hashes g c =
    let all = sym (ap (flat_map population_bytes) c.loop-rest.invariant.1 ∙ flat_map-append population_bytes c.loop-rest.invariant.0 c.loop-rest.rest.now) in
    Takes-if_ok c.put_block-2.result _ _ _ (Takes-is _ _ _ _ all (Takes-then _ _ _ _ _ c.loop-rest.invariant.3 c.put_block-2.ensures.hashes))
