use Rattle.std.proofs.Common.{◌≡◌, true, false, Option, Some, None, Err, refl, sym, ◌∙◌, rules}
use Rattle.std.specs.Prelude.{ok_or}
use Rattle.lbm_ckpt.specs.declared.version.Version.{Version}
use Rattle.lbm_ckpt.specs.declared.fault.CkptFault.{CkptFault}
use Rattle.lbm_ckpt.specs.declared.fault.CkptFault.TheVariants.{Magic}
use Rattle.std.proofs.lemmas.Result.{err_from_is_err_and}
use Rattle.lbm_ckpt.proofs.Reading.{refused_short, refused_magic, refused_case, refused_size, refused_step, refused_digest, refused_wide, read_of}
use Rattle.lbm_ckpt.proofs.Round.{long_fitting, narrow_fours}
use Rattle.lbm_ckpt.proofs.read.check.Goals as goal

unknown : (o : Option Version) (fault : CkptFault) → ok_or o Magic ≡ Err fault → (o ≡ None) × (fault ≡ Magic)
unknown None fault e = (refl, cc)
unknown (Some version) fault e = absurd cc

pub returns-then-is_short-clause-fault : goal.returns-then-is_short-clause-fault
returns-then-is_short-clause-fault c = refused_short _ _ _ _ (search rules)

pub returns-in_err-version-clause-fault : goal.returns-in_err-version-clause-fault
returns-in_err-version-clause-fault c =
    let p = err_from_is_err_and c.from_residual.result c.from_residual.ensures.1 in
    let u = unknown c.of.result c.in_err-version.field-0.0 (sym c.ok_or.ensures.value ∙ c.in_err-version.was) in
    rw (p.1, p.2, u.1) (refused_magic _ _ _ _ (search rules) (sym c.of.ensures ∙ u.0))

pub returns-then-ne-clause-fault : goal.returns-then-ne-clause-fault
returns-then-ne-clause-fault c = refused_case _ _ _ _ c.in_ok-version.version (search rules) (search rules) (search rules)

pub returns-then-not-fits-clause-fault : goal.returns-then-not-fits-clause-fault
returns-then-not-fits-clause-fault c = refused_size _ _ _ _ c.in_ok-version.version (search rules) (search rules) (search rules) (search rules)

pub returns-then-step_of-from-clause-fault : goal.returns-then-step_of-from-clause-fault
returns-then-step_of-from-clause-fault c = refused_step _ _ _ _ c.in_ok-version.version (search rules) (search rules) (search rules) (search rules) (search rules)

pub returns-then-not-is_whole-clause-fault : goal.returns-then-not-is_whole-clause-fault
returns-then-not-is_whole-clause-fault c = refused_digest _ _ _ _ c.in_ok-version.version (search rules) (search rules) (search rules) (search rules) (search rules) (search rules)

pub returns-then-not-are_narrow-clause-fault : goal.returns-then-not-are_narrow-clause-fault
returns-then-not-are_narrow-clause-fault c = refused_wide _ _ _ _ c.in_ok-version.version (search rules) (search rules) (search rules) (search rules) (search rules) (search rules)
    (narrow_fours c.in_ok-version.version c.args.bytes.now _ _ false c.fours_of.ensures c.are_narrow.ensures (search rules))

pub fours_of-requires : goal.fours_of-requires
fours_of-requires c = long_fitting c.args.space.now c.args.q c.args.bytes.now c.in_ok-version.version (search rules)

pub returns-clause-read : goal.returns-clause-read
returns-clause-read c =
    read_of _ _ _ _ c.in_ok-version.version
    (record {
      long = search rules;
      known = search rules;
      same = search rules;
      fitting = search rules;
      near = search rules;
      whole = search rules;
      narrow = narrow_fours c.in_ok-version.version c.args.bytes.now _ _ true c.fours_of.ensures c.are_narrow.ensures (search rules);
    })

pub returns-clause-long : goal.returns-clause-long
returns-clause-long c = long_fitting c.args.space.now c.args.q c.args.bytes.now c.in_ok-version.version (search rules)
