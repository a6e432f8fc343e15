use Rattle.std.proofs.Common.{◌≡◌, ◌∙◌, ◌++◌, take, refl, rules, arith}
use Rattle.lbm_answer.proofs.Reading.{HasRead-none, HasRead-more, HasRead-whole, HasRead-long, HasRead-same, fault_after, same_counts, same_store}
use Rattle.lbm_answer.proofs.files.read_file.Goals as goal

pub more-init : goal.more-init
more-init g c = rw c.new-bytes.ensures.items (HasRead-none _ _)

pub more-preserved : goal.more-preserved
more-preserved g c =
    let got : c.extend_from_slice.new.self.items ≡ c.more.bytes.items ++ take c.in-Ok.count c.read.new.buf = search rules in
    rw got
    (HasRead-more _ _ _ _ _ c.read.new.buf _ _ c.in-Ok.count c.more.invariant (search rules) c.in-Ok.ensures.bytes refl c.read.ensures.files
    (same_counts _ _ _ c.read.ensures.others c.in-Ok.ensures.cause.kept) c.read.ensures.write_faults)

pub returns-in-Ok-eq0-clause-read : goal.returns-in-Ok-eq0-clause-read
returns-in-Ok-eq0-clause-read g c = (
  same_store _ _ (c.read.ensures.files ∙ c.more.invariant.files)
      (same_counts _ _ _ c.read.ensures.others c.in-Ok-eq0.ensures.cause.kept ∙ c.more.invariant.read_faults)
      (c.read.ensures.write_faults ∙ c.more.invariant.write_faults),
  omega arith,
  HasRead-whole _ _ _ _ c.more.invariant c.read.new.buf _ _ (search rules) (omega arith) (omega arith) c.in-Ok-eq0.ensures.bytes,
)

pub returns-in-Err-Failed-clause-read : goal.returns-in-Err-Failed-clause-read
returns-in-Err-Failed-clause-read g c =
    fault_after _ _ _ _ c.more.invariant.read_faults (c.in-Err-Failed.ensures.cause.failed (search rules)) c.read.ensures.others

pub returns-clause-read : goal.returns-clause-read
returns-clause-read g c = (HasRead-same _ _ _ _ c.more.invariant, HasRead-long _ _ _ _ c.more.invariant _ (omega arith))
