use Rattle.std.proofs.Common.{map, refl, arith}
use Rattle.std.specs.Prelude.{string_bytes}
use Rattle.lbm_store.specs.Memory.{sure_files}
use Rattle.lbm_words.specs.Words.{request_of}
use Rattle.lbm_answer.proofs.Sure.{sure-never-rose}
use Rattle.lbm_flow.proofs.in_memory.run_in_memory.Goals as goal

pub returns-clause-complete : goal.returns-clause-complete
returns-clause-complete g c =
    c.run_words.ensures.complete (sure-never-rose (request_of (map string_bytes c.args.words.now)) c.args.store.now c.run_words.new.store) (λ rose. omega arith)
    (sure_files c.args.store.now) refl
