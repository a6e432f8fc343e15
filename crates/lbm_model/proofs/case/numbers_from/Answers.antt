use Rattle.std.proofs.Common.{arith, refl}
use Rattle.std.proofs.lemmas.Simd.{get_or-chunk, get_or-replicate}
use Rattle.lbm_model.proofs.case.numbers_from.Goals as goal

pub returns-then-n-eq8-clause-numbers : goal.returns-then-n-eq8-clause-numbers
returns-then-n-eq8-clause-numbers c j known = get_or-chunk c.args.at 8 c.args.list.now j 0 (omega (arith, known, c.if-n-eq8.true))

pub loop-j-init : goal.loop-j-init
loop-j-init c = record {
  done = λ k below. absurd (omega (arith, below));
  left = λ k from below. get_or-replicate 8 k 1 0 below;
  eight = refl;
}
