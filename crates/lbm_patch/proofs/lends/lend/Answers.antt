use Rattle.std.proofs.Common.{ap, ◌∙◌, arith, false, slice_index_or}
use Rattle.lbm_patch.proofs.lends.lend.Goals as goal

-- the patch that f was given, the one that it returned, and what is known of each
pub returns : goal.returns
returns g c =
    let ends = c.with_slots.ensures in let ran = ends.3.1.1 in let is = ran.2 in (
      ran.0,
      ran.1,
      ((λ k le lt. ap (λ ms. slice_index_or ms k false) is.3 ∙ ends.2.full k le (omega (arith, lt, is.1))), is.2 ∙ ends.2.are),
      ran.3,
      ends.4 ∙ ran.4,
    )
