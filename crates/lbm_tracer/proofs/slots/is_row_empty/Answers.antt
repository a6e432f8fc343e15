use Rattle.std.proofs.Common.{below_more, ap, ◌∙◌, arith}
use Rattle.lbm_space.specs.Stencil.{Stencil}
use Rattle.lbm_tracer.proofs.slots.is_row_empty.Goals as goal

pub loop-k-preserved : goal.loop-k-preserved
loop-k-preserved g c = record { none = below_more _ _ c.loop-k.invariant.none (c.is_without.ensures c.if-not-is_without.false) }

pub returns : goal.returns
returns g c =
    let count = c.q-k-end.ensures ∙ ap (λ (v : Stencil). v.directions) c.requires.row.set in
    λ yes x k within known. c.loop-k.invariant.none k (omega (arith, known, count, c.loop-k-test.false, c.loop-k.auto.k-end)) x within
