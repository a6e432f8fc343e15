use Rattle.std.proofs.Common.{◌≡◌, ℕ, ◌+◌, ap, subst, ◌∙◌, arith}
use Rattle.lbm_space.specs.Torus.{padded}
use Rattle.lbm_space.specs.Padded.{offset}
use Rattle.lbm_arrays.specs.Pads.{line_start, IsStoredIn}
use Rattle.lbm_arrays.proofs.Lines.{layers_rise, layers_begin, layers_end}
use Rattle.lbm_arrays.proofs.CopiedLines.{stored_on}
use Rattle.lbm_arrays.proofs.pads.store_places.Goals as goal

pub loop-z-preserved : goal.loop-z-preserved
loop-z-preserved c =
    let t = c.args.space.now in let z = c.loop-z.z in let space = c.layers-z-end.ensures.valid in
    record {
      all = c.store_layer.ensures.length ∙ c.loop-z.invariant.all;
      stored = stored_on t space (offset t c.args.c.now) (line_start t 0 0) (line_start t 0 z) (line_start t 0 (z + 1)) c.args.places.now c.loop-z.places c.store_layer.new.places c.requires.once (layers_rise t space 0 z (omega arith)) (layers_rise t space z (z + 1) (omega arith)) c.loop-z.invariant.stored c.store_layer.ensures.stored;
    }

pub returns-clause-stored : goal.returns-clause-stored
returns-clause-stored c =
    let t = c.args.space.now in let space = c.layers-z-end.ensures.valid in
    let count = c.layers-z-end.ensures.count in
    let last : c.loop-z.z ≡ c.layers-z-end.result = omega (arith, c.loop-z.auto.z-end, c.loop-z-test.false) in
    let end : line_start t 0 c.loop-z.z ≡ padded t = ap (λ z. line_start t 0 z) (last ∙ count) ∙ layers_end t space in
    subst (λ (w : ℕ × ℕ). IsStoredIn t (offset t c.args.c.now) w.0 w.1 c.args.places.now c.loop-z.places) (λ i. (layers_begin t space i, end i)) c.loop-z.invariant.stored
