use Rattle.std.proofs.Common.{◌≡◌, ℕ, ◌+◌, ap, subst, ◌∙◌, arith}
use Rattle.lbm_space.specs.Torus.{padded}
use Rattle.lbm_arrays.specs.Pads.{line_start, IsLoadedIn}
use Rattle.lbm_arrays.proofs.Lines.{layers_rise, layers_begin, layers_end}
use Rattle.lbm_arrays.proofs.CopiedLines.{loaded_on}
use Rattle.lbm_arrays.proofs.pads.load_places.Goals as goal

pub loop-z-preserved : goal.loop-z-preserved
loop-z-preserved c =
    let t = c.args.space.now in let z = c.loop-z.z in let space = c.layers-z-end.ensures.valid in
    record {
      all = c.load_layer.ensures.length ∙ c.loop-z.invariant.all;
      loaded = loaded_on t space (line_start t 0 0) (line_start t 0 z) (line_start t 0 (z + 1)) c.args.places.now c.loop-z.places c.load_layer.new.places (layers_rise t space 0 z (omega arith)) (layers_rise t space z (z + 1) (omega arith)) c.loop-z.invariant.loaded c.load_layer.ensures.loaded;
    }

pub returns-clause-loaded : goal.returns-clause-loaded
returns-clause-loaded c =
    let t = c.args.space.now in let space = c.layers-z-end.ensures.valid in
    let count = c.layers-z-end.ensures.count in
    let last : c.loop-z.z ≡ c.layers-z-end.result = omega (arith, c.loop-z.auto.z-end, c.loop-z-test.false) in
    let end : line_start t 0 c.loop-z.z ≡ padded t = ap (λ z. line_start t 0 z) (last ∙ count) ∙ layers_end t space in
    subst (λ (w : ℕ × ℕ). IsLoadedIn t w.0 w.1 c.args.places.now c.loop-z.places) (λ i. (layers_begin t space i, end i)) c.loop-z.invariant.loaded
