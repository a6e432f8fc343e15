use Rattle.std.proofs.Common.{◌≡◌, ℕ, ◌+◌, get_or, ap, subst, ◌∙◌, arith}
use Rattle.lbm_arrays.specs.Pads.{line_start, IsLoadedIn}
use Rattle.lbm_arrays.proofs.Lines.{line_next, lines_rise, layer_next}
use Rattle.lbm_arrays.proofs.CopiedLines.{loaded_on}
use Rattle.lbm_arrays.proofs.pads.load_layer.Goals as goal

pub loop-y-preserved : goal.loop-y-preserved
loop-y-preserved c =
    let t = c.args.space.now in let z = c.args.z in let y = c.loop-y.y in let space = c.sides.ensures.valid in
    let up = lines_rise t space y z in let next = line_next t space y z in
    record {
      all = c.load_line.ensures.length ∙ c.loop-y.invariant.all;
      loaded = loaded_on t space (line_start t 0 z) (line_start t y z) (line_start t (y + 1) z) c.args.places.now c.loop-y.places c.load_line.new.places up (omega (arith, next)) c.loop-y.invariant.loaded c.load_line.ensures.loaded;
    }

pub returns-clause-loaded : goal.returns-clause-loaded
returns-clause-loaded c =
    let t = c.args.space.now in let z = c.args.z in
    let high : get_or c.sides.result 1 0 ≡ t.ny = ap (λ l. get_or l 1 0) c.sides.ensures.value in
    let last : c.loop-y.y ≡ t.ny + 2 = omega (arith, high, c.loop-y.auto.y-end, c.loop-y-test.false) in
    let end : line_start t c.loop-y.y z ≡ line_start t 0 (z + 1) = ap (λ y. line_start t y z) last ∙ layer_next t c.sides.ensures.valid z in
    subst (λ (n : ℕ). IsLoadedIn t (line_start t 0 z) n c.args.places.now c.loop-y.places) end c.loop-y.invariant.loaded
