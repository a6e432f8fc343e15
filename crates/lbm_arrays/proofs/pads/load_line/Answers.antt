use Rattle.std.proofs.Common.{◌≡◌, ℕ, ◌+◌, get_or, ap, subst, arith}
use Rattle.lbm_arrays.specs.Pads.{IsCopied}
use Rattle.lbm_arrays.proofs.Lines.{runs_apart_back}
use Rattle.lbm_arrays.proofs.CopiedLines.{loaded_line}
use Rattle.lbm_arrays.proofs.pads.load_line.Goals as goal

pub copy_run-requires-clause-apart : goal.copy_run-requires-clause-apart
copy_run-requires-clause-apart c =
    let t = c.args.space.now in
    let wide : get_or c.sides.result 0 0 ≡ t.nx = ap (λ l. get_or l 0 0) c.sides.ensures.value in
    runs_apart_back t c.sides.ensures.valid c.args.y c.args.z c.requires.y c.requires.z c.line_of-first.result c.stand_of-cells.result 1 (get_or c.sides.result 0 0) c.line_of-first.ensures.start c.stand_of-cells.ensures.start (omega (arith, wide))

pub returns-clause-loaded : goal.returns-clause-loaded
returns-clause-loaded c =
    let t = c.args.space.now in let first = c.line_of-first.result in let cells = c.stand_of-cells.result in
    let old = c.args.places.now in let a = c.copy_place.new.places in let b = c.copy_run.new.places in let new = c.copy_place-2.new.places in
    let wide : get_or c.sides.result 0 0 ≡ t.nx = ap (λ l. get_or l 0 0) c.sides.ensures.value in
    loaded_line t c.sides.ensures.valid c.args.y c.args.z c.requires.y c.requires.z first cells old a b new c.line_of-first.ensures.start c.stand_of-cells.ensures.start
    (subst (λ (n : ℕ). IsCopied (cells + n) first 1 old a) wide c.copy_place.ensures.copied)
    (subst (λ (n : ℕ). IsCopied (cells + 1) (first + 1) n a b) wide c.copy_run.ensures.copied)
    (subst (λ (n : ℕ). IsCopied (cells + 1) (first + n + 1) 1 b new) wide c.copy_place-2.ensures.copied)
