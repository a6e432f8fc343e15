use Rattle.std.proofs.Common.{◌≡◌, ◌+◌, take, sym, arith}
use Rattle.std.proofs.lemmas.List.{take_rest}
use Rattle.lbm_voxel.specs.Text.{without_return}
use Rattle.lbm_voxel.proofs.Runs.{first_line-none, first_line-some}
use Rattle.lbm_voxel.proofs.text.split_line.Goals as goal

pub returns-then-end-text : goal.returns-then-end-text
returns-then-end-text c = sym (first_line-none c.args.text.now c.line_len-end.result c.line_len-end.ensures c.if-end-text.true)

pub returns : goal.returns
returns c =
    let text = c.args.text.now in
    let n = c.line_len-end.result in
    let line : c.without_return.result.now ≡ without_return (take n text) = c.without_return.ensures in
    rw (take_rest text (n + 1), line) (sym (first_line-some text n c.line_len-end.ensures (omega arith)))
