use Rattle.std.proofs.Common.{◌≡◌, ◌<◌, length, rules}
use Rattle.lbm_voxel.proofs.Runs.{words-none, words-first}
use Rattle.lbm_voxel.proofs.text.split_word.Goals as goal

pub returns-then-is_empty : goal.returns-then-is_empty
returns-then-is_empty c =
    let none : length c.skip_blanks-rest.result.now ≡ 0 = search (rules, c.if-is_empty.true) in
    words-none c.args.text.now c.skip_blanks-rest.result.now c.skip_blanks-rest.ensures none

pub returns : goal.returns
returns c =
    let some : 0 < length c.skip_blanks-rest.result.now = search (rules, c.if-is_empty.false) in
    rw (c.split_at.ensures.front, c.split_at.ensures.back)
    (words-first c.args.text.now c.skip_blanks-rest.result.now c.word_len.result c.skip_blanks-rest.ensures some c.word_len.ensures.value)
