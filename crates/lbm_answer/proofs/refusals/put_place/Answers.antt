use Rattle.std.proofs.Common.{◌∙◌, ◌++◌, append_assoc, codes, decimal, ap}
use Rattle.lbm_answer.proofs.refusals.put_place.Goals as goal

pub returns-clause-text : goal.returns-clause-text
returns-clause-text c =
    let line = c.args.line.now.bytes in
    let word = codes "bad character " in
    let row = decimal c.args.row in
    let space = codes " " in
    let column = decimal c.args.column in
    c.put_number-2.ensures.text ∙ ap (λ t. t ++ space ++ column) c.put_number.ensures.text ∙ ap (λ t. t ++ space ++ column) (append_assoc line word row)
    ∙ ap (λ t. t ++ column) (append_assoc line (word ++ row) space) ∙ append_assoc line (word ++ row ++ space) column
