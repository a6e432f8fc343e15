use Rattle.std.proofs.Common.{◌≡◌, ◌∙◌, ◌++◌, map, take, codes, ap}
use Rattle.std.proofs.lemmas.List.{take_all, take_min}
use Rattle.lbm_answer.specs.Lines.{printed_byte}
use Rattle.lbm_answer.proofs.refusals.put_name.Goals as goal

pub returns-clause-text : goal.returns-clause-text
returns-clause-text c =
    let name = c.args.name.now in
    let all : take c.loop-byte.byte-index (take c.min.result name) ≡ take 40 name =
    take_all c.loop-byte.byte-index (take c.min.result name) c.loop-byte-test.false ∙ ap (λ n. take n name) c.min.ensures ∙ take_min 40 name in
    c.loop-byte.invariant.text ∙ ap (λ bytes. c.args.line.now.bytes ++ codes "unknown key " ++ map printed_byte bytes) all
