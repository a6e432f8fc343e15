use Rattle.std.proofs.Common.{◌∙◌, ◌++◌, append_assoc, codes, ap, sym}
use Rattle.lbm_case.specs.Keys.{name_of}
use Rattle.lbm_answer.specs.Lines.{printed, fault_of}
use Rattle.lbm_answer.proofs.refusals.put_fault.Goals as goal

pub returns-in-UnknownKey-clause-text : goal.returns-in-UnknownKey-clause-text
returns-in-UnknownKey-clause-text c =
    let line = c.args.line.now.bytes in
    let word = codes "unknown key " in
    c.put_name.ensures.text ∙ ap (λ name. line ++ word ++ printed name) c.bytes.ensures ∙ append_assoc line word (printed c.in-UnknownKey.name)
    ∙ ap (λ fault. line ++ fault_of fault) (sym c.in-UnknownKey.is)

pub returns-in-MissingKey-clause-text : goal.returns-in-MissingKey-clause-text
returns-in-MissingKey-clause-text c =
    c.put_key.ensures.text ∙ append_assoc c.args.line.now.bytes (codes "missing key ") (name_of c.in-MissingKey.key)
    ∙ ap (λ fault. c.args.line.now.bytes ++ fault_of fault) (sym c.in-MissingKey.is)
