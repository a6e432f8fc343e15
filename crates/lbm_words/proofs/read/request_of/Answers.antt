use Rattle.std.proofs.Common.{subst, sym}
use Rattle.lbm_words.specs.Ends.{Gives}
use Rattle.lbm_words.specs.Request.{request_view, IsRequest}
use Rattle.lbm_words.proofs.Ranges.{Gives-ranges, read_by-ranges}
use Rattle.lbm_words.proofs.FirstWord.{request_of-kind, request_of-other, request_of-nothing}
use Rattle.lbm_words.proofs.read.request_of.Goals as goal

pub returns-in_default-clause-request : goal.returns-in_default-clause-request
returns-in_default-clause-request c = request_of-nothing c.args.words.now c.in_default.len_below

pub returns-in-Some-clause-request : goal.returns-in-Some-clause-request
returns-in-Some-clause-request c =
    let kind = request_of-kind c.args.words.now c.name-item.result _ c.in-Some.kind c.in-len1-up.len_at_least c.name-item.is c.as_str.ensures.value c.in-Some.ensures in
    subst (Gives request_view c.read_by.result) (sym kind) c.read_by.ensures

pub returns-in-Some-clause-ranges : goal.returns-in-Some-clause-ranges
returns-in-Some-clause-ranges c = Gives-ranges request_view c.read_by.result _ IsRequest c.read_by.ensures (read_by-ranges _ _)

pub returns-in-None-clause-request : goal.returns-in-None-clause-request
returns-in-None-clause-request c = request_of-other c.args.words.now c.name-item.result _ c.in-len1-up.len_at_least c.name-item.is c.as_str.ensures.value c.in-None.ensures
