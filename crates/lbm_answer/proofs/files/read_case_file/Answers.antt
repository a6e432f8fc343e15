use Rattle.std.proofs.Common.{◌≡◌, ◌∙◌, Global, Ok, ap, sym, subst}
use Rattle.std.proofs.lemmas.Result.{err_from_is_err_and}
use Rattle.lbm_case.specs.CaseOf.{case_of}
use Rattle.lbm_case.specs.Refusals.{Refuses as CaseRefuses}
use Rattle.lbm_answer.specs.Files.{read_view}
use Rattle.lbm_answer.proofs.FirstFiles.{case-unread, case-refused, case-read}
use Rattle.lbm_answer.proofs.files.read_case_file.Goals as goal

pub returns-in_err-bytes-clause-read : goal.returns-in_err-bytes-clause-read
returns-in_err-bytes-clause-read g c =
    let p = err_from_is_err_and c.from_residual.result c.from_residual.ensures.1 in
    rw (p.1, p.2) (case-unread _ _ c.args.name.now read_view Global _ c.in_err-bytes.ensures.read)

pub returns-in_err-case-clause-read : goal.returns-in_err-case-clause-read
returns-in_err-case-clause-read g c =
    let p = err_from_is_err_and c.from_residual-in_err-case.result c.from_residual-in_err-case.ensures.1 in
    let read = c.in_ok-bytes.ensures.read in
    let end = c.in_err-case.field-0.0 in
    let is : CaseRefuses end (case_of c.in_ok-bytes.bytes.items) = subst (λ b. CaseRefuses end (case_of b)) c.deref.ensures.value c.in_err-case.ensures.fault in
    rw (p.1, p.2) (case-refused _ _ c.args.name.now read_view c.in_ok-bytes.bytes.items read.0 read.2 read.1 end is)

pub returns-clause-read : goal.returns-clause-read
returns-clause-read g c =
    let read = c.in_ok-bytes.ensures.read in
    let is : case_of c.in_ok-bytes.bytes.items ≡ Ok c.in_ok-case.case = ap case_of (sym c.deref.ensures.value) ∙ c.in_ok-case.ensures.case in
    (read.0, case-read _ _ c.args.name.now read_view c.in_ok-bytes.bytes.items read.0 read.2 read.1 c.in_ok-case.case is)
