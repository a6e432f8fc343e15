use Rattle.std.proofs.Common.{◌≡◌, ◌∙◌, ◌≤◌, List, ℕ, Ok, length, refl, ap, sym, subst}
use Rattle.std.proofs.lemmas.Result.{err_from_is_err_and}
use Rattle.lbm_store.specs.Outside.{StoreState}
use Rattle.lbm_words.specs.Request.{demo, demo_view}
use Rattle.lbm_case.specs.CaseOf.{case_of}
use Rattle.lbm_case.specs.Refusals.{Refuses as CaseRefuses}
use Rattle.lbm_answer.specs.Gen.{gen}
use Rattle.lbm_answer.specs.Outcome.{Job, demo_job}
use Rattle.lbm_answer.specs.Answer.{DecidesFor, asked_of, asked_of_job}
use Rattle.lbm_answer.proofs.Requests.{for-uncased_demo, for-demo}
use Rattle.lbm_answer.proofs.GenLength.{length-gen}
use Rattle.lbm_answer.proofs.Deciding.{for-memory}
use Rattle.lbm_flow.proofs.top.decide_demo.Goals as goal

pub returns-in_err-bytes : goal.returns-in_err-bytes
returns-in_err-bytes g c =
    let p = err_from_is_err_and c.from_residual.result c.from_residual.ensures.1 in
    rw (p.1, p.2) (for-memory (asked_of (demo (demo_view c.args.request))) (g.T.Store.state c.args.store.now) (g.T.Store.state c.args.store.now) refl)

pub read_case-requires : goal.read_case-requires
read_case-requires g c =
    subst (λ (text : List ℕ). length text ≤ 33554432) (sym (c.deref.ensures.value ∙ c.in_ok-bytes.ensures)) (length-gen c.args.request.n c.requires.few)

pub returns-in_err-case : goal.returns-in_err-case
returns-in_err-case g c =
    let p = err_from_is_err_and c.from_residual-in_err-case.result c.from_residual-in_err-case.ensures.1 in
    let end = c.in_err-case.field-0.0 in
    let is : CaseRefuses end (case_of (gen c.args.request.n)) =
    subst (λ (b : List ℕ). CaseRefuses end (case_of b)) (c.deref.ensures.value ∙ c.in_ok-bytes.ensures) c.in_err-case.ensures.fault in
    rw (p.1, p.2) (for-uncased_demo (demo_view c.args.request) (g.T.Store.state c.args.store.now) end is)

pub returns : goal.returns
returns g c =
    let before : StoreState = g.T.Store.state c.args.store.now in
    let after : StoreState = g.T.Store.state c.do_job.new.store in
    let d = demo_view c.args.request in
    let case = c.in_ok-case.case in
    let job_of : List ℕ → Job = λ bytes. record (demo_job d case) { bytes = bytes } in
    let is : case_of (gen d.n) ≡ Ok case = ap case_of (sym (c.deref.ensures.value ∙ c.in_ok-bytes.ensures)) ∙ c.in_ok-case.ensures.case in
    let done : DecidesFor (asked_of_job (job_of c.deref-2.result.now)) before after c.do_job.result = c.do_job.ensures in
    for-demo d case before after is c.do_job.result
    (subst (λ (b : List ℕ). DecidesFor (asked_of_job (job_of b)) before after c.do_job.result) (c.deref-2.ensures.value ∙ c.in_ok-bytes.ensures) done)
