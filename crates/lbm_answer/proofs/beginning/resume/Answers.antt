use Rattle.std.proofs.Common.{◌∙◌, ◌≤◌, ap, sym, arith, Global}
use Rattle.std.proofs.lemmas.Result.{err_from_is_err_and}
use Rattle.lbm_answer.specs.Jobs.{job_view}
use Rattle.lbm_answer.proofs.Beginnings.{whole-state, Begins-unread, Begins-refused, begun-past, begun-found}
use Rattle.lbm_answer.proofs.beginning.resume.Goals as goal

pub returns-in_err-bytes-clause-begun : goal.returns-in_err-bytes-clause-begun
returns-in_err-bytes-clause-begun g c =
    let p = err_from_is_err_and c.from_residual.result c.from_residual.ensures.1 in
    let width = c.directions-q.ensures ∙ ap (λ v. v.directions) (sym c.set.ensures.stencil) in
    rw (p.1, p.2)
    (Begins-unread (job_view c.args.case.now c.args.job.now) (g.T.Store.state c.args.store.now) c.args.name.now c.requires.named
    c.space.result.now c.directions-q.result c.space.ensures.value width
    Global c.checkpoint_size-limit.result (g.T.Store.state c.bytes_within.new.store) c.in_err-bytes.field-0.0 c.checkpoint_size-limit.ensures c.in_err-bytes.ensures.read)

pub returns-in_err-time-clause-begun : goal.returns-in_err-time-clause-begun
returns-in_err-time-clause-begun g c =
    let p = err_from_is_err_and c.from_residual-in_err-time.result c.from_residual-in_err-time.ensures.1 in
    let width = c.directions-q.ensures ∙ ap (λ v. v.directions) (sym c.set.ensures.stencil) in
    rw (p.1, p.2)
    (Begins-refused (job_view c.args.case.now c.args.job.now) (g.T.Store.state c.args.store.now) c.args.name.now c.requires.named
    c.space-2.result.now c.directions-q.result c.space-2.ensures.value width
    c.digest_of-digest.result c.deref.result.now c.in_ok-bytes.bytes.items c.checkpoint_size-limit.result c.space.result.now
    c.digest_of-digest.ensures c.deref.ensures.value c.space.ensures.value c.checkpoint_size-limit.ensures (c.in_ok-bytes.ensures.read.1, c.in_ok-bytes.ensures.read.2)
    (g.T.Store.state c.bytes_within.new.store) c.in_err-time.field-0.0 c.in_ok-bytes.ensures.read.0 c.in_err-time.ensures.end)

pub returns-then-time-to-clause-begun : goal.returns-then-time-to-clause-begun
returns-then-time-to-clause-begun g c =
    let width = c.directions-q.ensures ∙ ap (λ v. v.directions) (sym c.set.ensures.stencil) in (
      c.in_ok-bytes.ensures.read.0,
      begun-past (job_view c.args.case.now c.args.job.now) (g.T.Store.state c.args.store.now) c.args.name.now c.requires.named
          c.space-2.result.now c.directions-q.result c.space-2.ensures.value width
          c.digest_of-digest.result c.deref.result.now c.in_ok-bytes.bytes.items c.checkpoint_size-limit.result c.space.result.now
          c.digest_of-digest.ensures c.deref.ensures.value c.space.ensures.value c.checkpoint_size-limit.ensures (c.in_ok-bytes.ensures.read.1, c.in_ok-bytes.ensures.read.2)
          c.in_ok-time.time c.from-to.result c.in_ok-time.state c.in_ok-time.ensures.read c.from-to.ensures c.if-time-to.true,
    )

pub returns-clause-begun : goal.returns-clause-begun
returns-clause-begun g c =
    let case = c.args.case.now in
    let width = c.directions-q.ensures ∙ ap (λ v. v.directions) (sym c.set.ensures.stencil) in
    let found = c.in_ok-time.ensures in
    let ahead : c.in_ok-time.time ≤ c.args.job.now.steps = omega arith in (
      c.in_ok-bytes.ensures.read.0,
      record {
        state = whole-state case c.in_ok-time.state c.space-2.result.now c.directions-q.result c.space-2.ensures.value width found.directions found.cells;
        narrow = found.narrow;
        ahead = ahead;
      },
      begun-found (job_view case c.args.job.now) (g.T.Store.state c.args.store.now) c.args.name.now c.requires.named
          c.space-2.result.now c.directions-q.result c.space-2.ensures.value width
          c.digest_of-digest.result c.deref.result.now c.in_ok-bytes.bytes.items c.checkpoint_size-limit.result c.space.result.now
          c.digest_of-digest.ensures c.deref.ensures.value c.space.ensures.value c.checkpoint_size-limit.ensures (c.in_ok-bytes.ensures.read.1, c.in_ok-bytes.ensures.read.2)
          c.in_ok-time.time c.in_ok-time.state found.read ahead,
    )
