use Rattle.std.proofs.Common.{◌≡◌, ◌≢◌, pos, ℕ, ◌+◌, ◌<◌, ◌≤◌, Ok, Err, unsigned_abs, sym, ap, subst, ◌∙◌, arith}
use Rattle.std.proofs.lemmas.Result.{err_from_is_err_and}
use Rattle.lbm_space.specs.Stencil.{Stencil}
use Rattle.lbm_space.specs.Torus.{Torus, IsSpace, cells}
use Rattle.lbm_cell.specs.Moments.{populations}
use Rattle.lbm_cell.specs.Collision.{reflection}
use Rattle.lbm_model.specs.State.{population}
use Rattle.lbm_tracer.specs.Limits.{amount_bound}
use Rattle.lbm_tracer.specs.Sets.{stencil_of}
use Rattle.lbm_tracer.specs.Collision.{IsMomentOf}
use Rattle.lbm_tracer.specs.Tracing.{set_in}
use Rattle.lbm_tracer.specs.Carried.{amount_in}
use Rattle.lbm_tracer.specs.Rows.{cell_at}
use Rattle.lbm_tracer.specs.Sending.{Makes}
use Rattle.lbm_tracer.proofs.Rows.{cell_known}
use Rattle.lbm_tracer.proofs.Sending.{OneSends, have-more, stops, few-put}
use Rattle.lbm_tracer.proofs.Quiet.{have-quiet}
use Rattle.lbm_tracer.proofs.step.send_cell.Goals as goal

pub returns-in_err-sent-clause-sent : goal.returns-in_err-sent-clause-sent
returns-in_err-sent-clause-sent g c =
    let case = c.args.case.now in let row = c.args.row.now in let l = c.args.region.now in let x = c.args.x in let cell = cell_at row x in
    let flow = c.moment-moment.result in let a = populations c.amounts_in_row-amounts.result in let end = c.in_err-sent.field-0.0 in
    let back : row.space ≡ case.torus = sym c.requires.space in
    let here : cell < cells case.torus = subst (λ (u : Torus). cell < cells u) back (cell_known row c.requires.row x c.requires.x) in
    let taken = subst (λ (u : Torus). (k : ℕ) → k < (set_in u).directions → a k ≡ amount_in u row.time l.slots cell k) back c.amounts_in_row-amounts.ensures in
    let made : Makes case c.args.rates flow cell a (Err end) = subst (λ (y : ℕ). Makes case c.args.rates flow y a (Err end)) c.cell.ensures.cell c.in_err-sent.ensures in
    let p = err_from_is_err_and c.from_residual.result c.from_residual.ensures.1 in
    rw (p.1, p.2) (λ s old is before.
    stops case c.args.rates s row.time old l.slots cell (cell + 1) flow a end (omega arith) here taken before (subst (IsMomentOf case.stencil (population s cell)) (sym c.moment-moment.ensures) is) made)

pub returns-then-is_empty-clause-sent : goal.returns-then-is_empty-clause-sent
returns-then-is_empty-clause-sent g c =
    let case = c.args.case.now in let row = c.args.row.now in let l = c.args.region.now in let x = c.args.x in let cell = cell_at row x in
    let a = populations c.amounts_in_row-amounts.result in
    let back : row.space ≡ case.torus = sym c.requires.space in
    let here : cell < cells case.torus = subst (λ (u : Torus). cell < cells u) back (cell_known row c.requires.row x c.requires.x) in
    let taken = subst (λ (u : Torus). (k : ℕ) → k < (set_in u).directions → a k ≡ amount_in u row.time l.slots cell k) back c.amounts_in_row-amounts.ensures in
    let none : (k : ℕ) → k < (set_in case.torus).directions → a k ≡ pos 0 = subst (λ (v : Stencil). (k : ℕ) → k < v.directions → a k ≡ pos 0) (ap stencil_of c.requires.set ∙ c.requires.row.set ∙ ap set_in back) (c.is_empty.ensures c.if-is_empty.true) in
    λ s old is before. have-quiet case c.args.rates s row.time old l.slots cell a (subst IsSpace back c.requires.row.space) here taken none before

pub returns-clause-few : goal.returns-clause-few
returns-clause-few g c =
    let case = c.args.case.now in let row = c.args.row.now in let t = row.space in let l = c.args.region.now in let new = c.put_in_row.new.region in
    let cell = cell_at row c.args.x in let flow = c.moment-moment.result in let a = populations c.amounts_in_row-amounts.result in
    let p = populations c.in_ok-sent.sent in let w = populations c.turn_back.result in
    let made : Makes case c.args.rates flow cell a (Ok c.in_ok-sent.sent) = subst (λ (y : ℕ). Makes case c.args.rates flow y a (Ok c.in_ok-sent.sent)) c.cell.ensures.cell c.in_ok-sent.ensures in
    let small : (k : ℕ) → k < (set_in t).directions → unsigned_abs (p k) ≤ amount_bound = subst (λ (u : Torus). (k : ℕ) → k < (set_in u).directions → unsigned_abs (p k) ≤ amount_bound) c.requires.space made.2 in
    let turned : (k : ℕ) → k < (set_in t).directions → w k ≡ reflection (set_in t) p k = subst (λ (v : Stencil). (k : ℕ) → k < v.directions → w k ≡ reflection v p k) (ap stencil_of c.requires.set ∙ c.requires.row.set) c.turn_back.ensures in
    few-put t row.time l.slots new.slots cell p w c.requires.row.space small turned c.put_in_row.ensures.here c.put_in_row.ensures.others c.requires.few

pub returns-clause-sent : goal.returns-clause-sent
returns-clause-sent g c =
    let case = c.args.case.now in let row = c.args.row.now in let t = row.space in let l = c.args.region.now in let new = c.put_in_row.new.region in
    let cell = cell_at row c.args.x in let flow = c.moment-moment.result in let a = populations c.amounts_in_row-amounts.result in
    let p = populations c.in_ok-sent.sent in let w = populations c.turn_back.result in
    let back : t ≡ case.torus = sym c.requires.space in
    let here : cell < cells t = cell_known row c.requires.row c.args.x c.requires.x in
    let made : Makes case c.args.rates flow cell a (Ok c.in_ok-sent.sent) = subst (λ (y : ℕ). Makes case c.args.rates flow y a (Ok c.in_ok-sent.sent)) c.cell.ensures.cell c.in_ok-sent.ensures in
    let turned : (k : ℕ) → k < (set_in t).directions → w k ≡ reflection (set_in t) p k = subst (λ (v : Stencil). (k : ℕ) → k < v.directions → w k ≡ reflection v p k) (ap stencil_of c.requires.set ∙ c.requires.row.set) c.turn_back.ensures in
    λ s old moment before.
    let is : IsMomentOf case.stencil (population s cell) flow = subst (IsMomentOf case.stencil (population s cell)) (sym c.moment-moment.ensures) moment in
    let one : OneSends case c.args.rates s row.time case.torus l.slots new.slots cell a p w = record {
      taken = subst (λ (u : Torus). (k : ℕ) → k < (set_in u).directions → a k ≡ amount_in u row.time l.slots cell k) back c.amounts_in_row-amounts.ensures;
      made = λ k known. made.1 s k is known;
      turned = subst (λ (u : Torus). (k : ℕ) → k < (set_in u).directions → w k ≡ reflection (set_in u) p k) back turned;
      put = subst (λ (u : Torus). (k : ℕ) → k < (set_in u).directions → amount_in u row.time new.slots cell k ≡ w k) back c.put_in_row.ensures.here;
      others = subst (λ (u : Torus). (y k : ℕ) → y < cells u → k < (set_in u).directions → y ≢ cell → amount_in u row.time new.slots y k ≡ amount_in u row.time l.slots y k) back c.put_in_row.ensures.others;
    } in
    have-more case c.args.rates s row.time old l.slots new.slots cell a p w (subst IsSpace back c.requires.row.space) (subst (λ (u : Torus). cell < cells u) back here) one made.0 before
