use Rattle.std.proofs.Common.{◌≡◌, ◌+◌, Bool, None, true, false, sym, ap, subst, ◌∙◌}
use Rattle.lbm_tracer.specs.Carried.{TracerLattice, Carried, carried}
use Rattle.lbm_tracer.specs.Running.{Follows}
use Rattle.lbm_tracer.proofs.Putting.{laid_again}
use Rattle.lbm_tracer.proofs.Sending.{few-turn}
use Rattle.lbm_tracer.proofs.Following.{goes-on, goes-out}
use Rattle.lbm_tracer.proofs.tracer.Tracer.follow.Goals as goal

pub returns-in-Err : goal.returns-in-Err
returns-in-Err g c =
    let d = c.self.inside in let flow = g.P.Lattice.standing c.args.flow.now in let old = d.region.slots in let now = c.send_all-sent.new.region.slots in let answer = c.answer_of.result in
    let unspent : d.spent ≡ false = ap (λ (m : TracerLattice). m.spent) c.self.view_is ∙ c.requires.not_spent in
    let of_case : flow.case.torus ≡ d.space = c.requires.space ∙ ap (λ (m : TracerLattice). m.torus) (sym c.self.view_is) in
    let new : Carried = carried (record { torus = d.space; rates = d.rates; time = d.time; spent = true; slots = now }) in
    subst (λ (m : TracerLattice). Follows flow (carried m) new answer) ((λ j. record { torus = d.space; rates = d.rates; time = d.time; spent = sym unspent j; slots = old }) ∙ c.self.view_is)
    (goes-out flow d.rates d.time old now d.space of_case c.in-Err.end answer new c.answer_of.ensures c.in-Err.ensures.sent)

pub invariant_of-self-2 : goal.invariant_of-self-2
invariant_of-self-2 g c =
    let d = c.self.inside in let new = c.send_all-sent.new.region in let done = c.in_default.ensures in
    (record { laid = laid_again d.space d.region new done.same c.self.invariant.0.laid; few = λ unspent. few-turn d.space d.time new.slots done.valid done.few }, done.room)

pub returns : goal.returns
returns g c =
    let d = c.self.inside in let flow = g.P.Lattice.standing c.args.flow.now in let old = d.region.slots in let now = c.send_all-sent.new.region.slots in
    let unspent : d.spent ≡ false = ap (λ (m : TracerLattice). m.spent) c.self.view_is ∙ c.requires.not_spent in
    let of_case : flow.case.torus ≡ d.space = c.requires.space ∙ ap (λ (m : TracerLattice). m.torus) (sym c.self.view_is) in
    subst (λ (w : TracerLattice × Bool). Follows flow (carried w.0) (carried (record { torus = d.space; rates = d.rates; time = d.time + 1; spent = w.1; slots = now })) None)
    (λ j. (((λ i. record { torus = d.space; rates = d.rates; time = d.time; spent = sym unspent i; slots = old }) ∙ c.self.view_is) j, sym unspent j))
    (goes-on flow d.rates d.time old now d.space of_case c.in_default.ensures.valid c.in_default.ensures.sent)
