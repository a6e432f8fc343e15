use Rattle.std.proofs.Common.{◌≡◌, ℕ, ◌+◌, ◌-◌, pos, slice_index, slice_index_or, ap, ◌∙◌, arith}
use Rattle.lbm_two.proofs.behind.PlacesBehindTaking.take.Goals as goal

pub lanes_at-requires-clause-inside : goal.lanes_at-requires-clause-inside
lanes_at-requires-clause-inside g c =
    let w = c.args.self.now in let at = c.args.at in let n = c.args.n in let within = c.requires.within in let some = within.some in let inner = within.inner in let fits = within.fits in
    let last = c.requires.fitting.1 c.args.dir (at + n - 1) c.requires.known (omega arith) (omega arith) in omega (arith, last, some, inner)

pub returns-clause-cells : goal.returns-clause-cells
returns-clause-cells g c = λ j lane.
    let w = c.args.self.now in let start = slice_index w.starts c.args.dir in let inner = c.requires.within.inner in
    let place : start + (c.args.at - 1) + j ≡ start + (c.args.at + j - 1) = omega (arith, inner) in
    c.lanes_at.ensures.numbers j lane ∙ ap (λ (k : ℕ). slice_index_or w.numbers.now k (pos 0)) place
