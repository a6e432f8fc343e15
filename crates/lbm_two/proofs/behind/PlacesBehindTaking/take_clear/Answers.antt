use Rattle.std.proofs.Common.{◌≡◌, ℕ, ◌+◌, ◌-◌, pos, slice_index, slice_index_or, ap, ◌∙◌, arith}
use Rattle.lbm_two.proofs.behind.PlacesBehindTaking.take_clear.Goals as goal

pub eight_at-requires : goal.eight_at-requires
eight_at-requires g c =
    let at = c.args.at in let within = c.requires.within in let inner = within.inner in let fits = within.fits in
    let last = c.requires.fitting.1 c.args.dir (at + 7) c.requires.known (omega arith) (omega arith) in omega (arith, last, inner)

pub returns : goal.returns
returns g c = λ j lane.
    let w = c.args.self.now in let start = slice_index w.starts c.args.dir in let inner = c.requires.within.inner in
    let place : start + (c.args.at - 1) + j ≡ start + (c.args.at + j - 1) = omega (arith, inner) in
    c.eight_at.ensures j lane ∙ ap (λ (k : ℕ). slice_index_or w.numbers.now k (pos 0)) place
