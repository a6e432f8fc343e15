use Rattle.std.proofs.Common.{◌≡◌, ℕ, ◌+◌, ◌≤◌, List, ℤ, pos, ◌+ℤ◌, ◌*ℤ◌, unsigned_abs, FitsSigned, to_z, of_z, w64, ◌∙◌, arith, rules, lit<}
use Rattle.std.proofs.lemmas.Int.{to_z-of_z, fits_signed_from_abs}
use Rattle.std.proofs.lemmas.Nat.{mul-le}
use Rattle.lbm_space.specs.Stencil.{part}
use Rattle.lbm_space.proofs.padded.distance.Goals as goal

part_is : (c : List ℤ) (a : ℕ) → unsigned_abs (part c a) ≤ 1 → to_z w64 (of_z w64 (part c a)) ≡ part c a
part_is c a unit = to_z-of_z w64 (part c a) (fits_signed_from_abs w64 (part c a) (omega arith))

pub apart-lines-requires-clause-step : goal.apart-lines-requires-clause-step
apart-lines-requires-clause-step c = let unit = c.requires.unit 1 (lit< tt) in rw (part_is c.args.c 1 unit) unit

pub apart-lines-requires-clause-lines : goal.apart-lines-requires-clause-lines
apart-lines-requires-clause-lines c = let unit = c.requires.unit 2 (lit< tt) in rw (part_is c.args.c 2 unit) (omega arith)

pub apart-requires-clause-step : goal.apart-requires-clause-step
apart-requires-clause-step c = let unit = c.requires.unit 0 (lit< tt) in rw (part_is c.args.c 0 unit) unit

pub apart-requires-clause-lines : goal.apart-requires-clause-lines
apart-requires-clause-lines c =
    let unit = c.requires.unit 2 (lit< tt) in
    let fits : FitsSigned w64 c.apart-lines.result = search rules in
    let size = c.apart-lines.ensures.size in let few = c.requires.sides in
    let lines : unsigned_abs (to_z w64 (of_z w64 (part c.args.c 2))) ≤ 1 = rw (part_is c.args.c 2 unit) unit in
    let top = mul-le (c.args.ny + 2) (unsigned_abs (to_z w64 (of_z w64 (part c.args.c 2)))) 4098 1 (omega (arith, few.1)) lines in
    rw (to_z-of_z w64 c.apart-lines.result fits) (omega (arith, size, top))

pub returns : goal.returns
returns c =
    let fits : FitsSigned w64 c.apart-lines.result = search rules in
    let fits' : FitsSigned w64 c.apart.result = search rules in
    let x = part_is c.args.c 0 (c.requires.unit 0 (lit< tt)) in let y = part_is c.args.c 1 (c.requires.unit 1 (lit< tt)) in let z = part_is c.args.c 2 (c.requires.unit 2 (lit< tt)) in
    to_z-of_z w64 c.apart.result fits' ∙ c.apart.ensures.value
    ∙ (λ i. x i +ℤ pos (c.args.nx + 2) *ℤ (to_z-of_z w64 c.apart-lines.result fits ∙ c.apart-lines.ensures.value ∙ (λ j. y j +ℤ pos (c.args.ny + 2) *ℤ z j)) i)
