use Rattle.std.proofs.Common.{◌≡◌, ◌+◌, ◌*◌, ap, ◌∙◌, arith}
use Rattle.std.proofs.lemmas.Nat.{mul-add-lt}
use Rattle.lbm_space.specs.Torus.{Torus, rows}
use Rattle.lbm_rows.proofs.lending.lent_number.Goals as goal

pub returns-clause-known : goal.returns-clause-known
returns-clause-known g c =
    let t = c.args.case.now.torus in let e = mul-add-lt c.args.k (rows t) c.lent_row-lent.result g.V.VelocitySet.stencil.directions c.requires.array c.lent_row-lent.ensures.known in
    let is : c.row_number.result ≡ c.args.k * rows t + c.lent_row-lent.result = c.row_number.ensures ∙ ap (λ (u : Torus). c.args.k * rows u + c.lent_row-lent.result) c.space.ensures.value in
    omega (arith, e, is)
