use Rattle.std.proofs.Common.{◌≡◌, ◌≤◌, List, Option, Vec, Global, vec_capacity, sym, ap, subst, ◌∙◌}
use mathlib.Core.Option.{some, some-injective}
use mathlib.Core.Option as maybe
use lib.ListN.{get_elem?}
use Rattle.lbm_board.proofs.reserved_list.ReservedList.take.Goals as goal

pub returns : goal.returns
returns g c =
    let last = c.close-closed.ensures.values.2 in
    let shelved = last.1 in
    let there = last.4 0 shelved.0 (ap (λ (h : List (maybe.Option (Vec (Option g.row.T.Denot) Global))). get_elem? h 0) shelved.1) in
    let same : shelved.0 ≡ c.take-list.result = some-injective shelved.0 c.take-list.result (sym there ∙ c.take-list.ensures.value) in
    (ap (λ (v : Vec (Option g.row.T.Denot) Global). v.items) (sym same) ∙ shelved.2, subst (λ (v : Vec (Option g.row.T.Denot) Global). c.args.self.table.shared.key ≤ vec_capacity v) same shelved.3)
