use Rattle.std.proofs.Common.{List, ℕ, ◌∙◌, ap, subst}
use Rattle.std.specs.Prelude.{nat_eq}
use Rattle.std.specs.List.{list_any}
use Rattle.std.specs.List.Sorted.{IsBinarySearchResult}
use Rattle.std.specs.Ordering.{nat_cmp}
use Rattle.lbm_model.proofs.Moving.{is_ok-searched}
use Rattle.lbm_model.proofs.case.Case.is_moving.Goals as goal

pub returns-clause-value : goal.returns-clause-value
returns-clause-value c =
    let moving = c.self.inside.moving.items in
    let found : IsBinarySearchResult (λ y. nat_cmp y c.args.cell) moving c.binary_search.result = subst (λ (xs : List ℕ). IsBinarySearchResult (λ y. nat_cmp y c.args.cell) xs c.binary_search.result) c.deref.ensures.value c.binary_search.ensures.position in
    c.is_ok.ensures.value
    ∙ is_ok-searched moving c.args.cell c.binary_search.result c.self.invariant.moving.rising found
    ∙ ap (λ (case : _). list_any (λ y. nat_eq c.args.cell y) case.moving) c.self.view_is
