use Rattle.std.proofs.Common.{List, [], ◌∷◌, ◌++◌, map, Option, Vec, Global, ap, ◌∙◌}
use mathlib.Core.Option.{some}
use Rattle.lbm_board.proofs.reserved_list.ReservedList.new.Goals as goal

pub new-requires : goal.new-requires
new-requires g c =
    let list : Vec (Option g.row.T.Denot) Global = c.in_ok-list.list in (
      list,
      ap (λ (l : List (Vec (Option g.row.T.Denot) Global)). map some l) (c.push_reserved.ensures.items ∙ ap (λ (l : List (Vec (Option g.row.T.Denot) Global)). l ++ list ∷ []) c.in_ok-slots.ensures.items),
      c.in_ok-list.ensures.items,
      c.in_ok-list.ensures.capacity,
    )
