use Rattle.std.proofs.Common.{◌≡◌, ℕ, [], ◌∷◌, length, replicate, None, refl, sym, ap, subst, ◌∙◌, arith, Vec, Global}
use Rattle.atomic_table.specs.Table.{opening}
use Rattle.lbm_board.specs.Entries.{greatest}
use Rattle.lbm_board.specs.RunningRule.{RunningRule, first_view}
use Rattle.lbm_board.proofs.Filling.{begins}
use Rattle.lbm_board.proofs.start.make_table.Goals as goal

pub vacant-requires : goal.vacant-requires
vacant-requires g c =
    let given = c.of.result.value.items in
    let turns = c.args.turns in
    let long : length given ≡ c.len.result = ap (λ (v : Vec g.row.T.Denot Global). length v.items) c.of.ensures ∙ sym c.args.pieces.ok.0 ∙ sym c.len.ensures in
    let some_turn = c.requires.1 in
    let few = c.requires.0 in
    let most = c.requires.2 in
    let count = c.len.ensures in
    subst (λ (n : ℕ). RunningRule turns given (opening (0 ∷ greatest ∷ []) (replicate n None) (first_view turns given))) long (begins turns given 0 greatest refl refl some_turn (omega arith))
