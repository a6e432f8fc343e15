-- The records of all turns in one seat.
use Rattle.std.proofs.Common.{◌≡◌, List, [], ◌∷◌, ◌++◌, map, length, ap, sym, ◌∙◌}
use Rattle.std.proofs.lemmas.List.{length-map}
use mathlib.Core.List.{map-append}
use Rattle.lbm_board.specs.declared.record.Record.{Record}
use Rattle.lbm_board.specs.Lists.{total}
use Rattle.lbm_board.specs.RunningRule.{each_one}
use Rattle.lbm_board.specs.Models.{TurnModel, log_of}
use Rattle.lbm_board.proofs.SplitAndJoin.{total_ones}

module _ {T : Type 0} (all others : List (TurnModel T)) (last : TurnModel T) (is : all ≡ others ++ last ∷ []) (records : List (Record T)) where
  -- the records of all turns, in their order
  pub in_order : records ≡ map log_of others ++ last.log ∷ [] → records ≡ map log_of all
  in_order gathered = gathered ∙ sym (ap (λ (ts : List (TurnModel T)). map log_of ts) is ∙ map-append log_of others (last ∷ []))

  -- there are as many as turns
  pub as_many : records ≡ map log_of all → total each_one records ≡ length all
  as_many gathered = total_ones records ∙ ap length gathered ∙ length-map all log_of
