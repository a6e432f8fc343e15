use Rattle.std.proofs.Common.{◌-◌, ◌<◌, length, drop}
use Rattle.lbm_board.specs.Fields.{times}
use Rattle.lbm_board.proofs.holding.place_of.Given as goal

-- the number stands at this place or later
abbrev pub invariant-loop-place : goal.invariant-loop-place
invariant-loop-place l = 0 < times l.number (drop l.place l.numbers)

abbrev pub decreases-loop-place : goal.decreases-loop-place
decreases-loop-place l = length l.numbers - l.place
