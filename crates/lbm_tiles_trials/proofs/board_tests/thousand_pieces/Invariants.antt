use Rattle.std.proofs.Common.{◌≡◌, vec_len}
use Rattle.lbm_tiles_trials.proofs.board_tests.thousand_pieces.Given as goal

abbrev pub invariant-loop : goal.invariant-loop
invariant-loop l = vec_len l.pieces ≡ l.counter
