use Rattle.std.proofs.Common.{◌≡◌, ◌≤◌, ◌<◌, ◌+◌, ℕ, ℤ, pos, ◌+ℤ◌, ◌-ℤ◌, arith}
use Rattle.std.specs.Prelude.{slice_index}
use Rattle.std.proofs.lemmas.Int.{ints}
use Rattle.lbm_lanes.proofs.pair.changed_pair.Goals.{After-changes}
use Rattle.lbm_lanes.proofs.pair.changed_pair.Goals as goal

small_ahead : (c : After-changes) (l : ℕ) → l < 8 → slice_index c.args.f l ≤ 1769472
small_ahead c l known = let lane = (c.requires.lanes l known).2 in omega (arith, lane.ahead, lane.not_dense)

small_behind : (c : After-changes) (l : ℕ) → l < 8 → slice_index c.args.o l ≤ 1769472
small_behind c l known = let lane = (c.requires.lanes l known).2 in omega (arith, lane.behind, lane.not_dense)

raised_sum : (f more s : ℕ) (z : ℤ) → s ≡ f + more → pos more -ℤ pos 8388608 ≡ z → pos s -ℤ pos 8388608 ≡ pos f +ℤ z
raised_sum f more s z is change = omega (arith, ints, is, change)

pub sum-ahead-requires : goal.sum-ahead-requires
sum-ahead-requires c l known = omega (arith, small_ahead (goal.at.sum-ahead-requires c).After-changes l known, c.changes.ensures.ahead_size l known)

pub sum-behind-requires : goal.sum-behind-requires
sum-behind-requires c l known = omega (arith, small_behind (goal.at.sum-behind-requires c).After-changes l known, c.changes.ensures.behind_size l known)

pub returns-clause-ahead_size : goal.returns-clause-ahead_size
returns-clause-ahead_size c l known = omega (arith, small_ahead (goal.at.returns-clause-ahead_size c).After-changes l known, c.changes.ensures.ahead_size l known, c.sum-ahead.ensures l known)

pub returns-clause-behind_size : goal.returns-clause-behind_size
returns-clause-behind_size c l known = omega (arith, small_behind (goal.at.returns-clause-behind_size c).After-changes l known, c.changes.ensures.behind_size l known, c.sum-behind.ensures l known)

pub returns-clause-ahead : goal.returns-clause-ahead
returns-clause-ahead c l own known given = raised_sum (slice_index c.args.f l) (slice_index c.changes.result.0 l) (slice_index c.sum-ahead.result l) _ (c.sum-ahead.ensures l known) (c.changes.ensures.ahead l own known given)

pub returns-clause-behind : goal.returns-clause-behind
returns-clause-behind c l own known given = raised_sum (slice_index c.args.o l) (slice_index c.changes.result.1 l) (slice_index c.sum-behind.result l) _ (c.sum-behind.ensures l known) (c.changes.ensures.behind l own known given)
