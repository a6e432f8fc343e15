use Rattle.std.proofs.Common.{◌≡◌, ◌+◌, ◌-◌, ◌*◌, ◌≤◌, length}
use Rattle.lbm_swap.specs.Exchange.{IsReady, IsExchangedIn}
use Rattle.lbm_swap.proofs.exchange.exchange_row.Given as goal

abbrev pub invariant-loop-done : goal.invariant-loop-done
invariant-loop-done l = record {
  within : l.done ≤ l.width;
  rows : l.loan.rows ≡ l.initial.loan.rows;
  place : l.loan.place ≡ l.initial.loan.place;
  ready : IsReady l.work.space.now l.work.partners.now l.initial.loan.rows l.loan.ranges;
  done : IsExchangedIn l.work.space.now (length l.work.partners.now) l.work.partners.now l.initial.loan.rows (l.row * l.work.space.now.nx) (l.row * l.work.space.now.nx + l.done) l.initial.loan.ranges l.loan.ranges;
}

abbrev pub decreases-loop-done : goal.decreases-loop-done
decreases-loop-done l = l.width - l.done
