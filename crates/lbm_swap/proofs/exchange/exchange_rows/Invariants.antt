use Rattle.std.proofs.Common.{◌≡◌, ◌*◌, ◌≤◌, length}
use Rattle.lbm_swap.specs.Exchange.{IsReady, IsExchangedIn}
use Rattle.lbm_swap.proofs.exchange.exchange_rows.Given as goal

abbrev pub invariant-loop-row : goal.invariant-loop-row
invariant-loop-row l = record {
  low : l.initial.loan.rows.0 ≤ l.row;
  rows : l.loan.rows ≡ l.initial.loan.rows;
  place : l.loan.place ≡ l.initial.loan.place;
  ready : IsReady l.work.space.now l.work.partners.now l.initial.loan.rows l.loan.ranges;
  done : IsExchangedIn l.work.space.now (length l.work.partners.now) l.work.partners.now l.initial.loan.rows (l.initial.loan.rows.0 * l.work.space.now.nx) (l.row * l.work.space.now.nx) l.initial.loan.ranges l.loan.ranges;
}
