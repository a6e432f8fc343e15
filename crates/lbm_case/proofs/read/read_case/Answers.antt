use Rattle.toml.specs.View.{table_view}
use Rattle.lbm_case.specs.Views.{texts_view}
use Rattle.lbm_case.proofs.SmallRows.{small_rows}
use Rattle.lbm_case.proofs.read.read_case.Goals as goal

pub case_in-requires-clause-small : goal.case_in-requires-clause-small
case_in-requires-clause-small c =
    small_rows c.args.bytes.now (table_view c.in_ok-table.table) (texts_view c.in_ok-settings.settings.rows.now) c.requires c.in_ok-table.ensures c.in_ok-settings.ensures.rows
