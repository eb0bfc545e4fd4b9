use Rattle.ax_target.proofs.EachRow.{each_has_rows}
use Rattle.ax_target.proofs.rows.rows_hold.Goals as goal

pub returns-clause-whole : goal.returns-clause-whole
returns-clause-whole c = each_has_rows
