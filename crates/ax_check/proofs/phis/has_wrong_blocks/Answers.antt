use Rattle.std.proofs.Common.{rules}
use Rattle.ax_check.proofs.PhiTables.{table_right}
use Rattle.ax_check.proofs.phis.has_wrong_blocks.Goals as goal

pub returns-in-Some : goal.returns-in-Some
returns-in-Some c = table_right c.args.walks.now c.args.b c.args.entries.now c.in-Some.table.items c.misses_one.result (search rules) (search rules) (search rules)
