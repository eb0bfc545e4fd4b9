use Rattle.ax_cas.proofs.Coded.{are_counted, expands, few}
use Rattle.ax_cas.proofs.Rows.{rows}
use Rattle.ax_cas.proofs.laws.x86_code_expands.Goals as goal

pub returns-clause-expands : goal.returns-clause-expands
returns-clause-expands c = λ cx16 x way. (expands cx16 x way, few x)

pub returns-clause-counted : goal.returns-clause-counted
returns-clause-counted c = λ cx16 x way. are_counted cx16 x way

pub returns-clause-rows : goal.returns-clause-rows
returns-clause-rows c = λ cx16 o width order weak start way legal. rows cx16 o width order weak start way
