use Rattle.ax_store.proofs.Steps.{cut_by}
use Rattle.ax_store.proofs.store.low.Goals as goal

pub returns-in-1 : goal.returns-in-1
returns-in-1 c = cut_by c.args.n c.args.v 1 c.in-1.is

pub returns-in-2 : goal.returns-in-2
returns-in-2 c = cut_by c.args.n c.args.v 2 c.in-2.is

pub returns-in-4 : goal.returns-in-4
returns-in-4 c = cut_by c.args.n c.args.v 4 c.in-4.is

pub returns-in-8 : goal.returns-in-8
returns-in-8 c = cut_by c.args.n c.args.v 8 c.in-8.is
