use Rattle.std.proofs.Common.{rules}
use Rattle.ax_read.proofs.Derived.{only_one, only_fault}
use Rattle.ax_read.proofs.Formed.{all_well_formed}
use Rattle.ax_read.proofs.module_text.read.Goals as goal

pub returns-clause-only : goal.returns-clause-only
returns-clause-only c = λ m d. only_one c.args.text.now c.read_once.result (search rules) (search rules) m d

pub returns-clause-well_formed : goal.returns-clause-well_formed
returns-clause-well_formed c = all_well_formed c.args.text.now c.read_once.result (search rules)

pub returns-clause-faulty : goal.returns-clause-faulty
returns-clause-faulty c = λ fault h. only_fault c.args.text.now c.read_once.result (search rules) (search rules) fault h
