use Rattle.ax_words.specs.declared.operation.RmwOp.TheVariants.{Or, Xor}
use Rattle.ax_ops.proofs.Operations.{result_of-fits}
use Rattle.ax_ops.proofs.operation.apply_to.Goals as goal

pub returns-in-Or-clause-fits : goal.returns-in-Or-clause-fits
returns-in-Or-clause-fits g c = result_of-fits _ Or _ _ c.requires.old c.requires.v

pub returns-in-Xor-clause-fits : goal.returns-in-Xor-clause-fits
returns-in-Xor-clause-fits g c = result_of-fits _ Xor _ _ c.requires.old c.requires.v
