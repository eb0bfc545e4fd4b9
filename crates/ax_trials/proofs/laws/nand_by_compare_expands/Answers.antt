use Rattle.ax_expand.proofs.Bytes.{bytes_lawful}
use Rattle.ax_words.specs.declared.operation.RmwOp.TheVariants as rmw
use Rattle.ax_loops.specs.Updating.{update_replacement}
use Rattle.ax_trials.specs.Nand.{nand_update}
use Rattle.ax_trials.proofs.Nand.{nand, nand_loop}
use Rattle.ax_trials.proofs.laws.nand_by_compare_expands.Goals as goal

pub returns : goal.returns
returns c = λ keeps r h. c.compare_loop_expands.ensures (nand_update r) keeps (update_replacement rmw.Nand 8 (nand_update r)) (nand_loop keeps r) bytes_lawful (nand keeps r h)
