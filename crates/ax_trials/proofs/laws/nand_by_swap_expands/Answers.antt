use Rattle.ax_expand.proofs.Bytes.{bytes_lawful}
use Rattle.ax_words.specs.declared.operation.RmwOp.TheVariants as rmw
use Rattle.ax_loops.specs.Updating.{update_replacement}
use Rattle.ax_trials.proofs.Swap.{swap_loop, swaps}
use Rattle.ax_trials.proofs.laws.nand_by_swap_expands.Goals as goal

pub returns : goal.returns
returns c = λ keeps ending r h. c.compare_loop_expands.ensures r.update keeps (update_replacement rmw.Nand 8 r.update) (swap_loop keeps ending r) bytes_lawful (swaps keeps ending r h)
