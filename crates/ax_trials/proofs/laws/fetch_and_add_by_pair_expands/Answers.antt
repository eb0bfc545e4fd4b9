use Rattle.ax_expand.proofs.Bytes.{bytes_lawful}
use Rattle.ax_words.specs.declared.operation.RmwOp.TheVariants as rmw
use Rattle.ax_loops.specs.Updating.{update_replacement}
use Rattle.ax_trials.proofs.Pairs.{adding_loop, fetch_and_add}
use Rattle.ax_trials.proofs.laws.fetch_and_add_by_pair_expands.Goals as goal

pub returns : goal.returns
returns c = λ keeps acquire release r h. c.retry_loop_expands.ensures r.update keeps (update_replacement rmw.Add 8 r.update) (adding_loop keeps acquire release r) bytes_lawful (fetch_and_add keeps acquire release r h)
