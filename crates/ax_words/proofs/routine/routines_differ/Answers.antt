use Rattle.ax_words.proofs.Routines.{routine_named-name_of}
use Rattle.ax_words.proofs.routine.routines_differ.Goals as goal

pub returns-clause-names : goal.returns-clause-names
returns-clause-names c = routine_named-name_of
