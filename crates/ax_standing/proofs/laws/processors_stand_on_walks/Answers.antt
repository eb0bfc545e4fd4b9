use Rattle.ax_standing.proofs.Walked.{event_walks, run_walks, start_walks, used_at}
use Rattle.ax_source_run.specs.SourceRun.{source_start}
use Rattle.ax_standing.proofs.laws.processors_stand_on_walks.Goals as goal

pub returns-clause-start : goal.returns-clause-start
returns-clause-start c = λ program entries accepted are. start_walks program accepted c.accepted_instructions_are_sound.ensures entries are

pub returns-clause-event : goal.returns-clause-event
returns-clause-event c = λ program e s accepted h. event_walks program accepted c.accepted_instructions_are_sound.ensures e s h

pub returns-clause-run : goal.returns-clause-run
returns-clause-run c = λ program entries events accepted are.
    run_walks program accepted c.accepted_instructions_are_sound.ensures events (source_start program.source entries) (start_walks program accepted c.accepted_instructions_are_sound.ensures entries are)

pub returns-clause-made : goal.returns-clause-made
returns-clause-made c = λ program s i k accepted w at h gep. used_at program accepted c.accepted_instructions_are_sound.ensures s w i at k h gep
