use Rattle.ax_typed.proofs.Runs.{event_typed, run_typed, start_typed}
use Rattle.ax_source_run.specs.SourceRun.{source_start}
use Rattle.ax_typed.proofs.laws.numbers_are_typed.Goals as goal

pub returns-clause-start : goal.returns-clause-start
returns-clause-start c = λ program entries accepted. start_typed program.source entries

pub returns-clause-event : goal.returns-clause-event
returns-clause-event c = λ program e s accepted typed. event_typed program accepted c.accepted_instructions_are_sound.ensures c.accepted_passes_tests.ensures.width c.results_fit.ensures e s typed

pub returns-clause-run : goal.returns-clause-run
returns-clause-run c = λ program entries events accepted.
    run_typed program accepted c.accepted_instructions_are_sound.ensures c.accepted_passes_tests.ensures.width c.results_fit.ensures events (source_start program.source entries) (start_typed program.source entries)
