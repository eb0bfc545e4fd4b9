use Rattle.ax_source.proofs.Accepting.{runnable}
use Rattle.ax_source.proofs.laws.accepted_modules_are_runnable.Goals as goal

pub returns : goal.returns
returns c = runnable c.accepted_passes_tests.ensures.width c.accepted_instructions_are_sound.ensures c.accepted_can_be_laid_out.ensures c.accepted_functions_are_within_limits.ensures.heads
