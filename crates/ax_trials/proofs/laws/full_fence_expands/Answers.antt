use Rattle.ax_x86.specs.declared.instructions.X86Instr.TheVariants as x86
use Rattle.ax_trials.proofs.Buffered.{is_fence}
use Rattle.ax_trials.proofs.laws.full_fence_expands.Goals as goal

pub returns : goal.returns
returns c = λ keeps. c.one_access_follows.ensures tt keeps x86.Mfence (is_fence keeps)
