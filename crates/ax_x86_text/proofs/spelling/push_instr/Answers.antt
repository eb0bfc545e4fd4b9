use Rattle.ax_x86_text.specs.Spelling.{instr_text}
use Rattle.ax_x86_text.proofs.spelling.push_instr.Goals as goal

pub returns-in-LockCmpxchg : goal.returns-in-LockCmpxchg
unfolding instr_text
returns-in-LockCmpxchg c = rw c.in-LockCmpxchg.is c.push_locked-in-LockCmpxchg.ensures
