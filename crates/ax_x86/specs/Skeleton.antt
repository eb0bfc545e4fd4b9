-- The skeleton of x86-64 code: its memory, fence and call instructions in order, with sizes, without the accesses whose base is one of some registers.
-- `call` and `ret` touch the stack alone, whose pointer is a frame register; a call has the mark of its routine.
use Rattle.std.specs.Prelude.{ℕ, Bool, List, [], ◌∷◌, flat_map}
use Rattle.ax_words.specs.declared.mark.FenceCode.TheVariants as fence
use Rattle.ax_words.specs.declared.mark.Mark.{Mark}
use Rattle.ax_words.specs.declared.mark.Mark.TheVariants as mark
use Rattle.ax_words.specs.declared.mark.MarkCode.TheVariants as code
use Rattle.ax_isa.specs.Marks.{access_marks}
use Rattle.ax_x86.specs.declared.instructions.X86Instr.{X86Instr}
use Rattle.ax_x86.specs.declared.instructions.X86Instr.TheVariants as x86
use Rattle.ax_x86.specs.Sizes.{size_bytes}

-- `skip`: the registers whose accesses are left out
unfoldable pub mark_of : (ℕ → Bool) → X86Instr → List Mark
mark_of skip (x86.Load size memory to) = access_marks skip memory.base code.X86Load (size_bytes size)
mark_of skip (x86.Store size from memory) = access_marks skip memory.base code.X86Store (size_bytes size)
mark_of skip (x86.Xchg size r memory) = access_marks skip memory.base code.Xchg (size_bytes size)
mark_of skip (x86.LockXadd size r memory) = access_marks skip memory.base code.LockXadd (size_bytes size)
mark_of skip (x86.LockCmpxchg size from memory) = access_marks skip memory.base code.LockCmpxchg (size_bytes size)
mark_of skip (x86.LockCmpxchg16b memory) = access_marks skip memory.base code.LockCmpxchg16b 16
mark_of skip x86.Mfence = mark.Fence fence.Mfence ∷ []
mark_of skip (x86.Call routine place) = mark.Call routine ∷ []
mark_of skip _ = []

abbrev pub skeleton : (ℕ → Bool) → List X86Instr → List Mark
skeleton skip code = flat_map (mark_of skip) code
