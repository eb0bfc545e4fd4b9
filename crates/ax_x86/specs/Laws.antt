-- No effect is of a pair, and registers and sizes of effects are in their ranges.
use Rattle.std.proofs.Common.{◌≡◌, ℕ, true, false, refl}
use Rattle.std.proofs.Math.Nat.{lt_trans}
use Rattle.std.proofs.lemmas.Bool.{leb-true, ltb-true}
use Rattle.ax_isa.specs.Effects.{FitsRegister, IsEffect, IsRegister, is_paired}
use Rattle.ax_isa.specs.Processor.{Processor}
use Rattle.ax_x86.specs.declared.instructions.Size.{Size}
use Rattle.ax_x86.specs.declared.instructions.Size.TheVariants.{Byte, Word, Long, Quad}
use Rattle.ax_x86.specs.declared.instructions.X86Instr.{X86Instr}
use Rattle.ax_x86.specs.declared.instructions.X86Instr.TheVariants as x86
use Rattle.ax_x86.specs.Instructions.{IsInstr, IsGeneralRegister, effect_of}
use Rattle.ax_x86.specs.Sizes.{size_bytes}

pub never_paired : (i : X86Instr) (c : Processor) → is_paired (effect_of i c) ≡ true → false ≡ true
unfolding effect_of
never_paired (x86.Movabs n to) c h = h
never_paired (x86.Mov from to) c h = h
never_paired (x86.Alu op from to) c h = h
never_paired (x86.Neg to) c h = h
never_paired (x86.Not to) c h = h
never_paired (x86.Shift op count to) c h = h
never_paired (x86.Extend extension from to) c h = h
never_paired (x86.Cmp right left) c h = h
never_paired (x86.Setcc condition to) c h = h
never_paired (x86.Cmovcc condition from to) c h = h
never_paired (x86.Load size memory to) c h = h
never_paired (x86.Store size from memory) c h = h
never_paired (x86.Xchg size r memory) c h = h
never_paired (x86.LockXadd size r memory) c h = h
never_paired (x86.LockCmpxchg size from memory) c h = h
never_paired (x86.LockCmpxchg16b memory) c h = h
never_paired x86.Mfence c h = h
never_paired (x86.Jmp distance) c h = h
never_paired (x86.Jcc condition distance) c h = h
never_paired (x86.Call routine place) c h = h
never_paired x86.Ret c h = h
never_paired x86.Syscall c h = h
never_paired x86.Ud2 c h = h
never_paired x86.Nop c h = h

register_fits : (r : ℕ) → IsGeneralRegister r → IsRegister r
register_fits r h = lt_trans h (ltb-true 16 32 refl)

size_fits : (size : Size) → FitsRegister (size_bytes size)
size_fits Byte = (refl, leb-true 1 8 refl)
size_fits Word = (refl, leb-true 2 8 refl)
size_fits Long = (refl, leb-true 4 8 refl)
size_fits Quad = (refl, leb-true 8 8 refl)

pub effects_fit : (i : X86Instr) (c : Processor) → IsInstr i → IsEffect (effect_of i c)
unfolding effect_of IsInstr
effects_fit (x86.Movabs n to) c h = register_fits to h.1
effects_fit (x86.Mov from to) c h = register_fits to h.1
effects_fit (x86.Alu op from to) c h = register_fits to h.1
effects_fit (x86.Neg to) c h = register_fits to h
effects_fit (x86.Not to) c h = register_fits to h
effects_fit (x86.Shift op count to) c h = register_fits to h.1
effects_fit (x86.Extend extension from to) c h = register_fits to h.1
effects_fit (x86.Cmp right left) c h = tt
effects_fit (x86.Setcc condition to) c h = register_fits to h
effects_fit (x86.Cmovcc condition from to) c h = register_fits to h.1
effects_fit (x86.Load size memory to) c h = (register_fits to h.1, size_fits size)
effects_fit (x86.Store size from memory) c h = (size_fits size).0
effects_fit (x86.Xchg size r memory) c h = (register_fits r h.0, ltb-true 0 32 refl, size_fits size)
effects_fit (x86.LockXadd size r memory) c h = (register_fits r h.0, ltb-true 0 32 refl, size_fits size)
effects_fit (x86.LockCmpxchg size from memory) c h = (ltb-true 0 32 refl, ltb-true 0 32 refl, (size_fits size).0)
effects_fit (x86.LockCmpxchg16b memory) c h = (ltb-true 0 32 refl, ltb-true 2 32 refl, refl)
effects_fit x86.Mfence c h = tt
effects_fit (x86.Jmp distance) c h = tt
effects_fit (x86.Jcc condition distance) c h = tt
effects_fit (x86.Call routine place) c h = ltb-true 4 32 refl
effects_fit x86.Ret c h = ltb-true 4 32 refl
effects_fit x86.Syscall c h = tt
effects_fit x86.Ud2 c h = tt
effects_fit x86.Nop c h = tt
