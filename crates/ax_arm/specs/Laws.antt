-- Registers and sizes of effects are in their ranges.
use Rattle.std.proofs.Common.{◌≡◌, ℕ, ◌+◌, ◌<◌, ℤ, Bool, true, false, refl}
use Rattle.std.specs.Prelude.{not, nat_eq}
use Rattle.std.proofs.Math.Nat.{lt_trans}
use Rattle.std.proofs.lemmas.Bool.{leb-true, ltb-true}
use Rattle.std.proofs.lemmas.Nat.{mod_below}
use Rattle.ax_words.specs.Width.{IsWidth}
use Rattle.ax_isa.specs.Effects.{FitsRegister, IsEffect, IsRegister}
use Rattle.ax_isa.specs.Processor.{Processor}
use Rattle.ax_arm.specs.declared.instructions.ArmInstr.{ArmInstr}
use Rattle.ax_arm.specs.declared.instructions.ArmInstr.TheVariants as arm
use Rattle.ax_arm.specs.declared.instructions.Extension.{Extension}
use Rattle.ax_arm.specs.declared.instructions.Extension.TheVariants as extension
use Rattle.ax_arm.specs.declared.instructions.Size.{Size}
use Rattle.ax_arm.specs.declared.instructions.Size.TheVariants as sizes
use Rattle.ax_arm.specs.Effects.{bytes_of, effect_of, holds, jump_if, linked_pair, next_register}
use Rattle.ax_arm.specs.Instructions.{IsExtended, IsInstr, IsMoved, IsW}

width : (size : Size) → IsWidth (bytes_of size)
width sizes.Byte = refl
width sizes.Half = refl
width sizes.Word = refl
width sizes.Double = refl

fits : (size : Size) → FitsRegister (bytes_of size)
fits sizes.Byte = (refl, leb-true 1 8 refl)
fits sizes.Half = (refl, leb-true 2 8 refl)
fits sizes.Word = (refl, leb-true 4 8 refl)
fits sizes.Double = (refl, leb-true 8 8 refl)

zero_fits : IsRegister 0
zero_fits = ltb-true 0 32 refl

word_fits : (r : ℕ) → IsW r → IsRegister r
word_fits r h = lt_trans h (ltb-true 31 32 refl)

moved : (size : Size) (r : ℕ) → IsMoved size r → IsRegister r
moved sizes.Byte r h = word_fits r h
moved sizes.Half r h = word_fits r h
moved sizes.Word r h = word_fits r h
moved sizes.Double r h = h

extended : (op : Extension) (r : ℕ) → IsExtended op r → IsRegister r
extended extension.Uxtb r h = word_fits r h
extended extension.Uxth r h = word_fits r h
extended extension.Sxtb r h = h
extended extension.Sxth r h = h
extended extension.Sxtw r h = h

next_fits : (r : ℕ) → IsRegister (next_register r)
next_fits r = mod_below (r + 1) 32 zero_fits

jumps : (b : Bool) (place : ℕ) (d : ℤ) → IsEffect (jump_if b place d)
jumps true place d = tt
jumps false place d = tt

linked : (half : Bool) (rt rt2 a : ℕ) → IsRegister rt → IsRegister rt2 → IsEffect (linked_pair half rt rt2 a)
linked false rt rt2 a h k = h
linked true rt rt2 a h k = (k, fits sizes.Double)

pub effects_fit : (i : ArmInstr) (c : Processor) → IsInstr i → IsEffect (effect_of i c)
unfolding IsInstr effect_of
effects_fit (arm.Constant rd n) c h = h.0
effects_fit (arm.Mov rd rn) c h = h.0
effects_fit (arm.MovWord rd rn) c h = word_fits rd h.0
effects_fit (arm.Alu op rd rn rm) c h = h.0
effects_fit (arm.Neg rd rm) c h = h.0
effects_fit (arm.Mvn rd rm) c h = h.0
effects_fit (arm.Shift op rd rn k) c h = h.0
effects_fit (arm.Extend op rd rn) c h = extended op rd h.0
effects_fit (arm.Cmp rn rm) c h = tt
effects_fit (arm.Cset rd condition) c h = h
effects_fit (arm.Csel rd rn rm condition) c h = h.0
effects_fit (arm.Ldr size rt rn d) c h = (moved size rt h.0, fits size)
effects_fit (arm.Ldar size rt rn) c h = (moved size rt h.0, fits size)
effects_fit (arm.Str size rt rn d) c h = width size
effects_fit (arm.Stlr size rt rn) c h = width size
effects_fit (arm.Ldxr size rt rn) c h = (moved size rt h.0, fits size)
effects_fit (arm.Ldaxr size rt rn) c h = (moved size rt h.0, fits size)
effects_fit (arm.Ldxp rt rt2 rn) c h = linked c.half rt rt2 (c.regs rn) h.0 h.1
effects_fit (arm.Ldaxp rt rt2 rn) c h = linked c.half rt rt2 (c.regs rn) h.0 h.1
effects_fit (arm.Stxr size rs rt rn) c h = (word_fits rs h.0, width size)
effects_fit (arm.Stlxr size rs rt rn) c h = (word_fits rs h.0, width size)
effects_fit (arm.Stxp rs rt rt2 rn) c h = (word_fits rs h.0, refl)
effects_fit (arm.Stlxp rs rt rt2 rn) c h = (word_fits rs h.0, refl)
effects_fit (arm.Lse op ending size rs rt rn) c h = (moved size rt h.1, zero_fits, fits size)
effects_fit (arm.Cas ending size rs rt rn) c h = (moved size rs h.0, zero_fits, width size)
effects_fit (arm.Casp ending rs rt rn) c h = (h.0.0, next_fits rs, refl)
effects_fit (arm.Dmb barrier) c h = tt
effects_fit (arm.B d) c h = tt
effects_fit (arm.BCond condition d) c h = jumps (holds condition c.compared) c.place d
effects_fit (arm.Cbz rt d) c h = jumps (nat_eq (c.regs rt) 0) c.place d
effects_fit (arm.Cbnz rt d) c h = jumps (not (nat_eq (c.regs rt) 0)) c.place d
effects_fit (arm.Bl routine place) c h = ltb-true 30 32 refl
effects_fit arm.Ret c h = tt
effects_fit arm.Svc c h = tt
effects_fit arm.Brk c h = tt
effects_fit arm.Nop c h = tt
