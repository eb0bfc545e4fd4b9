-- x86-64's code of slots: its registers and displacements are in their ranges, and how many instructions it has.
use Rattle.std.proofs.Common.{◌≡◌, ℕ, suc, ◌+◌, ◌*◌, ◌<◌, Bool, true, false, List, [], ◌∷◌, length, refl, ap, arith}
use Rattle.std.specs.Prelude.{if◌then◌else◌, nat_eq}
use Rattle.ax_mid.specs.declared.registers.Virtual.{Virtual}
use Rattle.ax_x86.specs.Instructions.{IsInstr, IsOperand}
use Rattle.ax_emit.specs.Atomics.{gets_all, puts_all}
use Rattle.ax_emit_x86.specs.Code.{home, homes_from}
use Rattle.ax_emit_x86.specs.Slots.{get, put_last, slot_operand, x86_table}
use Rattle.ax_selected.specs.Registers.{key}
use Rattle.ax_selected.proofs.Small.{AreLow}
use Rattle.ax_sound.proofs.Shapes as shapes
use Rattle.ax_sound.proofs.Shapes.{AllPairs}
use Rattle.ax_sound.proofs.Straight.{AllGo}
use Rattle.ax_sound_x86.proofs.Instructions.{GoesOn, fits_back, x86}

-- a register of the machine, and a slot that a function can have
abbrev pub HasSlot : ℕ × ℕ → Type 0
HasSlot z = (z.0 < 16) × (z.1 < 8208)

operand_is : (r : ℕ) → r < 8208 → IsOperand (slot_operand r)
operand_is r low = (fits_back (8 * r + 7) (omega (arith, low)), omega arith)

get_goes : (z : ℕ × ℕ) → HasSlot z → AllGo x86 (get z.0 z.1)
unfolding IsInstr
get_goes z h = ((operand_is z.1 h.1, h.0), tt)

pub last_goes : (r t : ℕ) → t < 16 → r < 8208 → GoesOn (put_last r t)
unfolding IsInstr
last_goes r t lt low = (lt, operand_is r low)

pub gets_go : (zs : List (ℕ × ℕ)) → AllPairs HasSlot zs → AllGo x86 (gets_all x86_table zs)
gets_go zs h = shapes.gets_go x86 x86_table HasSlot get_goes zs h

pub puts_go : (zs : List (ℕ × ℕ)) → AllPairs HasSlot zs → AllGo x86 (puts_all x86_table zs)
puts_go zs h = shapes.puts_go x86 x86_table HasSlot (λ z one. (last_goes z.1 z.0 one.0 one.1, tt)) zs h

-- ---- the homes of what an operation takes and gives
home_is : (k : ℕ) → home k < 16
home_is k = by (nat_eq k 0) (nat_eq k 1) (nat_eq k 2)
  where
    by : (a b c : Bool) → (if a then 0 else (if b then 2 else (if c then 3 else 1))) < 16
    by true b c = omega arith
    by false true c = omega arith
    by false false true = omega arith
    by false false false = omega arith

pub homes_are : (k : ℕ) (rs : List Virtual) → AreLow rs → AllPairs HasSlot (homes_from key k rs)
homes_are k [] h = tt
homes_are k (r ∷ rs) h = ((home_is k, h.0), homes_are (k + 1) rs h.1)

pub homes_length : (k : ℕ) (rs : List Virtual) → length (homes_from key k rs) ≡ length rs
homes_length k [] = refl
homes_length k (r ∷ rs) = ap suc (homes_length (k + 1) rs)
