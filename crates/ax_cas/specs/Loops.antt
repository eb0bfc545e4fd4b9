-- THE CODE OF THE WAY CASLOOP ON X86-64: loops of a locked compare-and-swap (Intel SDM volume 2, CMPXCHG, CMPXCHG16B, SETcc, CMOVcc), on the registers that emission gives them. Each is right for every read-modify-write, those that have an instruction of their own included.
use Rattle.std.specs.Prelude.{ℕ, Bool, true, false, List, [], ◌∷◌, ◌++◌, negsuc, length}
use Rattle.ax_words.specs.declared.operation.RmwOp.{RmwOp}
use Rattle.ax_words.specs.declared.operation.RmwOp.TheVariants as rmw
use Rattle.ax_words.specs.declared.width.Width.{Width}
use Rattle.ax_words.specs.declared.width.Width.TheVariants.{W8, W16, W32, W64, W128}
use Rattle.ax_words.specs.Width.{bytes_of}
use Rattle.ax_x86.specs.declared.instructions.Alu.{Alu as AluOp}
use Rattle.ax_x86.specs.declared.instructions.Alu.TheVariants as alu
use Rattle.ax_x86.specs.declared.instructions.Condition.{Condition}
use Rattle.ax_x86.specs.declared.instructions.Condition.TheVariants as condition
use Rattle.ax_x86.specs.declared.instructions.Extension.TheVariants.{SignByte, SignLong, SignWord, ZeroByte, ZeroLong, ZeroWord}
use Rattle.ax_x86.specs.declared.instructions.Shift.TheVariants as shift
use Rattle.ax_x86.specs.declared.instructions.X86Instr.{X86Instr}
use Rattle.ax_x86.specs.declared.instructions.X86Instr.TheVariants.{Alu, Cmovcc, Cmp, Extend, Jcc, LockCmpxchg, LockCmpxchg16b, Mov, Movabs, Not, Setcc, Shift}
use Rattle.ax_emit_x86.specs.Code.{at_address, load_in, size_of_bytes}
use Rattle.ax_cas.specs.Compares.{Loop}

-- back to the computation where memory had another number
abbrev pub back_over : List X86Instr → X86Instr
back_over computation = Jcc condition.NotEqual (negsuc (length computation))

-- ---- numbers of a width in registers
-- a register keeps the low bits alone, extended by zeros or by their sign; all 64 stay where they are
abbrev pub low_bits : Bool → Width → ℕ → X86Instr
low_bits false W8 r = Extend ZeroByte r r
low_bits false W16 r = Extend ZeroWord r r
low_bits false W32 r = Extend ZeroLong r r
low_bits true W8 r = Extend SignByte r r
low_bits true W16 r = Extend SignWord r r
low_bits true W32 r = Extend SignLong r r
low_bits signed _ r = Shift shift.Shl 0 r

-- r9 gets the number that was found in rax, with zeros above or extended by its sign
abbrev pub copied : Bool → Width → X86Instr
copied true W8 = Extend SignByte 0 9
copied true W16 = Extend SignWord 0 9
copied true W32 = Extend SignLong 0 9
copied _ _ = Mov 0 9

-- ---- up to 8 bytes
-- two numbers are compared by their signs
abbrev pub is_signed : RmwOp → Bool
is_signed rmw.Max = true
is_signed rmw.Min = true
is_signed _ = false

-- r9 gets the operand of r8 where a condition holds of both
abbrev pub operand_where : Condition → List X86Instr
operand_where c = Cmp 8 9 ∷ Cmovcc c 8 9 ∷ []

-- r9 has the number that was found, r8 the operand: r9 gets what the operation leaves
abbrev pub combined : RmwOp → List X86Instr
combined rmw.Xchg = Mov 8 9 ∷ []
combined rmw.Add = Alu alu.Add 8 9 ∷ []
combined rmw.Sub = Alu alu.Sub 8 9 ∷ []
combined rmw.And = Alu alu.And 8 9 ∷ []
combined rmw.Nand = Alu alu.And 8 9 ∷ Not 9 ∷ []
combined rmw.Or = Alu alu.Or 8 9 ∷ []
combined rmw.Xor = Alu alu.Xor 8 9 ∷ []
combined rmw.Max = operand_where condition.Less
combined rmw.Min = operand_where condition.Greater
combined rmw.UMax = operand_where condition.Below
combined rmw.UMin = operand_where condition.Above

abbrev pub narrow_computation : RmwOp → Width → List X86Instr
narrow_computation o width = copied (is_signed o) width ∷ combined o

-- the operand goes to r8; rax gets the number that is found
abbrev pub narrow_loop : RmwOp → Width → Loop X86Instr
narrow_loop o width =
    record {
      before = Mov 0 8 ∷ low_bits (is_signed o) width 8 ∷ [];
      probe = load_in (bytes_of width);
      computation = narrow_computation o width;
      exchange = LockCmpxchg (size_of_bytes (bytes_of width)) 9 at_address;
      branch = back_over (narrow_computation o width);
      after = [];
    }

-- ---- 16 bytes: rdx:rax gets the number that is found, rcx:rbx what is stored over it, r9:r8 has the operand
-- rbx and rcx are kept in r10 and r11
abbrev pub saved : List X86Instr
saved = Mov 3 10 ∷ Mov 1 11 ∷ []

abbrev pub restored : List X86Instr
restored = Mov 10 3 ∷ Mov 11 1 ∷ []

-- zero is compared with, and zero is stored over it
abbrev pub zeroed : List X86Instr
zeroed = Movabs 0 0 ∷ Movabs 0 2 ∷ Movabs 0 3 ∷ Movabs 0 1 ∷ []

-- both halves by one operation
abbrev pub halves : AluOp → List X86Instr
halves a = Mov 0 3 ∷ Alu a 8 3 ∷ Mov 2 1 ∷ Alu a 9 1 ∷ []

-- r13 becomes 1 where a number of two registers is below another, else 0: by the high halves, and where these are equal by the low ones
abbrev pub lesser : Condition → ℕ → ℕ → ℕ → ℕ → List X86Instr
lesser c low high than_low than_high = Movabs 0 12 ∷ Movabs 0 13 ∷ Cmp than_low low ∷ Setcc condition.Below 12 ∷ Cmp than_high high ∷ Setcc c 13 ∷ Cmovcc condition.Equal 12 13 ∷ []

-- the operand where r13 is not 0, else the number found
abbrev pub chosen : List X86Instr
chosen = Mov 0 3 ∷ Mov 2 1 ∷ Movabs 0 12 ∷ Cmp 12 13 ∷ Cmovcc condition.NotEqual 8 3 ∷ Cmovcc condition.NotEqual 9 1 ∷ []

-- a carry, and a borrow, go from the low half to the high one
abbrev pub wide_computation : RmwOp → List X86Instr
wide_computation rmw.Xchg = Mov 8 3 ∷ Mov 9 1 ∷ []
wide_computation rmw.Add = Movabs 0 12 ∷ Mov 0 3 ∷ Alu alu.Add 8 3 ∷ Cmp 8 3 ∷ Setcc condition.Below 12 ∷ Mov 2 1 ∷ Alu alu.Add 9 1 ∷ Alu alu.Add 12 1 ∷ []
wide_computation rmw.Sub = Movabs 0 12 ∷ Cmp 8 0 ∷ Setcc condition.Below 12 ∷ Mov 0 3 ∷ Alu alu.Sub 8 3 ∷ Mov 2 1 ∷ Alu alu.Sub 9 1 ∷ Alu alu.Sub 12 1 ∷ []
wide_computation rmw.And = halves alu.And
wide_computation rmw.Nand = halves alu.And ++ (Not 3 ∷ Not 1 ∷ [])
wide_computation rmw.Or = halves alu.Or
wide_computation rmw.Xor = halves alu.Xor
wide_computation rmw.Max = lesser condition.Less 0 2 8 9 ++ chosen
wide_computation rmw.Min = lesser condition.Less 8 9 0 2 ++ chosen
wide_computation rmw.UMax = lesser condition.Below 0 2 8 9 ++ chosen
wide_computation rmw.UMin = lesser condition.Below 8 9 0 2 ++ chosen

abbrev pub wide_loop_of : List X86Instr → List X86Instr → Loop X86Instr
wide_loop_of computation after =
    record {
      before = Mov 0 8 ∷ Mov 2 9 ∷ (saved ++ zeroed);
      probe = LockCmpxchg16b at_address;
      computation = computation;
      exchange = LockCmpxchg16b at_address;
      branch = back_over computation;
      after = after;
    }

abbrev pub wide_loop : RmwOp → Loop X86Instr
wide_loop o = wide_loop_of (wide_computation o) restored

-- a store is an exchange whose result is forgotten: what it took stands in rax and rdx again
abbrev pub wide_store : Loop X86Instr
wide_store = wide_loop_of (wide_computation rmw.Xchg) (restored ++ (Mov 8 0 ∷ Mov 9 2 ∷ []))
