-- The lines of an instruction that computes: its operands, what it computes, and its result, each piece ending in the one line that has the event.
use Rattle.std.specs.Prelude.{ℕ, Bool, true, false, nat_eq, if◌then◌else◌, List, [], ◌∷◌, ◌++◌}
use Rattle.ax_module.specs.declared.inst.BinOp.{BinOp}
use Rattle.ax_module.specs.declared.inst.BinOp.TheVariants as bin
use Rattle.ax_module.specs.declared.inst.Cast.{Cast}
use Rattle.ax_module.specs.declared.inst.Cast.TheVariants.{Zext, Sext, Trunc}
use Rattle.ax_module.specs.declared.inst.Pred.{Pred}
use Rattle.ax_module.specs.declared.inst.Pred.TheVariants.{Eq, Ne, Ugt, Uge, Ult, Ule, Sgt, Sge, Slt, Sle}
use Rattle.ax_module.specs.declared.operand.Operand.{Operand}
use Rattle.ax_module.specs.declared.types.Ty.{Ty}
use Rattle.ax_module.specs.declared.types.Ty.TheVariants.{I1}
use Rattle.ax_source_run.specs.SourceValues.{type_bits}
use Rattle.ax_mid.specs.declared.instruction.MidInst.{MidInst}
use Rattle.ax_mid.specs.declared.instruction.MidInst.TheVariants as mid
use Rattle.ax_mid.specs.declared.instruction.MidOp.{MidOp}
use Rattle.ax_mid.specs.declared.instruction.MidOp.TheVariants as op
use Rattle.ax_mid.specs.declared.instruction.MidShift.TheVariants as shift
use Rattle.ax_mid.specs.declared.registers.Virtual.{Virtual}
use Rattle.ax_selected.specs.Operands.{constant_of, high_into, is_narrow, low_into}
use Rattle.ax_selected.specs.Registers.{flag_of, high_of, low_of, virtual}

-- silent instructions, and then one with the event
pub record Straight : Type 0 where
  pub silent : List (MidInst Virtual)
  pub last : MidInst Virtual

-- into register r: a number of so many bits of register from
abbrev pub cut_into : ℕ → ℕ → ℕ → MidInst Virtual
cut_into r from bits = mid.Extend (virtual r) (virtual from) bits false

abbrev pub apply : MidOp → ℕ → ℕ → ℕ → MidInst Virtual
apply operation to a b = mid.Apply operation (virtual to) (virtual a) (virtual b)

abbrev pub copy : ℕ → ℕ → MidInst Virtual
copy to from = mid.Copy (virtual to) (virtual from)

-- ---- at most 64 bits
abbrev pub narrow_op : MidOp → ℕ → Ty → Operand → Operand → Straight
narrow_op operation k ty a b = record { silent = low_into 0 ty a ∷ low_into 1 ty b ∷ apply operation 0 0 1 ∷ []; last = cut_into (low_of k) 0 (type_bits ty) }

abbrev pub narrow_shl : ℕ → Ty → Operand → ℕ → Straight
narrow_shl k ty a by = record { silent = low_into 0 ty a ∷ mid.Shift shift.Shl (virtual 0) (virtual 0) by ∷ []; last = cut_into (low_of k) 0 (type_bits ty) }

abbrev pub narrow_lshr : ℕ → Ty → Operand → ℕ → Straight
narrow_lshr k ty a by = record { silent = low_into 0 ty a ∷ []; last = mid.Shift shift.Lshr (virtual (low_of k)) (virtual 0) by }

abbrev pub narrow_ashr : ℕ → Ty → Operand → ℕ → Straight
narrow_ashr k ty a by = record {
  silent = low_into 0 ty a ∷ mid.Extend (virtual 0) (virtual 0) (type_bits ty) true ∷ mid.Shift shift.Ashr (virtual 0) (virtual 0) by ∷ [];
  last = cut_into (low_of k) 0 (type_bits ty);
}

abbrev pub narrow_bin : BinOp → ℕ → Ty → Operand → Operand → Straight
narrow_bin bin.Add k ty a b = narrow_op op.Add k ty a b
narrow_bin bin.Sub k ty a b = narrow_op op.Sub k ty a b
narrow_bin bin.Mul k ty a b = narrow_op op.Mul k ty a b
narrow_bin bin.And k ty a b = narrow_op op.And k ty a b
narrow_bin bin.Or k ty a b = narrow_op op.Or k ty a b
narrow_bin bin.Xor k ty a b = narrow_op op.Xor k ty a b
narrow_bin bin.Shl k ty a b = narrow_shl k ty a (constant_of ty b)
narrow_bin bin.Lshr k ty a b = narrow_lshr k ty a (constant_of ty b)
narrow_bin bin.Ashr k ty a b = narrow_ashr k ty a (constant_of ty b)

-- ---- 128 bits: the halves of a into 0 and 1, those of b into 2 and 3
abbrev pub both_into : Ty → Operand → Operand → List (MidInst Virtual)
both_into ty a b = low_into 0 ty a ∷ high_into 1 ty a ∷ low_into 2 ty b ∷ high_into 3 ty b ∷ []

-- a sum and its carry, or a difference and its borrow
abbrev pub carried : MidOp → ℕ → ℕ → ℕ → List (MidInst Virtual)
carried operation k x y = apply operation 4 0 2 ∷ apply op.Ult 5 x y ∷ apply operation 6 1 3 ∷ apply operation (high_of k) 6 5 ∷ []

abbrev pub wide_add : ℕ → Ty → Operand → Operand → Straight
wide_add k ty a b = record { silent = both_into ty a b ++ carried op.Add k 4 0; last = copy (low_of k) 4 }

abbrev pub wide_sub : ℕ → Ty → Operand → Operand → Straight
wide_sub k ty a b = record { silent = both_into ty a b ++ carried op.Sub k 0 2; last = copy (low_of k) 4 }

abbrev pub wide_op : MidOp → ℕ → Ty → Operand → Operand → Straight
wide_op operation k ty a b = record { silent = both_into ty a b ++ apply operation (high_of k) 1 3 ∷ []; last = apply operation (low_of k) 0 2 }

-- by 64 bits
abbrev pub wide_shl : ℕ → Ty → Operand → Straight
wide_shl k ty a = record { silent = low_into 0 ty a ∷ copy (high_of k) 0 ∷ []; last = mid.Const (virtual (low_of k)) 0 }

abbrev pub wide_lshr : ℕ → Ty → Operand → Straight
wide_lshr k ty a = record { silent = high_into 0 ty a ∷ mid.Const (virtual (high_of k)) 0 ∷ []; last = copy (low_of k) 0 }

abbrev pub wide_ashr : ℕ → Ty → Operand → Straight
wide_ashr k ty a = record { silent = high_into 0 ty a ∷ mid.Shift shift.Ashr (virtual (high_of k)) (virtual 0) 63 ∷ []; last = copy (low_of k) 0 }

-- a product of 128 bits is refused
abbrev pub wide_bin : BinOp → ℕ → Ty → Operand → Operand → Straight
wide_bin bin.Add k ty a b = wide_add k ty a b
wide_bin bin.Sub k ty a b = wide_sub k ty a b
wide_bin bin.Mul k ty a b = narrow_op op.Mul k ty a b
wide_bin bin.And k ty a b = wide_op op.And k ty a b
wide_bin bin.Or k ty a b = wide_op op.Or k ty a b
wide_bin bin.Xor k ty a b = wide_op op.Xor k ty a b
wide_bin bin.Shl k ty a b = wide_shl k ty a
wide_bin bin.Lshr k ty a b = wide_lshr k ty a
wide_bin bin.Ashr k ty a b = wide_ashr k ty a

abbrev pub bin_lines : BinOp → ℕ → Ty → Operand → Operand → Straight
bin_lines operation k ty a b = if is_narrow ty then narrow_bin operation k ty a b else wide_bin operation k ty a b

-- ---- comparisons
-- the operation, whether its operands change places, and whether they are extended by their signs
pub record Comparison : Type 0 where
  pub operation : MidOp
  pub swapped : Bool
  pub signed : Bool

abbrev pub comparison : Pred → Comparison
comparison Eq = record { operation = op.Eq; swapped = false; signed = false }
comparison Ne = record { operation = op.Ne; swapped = false; signed = false }
comparison Ugt = record { operation = op.Ult; swapped = true; signed = false }
comparison Uge = record { operation = op.Ule; swapped = true; signed = false }
comparison Ult = record { operation = op.Ult; swapped = false; signed = false }
comparison Ule = record { operation = op.Ule; swapped = false; signed = false }
comparison Sgt = record { operation = op.Slt; swapped = true; signed = true }
comparison Sge = record { operation = op.Sle; swapped = true; signed = true }
comparison Slt = record { operation = op.Slt; swapped = false; signed = true }
comparison Sle = record { operation = op.Sle; swapped = false; signed = true }

abbrev pub extended_both : Bool → ℕ → List (MidInst Virtual)
extended_both signed bits = mid.Extend (virtual 0) (virtual 0) bits signed ∷ mid.Extend (virtual 1) (virtual 1) bits signed ∷ []

abbrev pub narrow_icmp : Comparison → ℕ → Ty → Operand → Operand → Straight
narrow_icmp c k ty a b = record {
  silent = low_into 0 ty a ∷ low_into 1 ty b ∷ extended_both c.signed (type_bits ty);
  last = if c.swapped then apply c.operation (low_of k) 1 0 else apply c.operation (low_of k) 0 1;
}

-- numbers of 128 bits are compared for being equal alone
abbrev pub wide_icmp : Comparison → ℕ → Ty → Operand → Operand → Straight
wide_icmp c k ty a b = record {
  silent = both_into ty a b ++ apply op.Xor 0 0 2 ∷ apply op.Xor 1 1 3 ∷ apply op.Or 0 0 1 ∷ mid.Const (virtual 1) 0 ∷ [];
  last = apply c.operation (low_of k) 0 1;
}

abbrev pub icmp_lines : Pred → ℕ → Ty → Operand → Operand → Straight
icmp_lines condition k ty a b = if is_narrow ty then narrow_icmp (comparison condition) k ty a b else wide_icmp (comparison condition) k ty a b

-- ---- select and conversions
abbrev pub select_lines : ℕ → Operand → Ty → Operand → Ty → Operand → Straight
select_lines k test ty a other b =
    if is_narrow ty then record { silent = low_into 0 I1 test ∷ low_into 1 ty a ∷ low_into 2 other b ∷ []; last = mid.Select (virtual (low_of k)) (virtual 0) (virtual 1) (virtual 2) }
    else record {
      silent = low_into 0 I1 test ∷ low_into 1 ty a ∷ low_into 2 other b ∷ high_into 3 ty a ∷ high_into 4 other b ∷ mid.Select (virtual (high_of k)) (virtual 0) (virtual 3) (virtual 4) ∷ [];
      last = mid.Select (virtual (low_of k)) (virtual 0) (virtual 1) (virtual 2);
    }

-- sign extension is to 64 bits at most
abbrev pub convert_lines : Cast → ℕ → Ty → Operand → Ty → Straight
convert_lines Zext k ty a to = record { silent = low_into 0 ty a ∷ mid.Const (virtual (high_of k)) 0 ∷ []; last = copy (low_of k) 0 }
convert_lines Sext k ty a to = record { silent = low_into 0 ty a ∷ mid.Extend (virtual 0) (virtual 0) (type_bits ty) true ∷ []; last = cut_into (low_of k) 0 (type_bits to) }
convert_lines Trunc k ty a to = record { silent = low_into 0 ty a ∷ []; last = cut_into (low_of k) 0 (type_bits to) }

-- a part of the pair of a compare-exchange, which has the same registers
abbrev pub extract_lines : ℕ → ℕ → ℕ → Straight
extract_lines k pair part =
    if nat_eq part 0 then record { silent = copy 0 (low_of pair) ∷ copy 1 (high_of pair) ∷ copy (high_of k) 1 ∷ []; last = copy (low_of k) 0 }
    else record { silent = []; last = copy (low_of k) (flag_of pair) }
