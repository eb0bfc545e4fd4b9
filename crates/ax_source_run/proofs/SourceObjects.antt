-- Runs of the source machine on objects of several sizes and places.
use Rattle.std.proofs.Common.{◌≡◌, true, false, [], ◌∷◌, Some, refl, negsuc}
use Rattle.std.specs.Prelude.{codes}
use Rattle.ax_module.specs.declared.inst.Inst.TheVariants as inst
use Rattle.ax_module.specs.declared.inst.Cast.TheVariants.{Zext, Trunc}
use Rattle.ax_module.specs.declared.module.Module.{Module}
use Rattle.ax_module.specs.declared.operand.Arg.TheVariants as arg
use Rattle.ax_module.specs.declared.operand.Base.TheVariants as base
use Rattle.ax_module.specs.declared.operand.Operand.TheVariants as operand
use Rattle.ax_module.specs.declared.types.Ty.TheVariants.{I1, I8, I16, I32, I64, I128}
use Rattle.ax_words.specs.declared.operation.RmwOp.TheVariants as rmw
use Rattle.ax_words.specs.declared.order.Order.TheVariants.{Monotonic, SeqCst}
use Rattle.ax_words.specs.Routine as routines
use Rattle.ax_target.specs.declared.target.Target.{Target}
use Rattle.ax_target.specs.declared.target.Target.TheVariants.{X86, Arm, Rv}
use Rattle.ax_source_run.specs.SourceCalls.{kind_of}
use Rattle.ax_source_run.specs.SourceInstructions.{access_of, deed_of, is_phi, is_unreachable, pointers_of, result_in}
use Rattle.ax_source_run.specs.SourceState.{Number, SourceState}
use Rattle.ax_source_run.proofs.SourceModules.{acts, at, constant, function, global, out, ran}

-- a store to an object that a lock guards does not wait
abbrev unaligned : Module
unaligned = record {
  globals = record { name = []; elem = I8; count = 1; align = Some 1; init = [] } ∷ record { name = []; elem = I32; count = 1; align = Some 1; init = [] } ∷ [];
  functions = function (inst.StoreAtomic I32 (constant 16909060) (at (base.Global 1)) Monotonic 1 ∷ inst.RetVoid ∷ []) ∷ [];
}

pub unaligned_acts : (ran (X86 false) unaligned (0 ∷ []) (acts 0 2 [])).numbers 1 0 ≡ 16909060
unfolding access_of deed_of is_phi is_unreachable pointers_of result_in
unaligned_acts = refl

-- stores of 8 and of 16 bytes
abbrev two_stores : Module
two_stores = record {
  globals = global I64 1 0 ∷ global I128 1 0 ∷ [];
  functions = function (
      inst.StoreAtomic I64 (constant 1) (at (base.Global 0)) Monotonic 8 ∷
      inst.RetVoid ∷ []) ∷ function (
      inst.StoreAtomic I64 (constant 1) (at (base.Global 0)) Monotonic 8 ∷
      inst.StoreAtomic I128 (constant 2) (at (base.Global 1)) Monotonic 16 ∷
      inst.RetVoid ∷ []) ∷ [];
}

-- the first waits
pub eight_bytes_wait : (ran (X86 true) two_stores (0 ∷ []) (acts 0 2 [])).numbers 0 0 ≡ 0
unfolding access_of deed_of is_phi is_unreachable pointers_of result_in
eight_bytes_wait = refl

-- the second is a compare loop, which writes out the first and acts
pub sixteen_bytes_act : ((ran (X86 true) two_stores (1 ∷ []) (acts 0 3 [])).numbers 0 0 ≡ 1) × ((ran (X86 true) two_stores (1 ∷ []) (acts 0 3 [])).numbers 1 0 ≡ 2)
unfolding access_of deed_of is_phi is_unreachable pointers_of result_in
sixteen_bytes_act = (refl, refl)

-- a compare-exchange of 16 bytes, and a store of both halves before it
abbrev torn : Module
torn = record {
  globals = global I128 1 0 ∷ [];
  functions = function (
      inst.Cmpxchg false (at (base.Global 0)) I128 (constant 0) I128 (constant 1) SeqCst SeqCst 16 ∷
      inst.Extract I128 (operand.Value 0) 0 ∷
      inst.Convert Trunc I128 (operand.Value 1) I64 ∷
      out 2 ∷
      inst.RetVoid ∷ []) ∷ function (
      inst.StoreAtomic I128 (constant 36893488147419103234) (at (base.Global 0)) SeqCst 16 ∷
      inst.RetVoid ∷ []) ∷ [];
}

abbrev after_torn : SourceState
after_torn = ran (Arm false) torn (0 ∷ 1 ∷ []) (acts 1 2 (acts 0 5 []))

pub torn_leaves : (after_torn.outputs ≡ (0, 2) ∷ []) × (after_torn.numbers 0 0 ≡ 36893488147419103234)
unfolding access_of deed_of is_phi is_unreachable pointers_of result_in
torn_leaves = (refl, refl)

-- one more in an element that a constant getelementptr names; its step is in bytes in the second function
abbrev elements : Module
elements = record {
  globals = global I8 4 0 ∷ global I16 4 0 ∷ [];
  functions = function (
      inst.Rmw rmw.Add (record { base = base.Global 0; step = Some (I8, 4, I64, constant 1) }) I8 (constant 1) SeqCst 1 ∷
      inst.RetVoid ∷ []) ∷ function (
      inst.Rmw rmw.Sub (record { base = base.Global 1; step = Some (I8, 0, I64, constant 4) }) I16 (constant 1) SeqCst 2 ∷
      inst.RetVoid ∷ []) ∷ [];
}

abbrev after_elements : SourceState
after_elements = ran (Rv false false) elements (0 ∷ 1 ∷ []) (acts 1 2 (acts 0 2 []))

pub elements_leave : (after_elements.numbers 0 0 ≡ 0) × (after_elements.numbers 0 1 ≡ 1) × (after_elements.numbers 1 2 ≡ 65535)
unfolding access_of deed_of is_phi is_unreachable pointers_of result_in
elements_leave = (refl, refl, refl)

-- the signed and the unsigned maximum of -1 and 1, and a compare-exchange of the least number by 7
abbrev signs : Module
signs = record {
  globals =
      record { name = []; elem = I32; count = 1; align = Some 4; init = operand.Const (negsuc 0) ∷ [] } ∷
      record { name = []; elem = I32; count = 1; align = Some 4; init = operand.Const (negsuc 0) ∷ [] } ∷
      record { name = []; elem = I32; count = 1; align = Some 4; init = operand.Const (negsuc 2147483647) ∷ [] } ∷ [];
  functions = function (
      inst.Rmw rmw.Max (at (base.Global 0)) I32 (constant 1) Monotonic 4 ∷
      inst.Convert Zext I32 (operand.Value 0) I64 ∷
      out 1 ∷
      inst.Rmw rmw.UMax (at (base.Global 1)) I32 (constant 1) Monotonic 4 ∷
      inst.Cmpxchg false (at (base.Global 2)) I32 (operand.Const (negsuc 2147483647)) I32 (constant 7) SeqCst SeqCst 4 ∷
      inst.Extract I32 (operand.Value 4) 1 ∷
      inst.Convert Zext I1 (operand.Value 5) I64 ∷
      out 6 ∷
      inst.RetVoid ∷ []) ∷ [];
}

abbrev after_signs : SourceState
after_signs = ran (Rv false false) signs (0 ∷ []) (acts 0 9 [])

pub signs_leave : (after_signs.outputs ≡ (0, 4294967295) ∷ (0, 1) ∷ []) × (after_signs.numbers 0 0 ≡ 1) × (after_signs.numbers 1 0 ≡ 4294967295) × (after_signs.numbers 2 0 ≡ 7)
unfolding access_of deed_of is_phi is_unreachable pointers_of result_in
signs_leave = (refl, refl, refl, refl)

-- 16 bytes have a routine where they are not native, and a lock
abbrev wide : Module
wide = record {
  globals = global I128 1 0 ∷ [];
  functions = function (
      inst.Rmw rmw.Sub (at (base.Global 0)) I128 (constant 1) SeqCst 16 ∷
      inst.Call (Some I1) (codes "__atomic_is_lock_free") (arg.Value I64 (constant 16) ∷ arg.Pointer (at (base.Global 0)) ∷ []) ∷
      inst.RetVoid ∷ []) ∷ [];
}

abbrev after_wide : Target → SourceState
after_wide target = ran target wide (0 ∷ []) (acts 0 3 [])

pub wide_leaves : ((after_wide (Rv false false)).numbers 0 0 ≡ 340282366920938463463374607431768211455) × (((after_wide (Rv false false)).processors 0).values 1 ≡ Number 0) × (((after_wide (Arm true)).processors 0).values 1 ≡ Number 1)
unfolding access_of deed_of is_phi is_unreachable kind_of pointers_of result_in routines.name_of routines.number_of
wide_leaves = (refl, refl, refl)
