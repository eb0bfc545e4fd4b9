-- Middle code that is run: a loop whose phis change places.
use Rattle.std.proofs.Common.{◌≡◌, true, false, [], ◌∷◌, None, refl, pos}
use Rattle.ax_module.specs.declared.inst.BinOp.TheVariants as bin
use Rattle.ax_module.specs.declared.inst.Cast.TheVariants as cast
use Rattle.ax_module.specs.declared.inst.Inst.TheVariants as inst
use Rattle.ax_module.specs.declared.inst.Pred.TheVariants as pred
use Rattle.ax_module.specs.declared.module.Module.{Module}
use Rattle.ax_module.specs.declared.operand.Base.TheVariants as base
use Rattle.ax_module.specs.declared.operand.Operand.TheVariants as operand
use Rattle.ax_words.specs.declared.order.Order.TheVariants.{SeqCst}
use Rattle.ax_source_run.specs.SourcePointers.{elements_of_alloca}
use Rattle.ax_rules.specs.Facts.{outcome_of}
use Rattle.ax_module.specs.declared.types.Ty.TheVariants.{I1, I8, I16, I32, I64, I128}
use Rattle.ax_layout.specs.Layout.{layout_of}
use Rattle.ax_source_run.specs.SourceState.{SourceProgram}
use Rattle.ax_selected.proofs.Written.{acts, at, constant, function, global, out}
use Rattle.ax_mid.specs.Machine.{MidState, mid_run, private_step, shared_step}
use Rattle.ax_words.specs.declared.source.SourceStatus.TheVariants.{Ended, Trapped}
use Rattle.ax_target.specs.declared.target.Target.TheVariants.{Rv, X86}
use Rattle.ax_selected.specs.Edges.{coming_in, set_phis}
use Rattle.ax_selected.specs.InStep.{mid_start}
use Rattle.ax_selected.specs.Registers.{key}
use Rattle.ax_selected.specs.Selected.{piece, selected}

-- two phis that change places, in a loop of three turns
abbrev swap : Module
swap = record {
  globals = [];
  functions =
      record {
        name = [];
        result = I1;
        is_void = true;
        params = [];
        blocks =
            record { insts = inst.Jump 1 ∷ [] } ∷
            record {
              insts =
                  inst.Phi I64 ((constant 1, 0) ∷ (operand.Value 2, 1) ∷ []) ∷
                  inst.Phi I64 ((constant 2, 0) ∷ (operand.Value 1, 1) ∷ []) ∷
                  inst.Phi I32 ((constant 0, 0) ∷ (operand.Value 4, 1) ∷ []) ∷
                  inst.Bin bin.Add I32 (operand.Value 3) (constant 1) ∷
                  inst.Icmp pred.Eq I32 (operand.Value 4) (constant 3) ∷
                  inst.Branch (operand.Value 5) 2 1 ∷ [];
            } ∷
            record { insts = out 1 ∷ inst.RetVoid ∷ [] } ∷ [];
      } ∷ [];
}

abbrev program : SourceProgram
program = record { source = swap; layout = layout_of swap; target = Rv false false }

abbrev after : MidState
after = mid_run key (Rv false false) (selected program) (λ p. 16777216) 512 (acts 0 12 []) (mid_start program (0 ∷ []))

pub phis_swap : (after.outputs ≡ (0, 1) ∷ []) × ((after.processors 0).status ≡ Ended)
unfolding coming_in set_phis piece private_step shared_step
phis_swap = (refl, refl)

-- an index past its array, beside a processor that stores; and the number 3, which is inside
abbrev out_of_range : Module
out_of_range = record {
  globals = global I16 4 0 ∷ global I64 1 4 ∷ global I64 1 3 ∷ [];
  functions =
      function (
      inst.LoadAtomic I64 (at (base.Global 1)) SeqCst 8 ∷
      inst.Gep I16 4 (base.Global 0) I64 (operand.Value 0) ∷
      inst.StoreAtomic I16 (constant 9) (at (base.Value 1)) SeqCst 2 ∷
      inst.RetVoid ∷ []) ∷
      function (
      inst.LoadAtomic I64 (at (base.Global 2)) SeqCst 8 ∷
      inst.Gep I16 4 (base.Global 0) I64 (operand.Value 0) ∷
      inst.StoreAtomic I16 (constant 7) (at (base.Value 1)) SeqCst 2 ∷
      inst.RetVoid ∷ []) ∷ [];
}

abbrev after_range : MidState
after_range = mid_run key (X86 false) (selected (record { source = out_of_range; layout = layout_of out_of_range; target = X86 false })) (λ p. 16777216) 512 (acts 0 3 (acts 1 4 [])) (mid_start (record { source = out_of_range; layout = layout_of out_of_range; target = X86 false }) (0 ∷ 1 ∷ []))

pub store_traps : (after_range.numbers 0 3 ≡ 7) × (after_range.numbers 0 0 ≡ 0) × ((after_range.processors 0).status ≡ Trapped) × ((after_range.processors 1).status ≡ Ended)
unfolding coming_in set_phis piece private_step shared_step elements_of_alloca outcome_of
store_traps = (refl, refl, refl, refl)

-- kinds of instructions one after the other: 128 bits in an alloca, an exchange, conversions, a choice
abbrev kinds_of_all : Module
kinds_of_all = record {
  globals = global I8 1 250 ∷ [];
  functions =
      function (
      inst.Alloca I128 2 None ∷
      inst.Gep I128 2 (base.Value 0) I32 (constant 1) ∷
      inst.Store I128 (operand.Const (pos 18446744073709551621)) (at (base.Value 1)) None ∷
      inst.Load I128 (at (base.Value 1)) None ∷
      inst.Bin bin.Add I128 (operand.Value 3) (operand.Const (pos 18446744073709551615)) ∷
      inst.Bin bin.Lshr I128 (operand.Value 4) (constant 64) ∷
      inst.Convert cast.Trunc I128 (operand.Value 5) I64 ∷
      out 6 ∷
      inst.Cmpxchg true (at (base.Global 0)) I8 (constant 250) I8 (constant 128) SeqCst SeqCst 1 ∷
      inst.Extract I8 (operand.Value 8) 0 ∷
      inst.Extract I8 (operand.Value 8) 1 ∷
      inst.Convert cast.Sext I8 (operand.Value 9) I64 ∷
      out 11 ∷
      inst.Select (operand.Value 10) I64 (constant 7) I64 (constant 9) ∷
      out 13 ∷
      inst.Icmp pred.Slt I8 (operand.Value 9) (constant 1) ∷
      inst.Convert cast.Zext I1 (operand.Value 15) I64 ∷
      inst.Bin bin.Ashr I8 (operand.Value 9) (constant 1) ∷
      inst.Convert cast.Zext I8 (operand.Value 17) I64 ∷
      inst.Bin bin.Shl I64 (operand.Value 18) (constant 1) ∷
      inst.Bin bin.Or I64 (operand.Value 19) (operand.Value 16) ∷
      out 20 ∷
      inst.RetVoid ∷ []) ∷ [];
}

abbrev after_all : MidState
after_all = mid_run key (Rv false false) (selected (record { source = kinds_of_all; layout = layout_of kinds_of_all; target = Rv false false })) (λ p. 16777216) 512 (acts 0 23 []) (mid_start (record { source = kinds_of_all; layout = layout_of kinds_of_all; target = Rv false false }) (0 ∷ []))

pub all_leave : (after_all.outputs ≡ (0, 2) ∷ (0, 18446744073709551610) ∷ (0, 7) ∷ (0, 507) ∷ []) × (after_all.numbers 0 0 ≡ 128) × ((after_all.processors 0).status ≡ Ended)
unfolding coming_in set_phis piece private_step shared_step elements_of_alloca outcome_of
all_leave = (refl, refl, refl)
