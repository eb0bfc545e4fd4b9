-- Runs of the source machine over modules that are written out, under the source schedules that their machine runs print.
use Rattle.std.proofs.Common.{◌≡◌, ℕ, true, false, List, [], ◌∷◌, Some, None, refl}
use Rattle.std.specs.Prelude.{codes}
use Rattle.ax_module.specs.declared.inst.Inst.TheVariants as inst
use Rattle.ax_module.specs.declared.inst.BinOp.TheVariants as bin
use Rattle.ax_module.specs.declared.inst.Pred.TheVariants.{Eq}
use Rattle.ax_module.specs.declared.inst.Cast.TheVariants.{Zext}
use Rattle.ax_module.specs.declared.module.Function.{Function}
use Rattle.ax_module.specs.declared.module.Module.{Module}
use Rattle.ax_module.specs.declared.operand.Arg.TheVariants as arg
use Rattle.ax_module.specs.declared.operand.Base.TheVariants as base
use Rattle.ax_module.specs.declared.operand.Operand.TheVariants as operand
use Rattle.ax_module.specs.declared.types.Ty.TheVariants.{I1, I16, I32, I64}
use Rattle.ax_words.specs.declared.operation.RmwOp.TheVariants as rmw
use Rattle.ax_words.specs.declared.order.Order.{Order}
use Rattle.ax_words.specs.declared.order.Order.TheVariants.{Monotonic, SeqCst}
use Rattle.ax_words.specs.declared.source.SourceEvent.{SourceEvent}
use Rattle.ax_words.specs.declared.source.SourceEvent.TheVariants.{Look, Miss, Drain}
use Rattle.ax_words.specs.declared.source.SourceStatus.TheVariants.{Ended, Trapped}
use Rattle.ax_words.specs.Routine as routines
use Rattle.ax_target.specs.declared.target.Target.TheVariants.{X86, Arm, Rv}
use Rattle.ax_source_run.specs.SourceCalls.{kind_of}
use Rattle.ax_source_run.specs.SourceEvent.{expected_by, seen_by}
use Rattle.ax_source_run.specs.SourceInstructions.{access_of, deed_of, is_phi, is_unreachable, phi_number, pointers_of, result_in}
use Rattle.ax_source_run.specs.SourcePointers.{elements_of_alloca}
use Rattle.ax_source_run.specs.SourceState.{Number, SourceState}
use Rattle.ax_source_run.proofs.SourceModules.{acts, at, constant, function, global, out, ran}

-- two additions of 1, each with its output
abbrev two_additions : Module
two_additions = record {
  globals = global I64 1 0 ∷ [];
  functions = function (
      inst.Rmw rmw.Add (at (base.Global 0)) I64 (constant 1) SeqCst 8 ∷
      out 0 ∷
      inst.Rmw rmw.Add (at (base.Global 0)) I64 (constant 1) SeqCst 8 ∷
      out 2 ∷
      inst.RetVoid ∷ []) ∷ [];
}

abbrev after_two_additions : SourceState
after_two_additions = ran (Rv false false) two_additions (0 ∷ []) (acts 0 5 [])

pub two_additions_leave : (after_two_additions.outputs ≡ (0, 0) ∷ (0, 1) ∷ []) × (after_two_additions.numbers 0 0 ≡ 2) × ((after_two_additions.processors 0).status ≡ Ended)
unfolding access_of deed_of is_phi is_unreachable pointers_of result_in
two_additions_leave = (refl, refl, refl)

-- each stores 1 to one global and puts out the other
abbrev half : Order → ℕ → ℕ → Function
half order mine other = function (
    inst.StoreAtomic I32 (constant 1) (at (base.Global mine)) order 4 ∷
    inst.LoadAtomic I32 (at (base.Global other)) order 4 ∷
    inst.Convert Zext I32 (operand.Value 1) I64 ∷
    out 2 ∷
    inst.RetVoid ∷ [])

abbrev store_buffering : Order → Module
store_buffering order = record { globals = global I32 1 0 ∷ global I32 1 0 ∷ []; functions = half order 0 1 ∷ half order 1 0 ∷ [] }

abbrev after_stores : Order → List SourceEvent → SourceState
after_stores order events = ran (X86 false) (store_buffering order) (0 ∷ 1 ∷ []) (acts 0 5 (acts 1 5 events))

-- both miss the other's store, which waits
pub stores_wait : ((after_stores Monotonic []).outputs ≡ (0, 0) ∷ (1, 0) ∷ []) × ((after_stores Monotonic []).numbers 0 0 ≡ 0) × ((after_stores Monotonic []).numbers 1 0 ≡ 0)
unfolding access_of deed_of is_phi is_unreachable pointers_of result_in
stores_wait = (refl, refl, refl)

pub stores_arrive : ((after_stores Monotonic (Drain 0 ∷ Drain 1 ∷ [])).outputs ≡ (0, 0) ∷ (1, 0) ∷ []) × ((after_stores Monotonic (Drain 0 ∷ Drain 1 ∷ [])).numbers 0 0 ≡ 1) × ((after_stores Monotonic (Drain 0 ∷ Drain 1 ∷ [])).numbers 1 0 ≡ 1)
unfolding access_of deed_of is_phi is_unreachable pointers_of result_in
stores_arrive = (refl, refl, refl)

pub seq_cst_stores_act : (after_stores SeqCst []).outputs ≡ (0, 0) ∷ (1, 1) ∷ []
unfolding access_of deed_of is_phi is_unreachable pointers_of result_in
seq_cst_stores_act = refl

-- a weak compare-exchange of 5 by 6, whose flag is put out
abbrev weak_exchange : Module
weak_exchange = record {
  globals = global I64 1 5 ∷ [];
  functions = function (
      inst.Cmpxchg true (at (base.Global 0)) I64 (constant 5) I64 (constant 6) SeqCst SeqCst 8 ∷
      inst.Extract I64 (operand.Value 0) 1 ∷
      inst.Convert Zext I1 (operand.Value 1) I64 ∷
      out 2 ∷
      inst.RetVoid ∷ []) ∷ [];
}

abbrev after_exchange : List SourceEvent → SourceState
after_exchange events = ran (Arm false) weak_exchange (0 ∷ []) events

pub exchange_misses : ((after_exchange (Look 0 ∷ Miss 0 ∷ acts 0 4 [])).outputs ≡ (0, 0) ∷ []) × ((after_exchange (Look 0 ∷ Miss 0 ∷ acts 0 4 [])).numbers 0 0 ≡ 5)
unfolding access_of deed_of expected_by is_phi is_unreachable pointers_of result_in seen_by
exchange_misses = (refl, refl)

pub exchange_acts : ((after_exchange (Look 0 ∷ acts 0 5 [])).outputs ≡ (0, 1) ∷ []) × ((after_exchange (Look 0 ∷ acts 0 5 [])).numbers 0 0 ≡ 6)
unfolding access_of deed_of expected_by is_phi is_unreachable pointers_of result_in seen_by
exchange_acts = (refl, refl)

-- the first function stores behind an array's end, the second in it
abbrev out_of_range : Module
out_of_range = record {
  globals = global I16 4 0 ∷ global I64 1 4 ∷ [];
  functions =
      function (
      inst.LoadAtomic I64 (at (base.Global 1)) SeqCst 8 ∷
      inst.Gep I16 4 (base.Global 0) I64 (operand.Value 0) ∷
      inst.StoreAtomic I16 (constant 9) (at (base.Value 1)) SeqCst 2 ∷
      inst.RetVoid ∷ []) ∷
      function (inst.StoreAtomic I16 (constant 7) (at (base.Global 0)) SeqCst 2 ∷ inst.RetVoid ∷ []) ∷ [];
}

abbrev after_range : SourceState
after_range = ran (X86 false) out_of_range (0 ∷ 1 ∷ []) (acts 0 3 (acts 1 2 []))

pub store_traps : (after_range.numbers 0 0 ≡ 7) × (after_range.numbers 1 0 ≡ 4) × ((after_range.processors 0).status ≡ Trapped) × ((after_range.processors 1).status ≡ Ended)
unfolding access_of deed_of is_phi is_unreachable pointers_of result_in
store_traps = (refl, refl, refl, refl)

-- a loop that adds 0, 1, 2 and 3
abbrev loop : Module
loop = record {
  globals = global I32 1 0 ∷ [];
  functions = record {
    name = [];
    result = I1;
    is_void = true;
    params = [];
    blocks =
        record { insts = inst.Jump 1 ∷ [] } ∷
        record {
          insts =
              inst.Phi I32 ((constant 0, 0) ∷ (operand.Value 3, 1) ∷ []) ∷
              inst.Rmw rmw.Add (at (base.Global 0)) I32 (operand.Value 1) Monotonic 4 ∷
              inst.Bin bin.Add I32 (operand.Value 1) (constant 1) ∷
              inst.Icmp Eq I32 (operand.Value 3) (constant 4) ∷
              inst.Branch (operand.Value 4) 2 1 ∷ [];
        } ∷
        record { insts = inst.RetVoid ∷ [] } ∷ [];
  } ∷ [];
}

abbrev after_loop : SourceState
after_loop = ran (Rv false false) loop (0 ∷ []) (acts 0 18 [])

pub loop_ends : (after_loop.numbers 0 0 ≡ 6) × ((after_loop.processors 0).status ≡ Ended)
unfolding access_of deed_of is_phi is_unreachable phi_number pointers_of result_in
loop_ends = (refl, refl)

-- a call of a routine of 4 bytes, and one that takes the size and expects what an alloca holds
abbrev calls : Module
calls = record {
  globals = global I32 1 10 ∷ global I32 1 10 ∷ [];
  functions = function (
      inst.Alloca I32 1 None ∷
      inst.Alloca I32 1 None ∷
      inst.Store I32 (constant 3) (at (base.Value 0)) None ∷
      inst.Store I32 (constant 4) (at (base.Value 1)) None ∷
      inst.Call (Some I32) (codes "__atomic_fetch_nand_4") (arg.Pointer (at (base.Global 0)) ∷ arg.Value I32 (constant 12) ∷ arg.Value I32 (constant 5) ∷ []) ∷
      inst.Call (Some I1) (codes "__atomic_compare_exchange") (arg.Value I64 (constant 4) ∷ arg.Pointer (at (base.Global 1)) ∷ arg.Pointer (at (base.Value 0)) ∷ arg.Pointer (at (base.Value 1)) ∷ arg.Value I32 (constant 5) ∷ arg.Value I32 (constant 5) ∷ []) ∷
      inst.RetVoid ∷ []) ∷ [];
}

abbrev after_calls : SourceState
after_calls = ran (X86 false) calls (0 ∷ []) (acts 0 7 [])

pub calls_leave : (after_calls.numbers 0 0 ≡ 4294967287) × (after_calls.numbers 1 0 ≡ 10) × ((after_calls.processors 0).values 4 ≡ Number 10) × ((after_calls.processors 0).values 5 ≡ Number 0) × ((after_calls.processors 0).allocas 0 0 ≡ 10) × ((after_calls.processors 0).status ≡ Ended)
unfolding access_of deed_of elements_of_alloca is_phi is_unreachable kind_of pointers_of result_in routines.name_of routines.number_of
calls_leave = (refl, refl, refl, refl, refl, refl)
