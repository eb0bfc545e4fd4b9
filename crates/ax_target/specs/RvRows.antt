-- The rows of RV64 (RISC-V Unprivileged ISA, "Code porting and mapping guidelines", table A.6).
use Rattle.std.specs.Prelude.{ℕ, List, [], ◌∷◌, Option, Some, None, option_map, option_to_list}
use Rattle.ax_words.specs.declared.order.Order.{Order}
use Rattle.ax_words.specs.declared.order.Order.TheVariants.{Unordered, Monotonic, Acquire, Release, AcqRel, SeqCst}
use Rattle.ax_words.specs.declared.operation.RmwOp.{RmwOp}
use Rattle.ax_words.specs.declared.operation.RmwOp.TheVariants.{Xchg, Add, Sub, And, Nand, Or, Xor, Max, Min, UMax, UMin}
use Rattle.ax_words.specs.declared.mark.Op.{Op}
use Rattle.ax_words.specs.declared.mark.Op.TheVariants.{Load, Store, Cmpxchg, Rmw, Fence}
use Rattle.ax_words.specs.declared.mark.Mark.{Mark}
use Rattle.ax_words.specs.declared.mark.Mark.TheVariants.{Memory, Fence as Fencing}
use Rattle.ax_words.specs.declared.mark.MarkCode.{MarkCode}
use Rattle.ax_words.specs.declared.mark.MarkCode.TheVariants.{RvLoad, RvStore, Lr, LrAq, LrAqrl, Sc, ScRl, Amoswap, AmoswapAq, AmoswapRl, AmoswapAqrl, Amoadd, AmoaddAq, AmoaddRl, AmoaddAqrl, Amoand, AmoandAq, AmoandRl, AmoandAqrl, Amoor, AmoorAq, AmoorRl, AmoorAqrl, Amoxor, AmoxorAq, AmoxorRl, AmoxorAqrl, Amomax, AmomaxAq, AmomaxRl, AmomaxAqrl, Amomin, AmominAq, AmominRl, AmominAqrl, Amomaxu, AmomaxuAq, AmomaxuRl, AmomaxuAqrl, Amominu, AmominuAq, AmominuRl, AmominuAqrl}
use Rattle.ax_words.specs.declared.mark.FenceCode.TheVariants.{FenceRRw, FenceRwW, FenceRwRw, FenceTso}
use Rattle.ax_target.specs.declared.endings.Codes.{Codes}
use Rattle.ax_target.specs.Endings.{endings, with_ending}

-- a line of the table: its columns are monotonic, acquire, release, acq_rel and seq_cst; unordered counts as monotonic
abbrev pub column : {A : Type 0} → Order → A → A → A → A → A → A
column Unordered monotonic acquire release acq_rel seq_cst = monotonic
column Monotonic monotonic acquire release acq_rel seq_cst = monotonic
column Acquire monotonic acquire release acq_rel seq_cst = acquire
column Release monotonic acquire release acq_rel seq_cst = release
column AcqRel monotonic acquire release acq_rel seq_cst = acq_rel
column SeqCst monotonic acquire release acq_rel seq_cst = seq_cst

abbrev pub rv_load : Order → Mark → List Mark
rv_load order load = column order (load ∷ []) (load ∷ Fencing FenceRRw ∷ []) [] [] (Fencing FenceRwRw ∷ load ∷ Fencing FenceRRw ∷ [])

abbrev pub rv_store : Order → Mark → List Mark
rv_store order store = column order (store ∷ []) [] (Fencing FenceRwW ∷ store ∷ []) [] (Fencing FenceRwW ∷ store ∷ [])

abbrev pub rv_fence : Order → List Mark
rv_fence order = column order [] (Fencing FenceRRw ∷ []) (Fencing FenceRwW ∷ []) (Fencing FenceTso ∷ []) (Fencing FenceRwRw ∷ [])

abbrev pub pair : MarkCode → MarkCode → ℕ → List Mark
pair linked store bytes = Memory linked bytes ∷ Memory store bytes ∷ []

abbrev pub rv_pair : Order → ℕ → List Mark
rv_pair order bytes = column order (pair Lr Sc bytes) (pair LrAq Sc bytes) (pair Lr ScRl bytes) (pair LrAq ScRl bytes) (pair LrAqrl ScRl bytes)

-- nand has no instruction
abbrev pub amo_codes : RmwOp → Option Codes
amo_codes Xchg = Some (endings Amoswap AmoswapAq AmoswapRl AmoswapAqrl)
amo_codes Add = Some (endings Amoadd AmoaddAq AmoaddRl AmoaddAqrl)
amo_codes Sub = Some (endings Amoadd AmoaddAq AmoaddRl AmoaddAqrl)
amo_codes And = Some (endings Amoand AmoandAq AmoandRl AmoandAqrl)
amo_codes Or = Some (endings Amoor AmoorAq AmoorRl AmoorAqrl)
amo_codes Xor = Some (endings Amoxor AmoxorAq AmoxorRl AmoxorAqrl)
amo_codes Max = Some (endings Amomax AmomaxAq AmomaxRl AmomaxAqrl)
amo_codes Min = Some (endings Amomin AmominAq AmominRl AmominAqrl)
amo_codes UMax = Some (endings Amomaxu AmomaxuAq AmomaxuRl AmomaxuAqrl)
amo_codes UMin = Some (endings Amominu AmominuAq AmominuRl AmominuAqrl)
amo_codes Nand = None

abbrev pub rv_rmw : RmwOp → Order → ℕ → List Mark
rv_rmw op order bytes = option_to_list (option_map (λ codes. Memory (with_ending order codes) bytes) (amo_codes op))

abbrev pub rv_inline : Op → Order → ℕ → List Mark
rv_inline Load order bytes = rv_load order (Memory RvLoad bytes)
rv_inline Store order bytes = rv_store order (Memory RvStore bytes)
rv_inline (Rmw op) order bytes = rv_rmw op order bytes
rv_inline Cmpxchg order bytes = []
rv_inline Fence order bytes = rv_fence order
