-- Registers and sizes of effects are in their ranges.
use Rattle.std.proofs.Common.{Bool, true, false, refl}
use Rattle.std.specs.Prelude.{if◌then◌else◌}
use Rattle.std.proofs.lemmas.Bool.{leb-true, ltb-true}
use Rattle.ax_store.specs.Bytes.{IsWidth}
use Rattle.ax_isa.specs.declared.effects.Effect.TheVariants as effect
use Rattle.ax_isa.specs.Effects.{FitsRegister, IsEffect}
use Rattle.ax_isa.specs.Processor.{Processor}
use Rattle.ax_rv.specs.declared.instructions.LoadForm.{LoadForm}
use Rattle.ax_rv.specs.declared.instructions.LoadForm.TheVariants as load
use Rattle.ax_rv.specs.declared.instructions.RvInstr.{RvInstr}
use Rattle.ax_rv.specs.declared.instructions.RvInstr.TheVariants.{Li, Unary, Binary, Shift, Immediate, Load, Store, LoadReserved, StoreConditional, Amo, Fence, Jump, Call, Ret, Branch, Ecall, Ebreak, Nop}
use Rattle.ax_rv.specs.declared.instructions.Size.{Size}
use Rattle.ax_rv.specs.declared.instructions.Size.TheVariants.{Word, Double}
use Rattle.ax_rv.specs.declared.instructions.StoreForm.{StoreForm}
use Rattle.ax_rv.specs.declared.instructions.StoreForm.TheVariants as store
use Rattle.ax_rv.specs.Arithmetic.{holds}
use Rattle.ax_rv.specs.Instructions.{IsInstr, displaced, effect_of, read}
use Rattle.ax_rv.specs.Skeleton.{load_bytes, size_bytes, store_bytes}

load_fits : (form : LoadForm) → FitsRegister (load_bytes form)
load_fits load.Byte = (refl, leb-true 1 8 refl)
load_fits load.Half = (refl, leb-true 2 8 refl)
load_fits load.Word = (refl, leb-true 4 8 refl)
load_fits load.Double = (refl, leb-true 8 8 refl)

store_fits : (form : StoreForm) → IsWidth (store_bytes form)
store_fits store.Byte = refl
store_fits store.Half = refl
store_fits store.Word = refl
store_fits store.Double = refl

size_fits : (size : Size) → FitsRegister (size_bytes size)
size_fits Word = (refl, leb-true 4 8 refl)
size_fits Double = (refl, leb-true 8 8 refl)

pub effects_fit : (i : RvInstr) (c : Processor) → IsInstr i → IsEffect (effect_of i c)
effects_fit (Li rd n) c h = h.0
effects_fit (Unary op rd rs) c h = h.0
effects_fit (Binary op rd rs1 rs2) c h = h.0
effects_fit (Shift op rd rs k) c h = h.0
effects_fit (Immediate op rd rs n) c h = h.0
effects_fit (Load form rd d rs1) c h = (h.0, load_fits form)
effects_fit (Store form rs2 d rs1) c h = store_fits form
effects_fit (LoadReserved size ending rd rs1) c h = (h.0, size_fits size)
effects_fit (StoreConditional size ending rd rs2 rs1) c h = (h.0, (size_fits size).0)
effects_fit (Amo op size ending rd rs2 rs1) c h = (h.0, ltb-true 0 32 refl, size_fits size)
effects_fit (Fence sets) c h = tt
effects_fit (Jump distance) c h = tt
effects_fit (Call routine place) c h = ltb-true 1 32 refl
effects_fit Ret c h = tt
effects_fit (Branch condition rs1 rs2 distance) c h = go (holds condition (read rs1 c) (read rs2 c))
  where
    go : (b : Bool) → IsEffect (if b then effect.Jump (displaced c.place distance) else effect.Nop)
    go true = tt
    go false = tt
effects_fit Ecall c h = tt
effects_fit Ebreak c h = tt
effects_fit Nop c h = tt
