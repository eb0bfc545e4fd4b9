-- What the effect of one instruction does to what all processors share.
use Rattle.std.specs.Prelude.{◌≡◌, ℕ, Bool, true, false, [], None}
use Rattle.ax_store.specs.Bytes.{number_at}
use Rattle.ax_store.specs.Storage.{at_place, entry_of, newest}
use Rattle.ax_isa.specs.declared.effects.Effect.{Effect}
use Rattle.ax_isa.specs.declared.effects.Effect.TheVariants.{Fence, Load, Locked, Nop, Store}
use Rattle.ax_isa.specs.Processor.{Processor}
use Rattle.ax_isa.specs.Steps.{Kind, changed, exchanged, extended, is_flushing}
use Rattle.ax_isa.specs.Tells.{An_act}
use Rattle.ax_expand.specs.OneInstruction.{Happens}
use Rattle.ax_expand.specs.Operation.{Operation, Deed, Inner, Keeps}
use Rattle.ax_expand.specs.Shared.{Shared, Object, shared_replaced, shared_store}

-- what p sees at a byte that all share: its newest store that waits, else memory
abbrev pub shared_seen : ℕ → Shared → ℕ → ℕ
shared_seen p w b = newest (w.inside b) (w.pending p) b (w.mem b)

abbrev pub shared_load : ℕ → ℕ → ℕ → Shared → ℕ
shared_load p a n w = number_at (shared_seen p w) a n

-- an effect that accesses an object that all share, or is a fence; that of a machine without buffers does nothing
abbrev pub HasObject : Effect → Shared → Type 0
HasObject (Load to a bytes rest ends_half) w = Object a bytes w
HasObject (Store a bytes number) w = Object a bytes w
HasObject (Locked to high a bytes rest change) w = Object a bytes w
HasObject Fence w = Unit {0}
HasObject Nop w = Unit {0}
HasObject _ w = ⊥

-- the registers that it leaves
abbrev pub regs_by : Effect → ℕ → Processor → Shared → ℕ → ℕ
regs_by (Load to a bytes rest ends_half) p c w = at_place c.regs to (extended bytes rest (c.regs to) (shared_load p a bytes w))
regs_by (Locked to high a bytes rest change) p c w = (exchanged bytes to high rest change (number_at w.mem a bytes) c).regs
regs_by _ p c w = c.regs

-- and what all share
abbrev pub shared_by : Bool → Effect → ℕ → Shared → Shared
shared_by buffered (Store a bytes number) p w = shared_store buffered p (entry_of a bytes number) w
shared_by buffered (Locked to high a bytes rest change) p w = shared_replaced a bytes (changed bytes change (number_at w.mem a bytes)) w
shared_by buffered _ p w = w

-- a deed is what the effect does
pub record IsAccess (buffered : Bool) (keeps : ℕ → Bool) (p : ℕ) (e : Effect) (c : Processor) (w : Shared) (d : Deed Shared) : Type 0 where
  pub regs : Keeps keeps (regs_by e p c w) d.regs
  pub world : shared_by buffered e p w ≡ d.world
  pub output : d.output ≡ None
  pub excused : d.excused ≡ false

-- an operation that one access of an instruction is; it finds no own store that waits where it flushes, or where none can wait
pub record OneAccess {I : Type 0} (k : Kind I) (keeps : ℕ → Bool) (i : I) (o : Operation Shared) : Type 0 where
  pub object : (c : Processor) (t : Inner) (w : Shared) → Keeps keeps c.regs t.regs → o.fits t.regs w → HasObject (k.effect_of i c) w
  pub accesses :
      (p : ℕ) (c : Processor) (t : Inner) (w : Shared) → Keeps keeps c.regs t.regs → o.fits t.regs w → (k.buffered ≡ false → w.pending p ≡ []) → (is_flushing (k.effect_of i c) ≡ true → w.pending p ≡ [])
      → Happens (o.happens An_act p t.regs t.seen w) (λ d. IsAccess k.buffered keeps p (k.effect_of i c) c w d)
