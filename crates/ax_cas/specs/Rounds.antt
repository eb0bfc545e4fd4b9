-- One access to what all processors share, with straight code round it, as the code of an operation on registers: all that is to be shown of it, over any instruction set. Behind the access its processor is known in full, with the pair that it compared.
use Rattle.std.specs.Prelude.{◌≡◌, ℕ, ◌+◌, Bool, true, false, List, [], None, length, if◌then◌else◌, Option}
use Rattle.ax_store.specs.Bytes.{number_at}
use Rattle.ax_tags.specs.declared.tags.Tag.{Tag}
use Rattle.ax_isa.specs.declared.effects.Effect.{Effect}
use Rattle.ax_isa.specs.declared.effects.Effect.TheVariants.{Load, Locked}
use Rattle.ax_isa.specs.Processor.{Processor}
use Rattle.ax_isa.specs.Steps.{Kind, exchanged, extended, go_on, go_with, is_flushing, with_half}
use Rattle.ax_isa.specs.Tells.{An_act}
use Rattle.ax_expand.specs.Accesses.{HasObject, shared_by, shared_load}
use Rattle.ax_expand.specs.Bytes.{bytes_world}
use Rattle.ax_expand.specs.Expands.{Expands}
use Rattle.ax_expand.specs.OneInstruction.{Happens}
use Rattle.ax_expand.specs.Operation.{Deed, Keeps, Operation}
use Rattle.ax_expand.specs.Private.{Goes}
use Rattle.ax_expand.specs.Shared.{Shared, masked}
use Rattle.ax_emit.specs.Lines.{performed_code}
use Rattle.ax_loops.specs.Moving.{nowhere}

-- straight code on registers leads from a processor to one of which this holds
pub record Reaches {I : Type 0} (k : Kind I) (is : List I) (c : Processor) (Q : Processor → Type 0) : Type 0 where
  pub last : Processor
  pub goes : (f : ℕ → ℕ) → Goes k nowhere is (record { cpu = c; frame = f }) (record { cpu = last; frame = f })
  pub known : Q last

pub record Straight (I : Type 0) : Type 0 where
  pub before : List I
  pub access : I
  pub after : List I

abbrev pub straight_code : {I : Type 0} → Straight I → List (I × Tag)
straight_code z = performed_code z.before z.access z.after

abbrev pub straight_size : {I : Type 0} → Straight I → ℕ
straight_size z = length z.before + 1 + length z.after

-- the idle steps in a row: up to the access, and behind it
abbrev pub straight_most : {I : Type 0} → Straight I → ℕ
straight_most z = length z.before + length z.after

-- the processor behind an access to what all share, or a fence
abbrev pub accessed : Effect → ℕ → Processor → Shared → Processor
accessed (Load to a bytes rest ends_half) p c w = with_half (if ends_half then false else c.half) (go_with to (extended bytes rest (c.regs to) (shared_load p a bytes w)) c)
accessed (Locked to high a bytes rest change) p c w = exchanged bytes to high rest change (number_at w.mem a bytes) c
accessed _ p c w = go_on c

-- all that is shared lies below the frames
abbrev pub IsBelowFrames : Shared → Type 0
IsBelowFrames w = masked w.mem ≡ w.mem

module _ {I : Type 0} (k : Kind I) (keeps : ℕ → Bool) (o : Operation Shared) (z : Straight I) where
  -- an event of the operation is what the access does, and the code behind finishes its registers
  pub record Acted (p : ℕ) (e : Effect) (c : Processor) (w : Shared) (d : Deed Shared) : Type 0 where
    pub world : shared_by k.buffered e p w ≡ d.world
    pub output : d.output ≡ None
    pub excused : d.excused ≡ false
    pub puts : Reaches k z.after (accessed e p c w) (λ b. Keeps keeps b.regs d.regs)

  -- at the access, which finds no own store that waits where it flushes
  pub record Accesses (regs : ℕ → ℕ) (c : Processor) : Type 0 where
    pub effect : Effect
    pub is : (w : Shared) → o.fits regs w → k.effect_of z.access c ≡ effect
    pub object : (w : Shared) → o.fits regs w → HasObject effect w
    pub acts : (p : ℕ) (seen : Option ℕ) (w : Shared) → o.fits regs w → IsBelowFrames w → (is_flushing effect ≡ true → w.pending p ≡ []) → Happens (o.happens An_act p regs seen w) (λ d. Acted p effect c w d)

  -- ALL THAT IS TO BE SHOWN
  abbrev pub IsRound : Type 0
  IsRound = (c : Processor) (regs : ℕ → ℕ) → Keeps keeps c.regs regs → Reaches k z.before c (λ b. Accesses regs b)

  -- IT IS AN EXPANSION of its operation
  abbrev pub Rounds : Type 0
  Rounds = Expands k bytes_world (straight_most z) keeps (straight_size z) (λ start. straight_code z) o
