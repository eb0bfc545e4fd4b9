-- A compare loop with straight code round it, as the code of an operation that replaces a number: registers are prepared, a probe finds the number, and then come a computation, a locked compare-and-swap with the number that was found last, and a branch back to the computation where memory has another (Intel SDM volume 2, CMPXCHG, CMPXCHG16B; Arm ARM, CAS, CASP; RISC-V Zacas). The probe is a plain load, or where there is none of so many bytes a compare-and-swap of zero by zero. What is to be shown of it, over any instruction set.
use Rattle.std.specs.Prelude.{◌≡◌, ◌≢◌, ◌⊎◌, ℕ, ◌+◌, ◌*◌, ◌%◌, ◌^◌, ◌<◌, Bool, false, List, [], ◌∷◌, ◌++◌, None, Some, length, if◌then◌else◌}
use Rattle.ax_tags.specs.declared.tags.Tag.{Tag}
use Rattle.ax_tags.specs.declared.tags.Tag.TheVariants.{Silent, Stored}
use Rattle.ax_isa.specs.declared.effects.Change.{Change}
use Rattle.ax_isa.specs.declared.effects.Change.TheVariants.{Exchange}
use Rattle.ax_isa.specs.declared.effects.Effect.{Effect}
use Rattle.ax_isa.specs.declared.effects.Effect.TheVariants.{Load, Locked}
use Rattle.ax_isa.specs.declared.effects.Rest.{Rest}
use Rattle.ax_isa.specs.Processor.{Processor}
use Rattle.ax_isa.specs.Steps.{Kind, changed, exchanged, extended, go_to, go_with, with_half}
use Rattle.ax_expand.specs.Operation.{Keeps, Operation}
use Rattle.ax_expand.specs.Standing.{silently}
use Rattle.ax_expand.specs.World.{World}
use Rattle.ax_loops.specs.Moving.{Turns}
use Rattle.ax_loops.specs.Replacing.{Replacement, Replaces}
use Rattle.ax_cas.specs.Rounds.{Reaches}

pub record Loop (I : Type 0) : Type 0 where
  pub before : List I
  pub probe : I
  pub computation : List I
  pub exchange : I
  pub branch : I
  pub after : List I

-- its instructions with their marks: the event is the exchange's where it stores
abbrev pub loop_code : {I : Type 0} → Loop I → List (I × Tag)
loop_code z = silently z.before ++ ((z.probe, Silent) ∷ (silently z.computation ++ ((z.exchange, Stored) ∷ (z.branch, Silent) ∷ silently z.after)))

abbrev pub loop_size : {I : Type 0} → Loop I → ℕ
loop_size z = length z.before + length z.computation + length z.after + 3

-- the idle steps in a row: up to the first exchange, from one that failed to the next, and from the one that stored on
abbrev pub loop_most : {I : Type 0} → Loop I → ℕ
loop_most z = length z.before + length z.computation + length z.after + 1

-- a change that leaves what it finds: it writes nothing, or zero over zero
abbrev pub Leaves : ℕ → Change → Type 0
Leaves bytes change = (n : ℕ) → (changed bytes change n ≡ None) ⊎ ((n ≡ 0) × (changed bytes change n ≡ Some 0))

-- an effect that reads so many bytes at an address, and leaves what all share as it is
pub data IsProbe : ℕ → ℕ → Effect → Type 0 where
  Loads : {a bytes to : ℕ} {rest : Rest} {ends_half : Bool} → IsProbe a bytes (Load to a bytes rest ends_half)
  Swaps : {a bytes to high : ℕ} {rest : Rest} {change : Change} → Leaves bytes change → IsProbe a bytes (Locked to high a bytes rest change)

-- the processor behind a probe that found a number
abbrev pub probed : Effect → ℕ → Processor → Processor
probed (Load to a bytes rest ends_half) n c = with_half (if ends_half then false else c.half) (go_with to (extended bytes rest (c.regs to) n) c)
probed (Locked to high a bytes rest change) n c = exchanged bytes to high rest change n c
probed _ n c = c

module _ {I W : Type 0} (k : Kind I) (keeps : ℕ → Bool) (o : Operation W) (r : Replacement W) (z : Loop I) where
  -- where an exchange stored, it goes on, and the code behind finishes its registers
  pub record IsDone (regs : ℕ → ℕ) (number : ℕ) (c : Processor) : Type 0 where
    pub on : c.place + 1 < 2 ^ 32 → Turns (k.effect_of z.branch c) c (c.place + 1)
    pub puts : Reaches k z.after (go_to (c.place + 1) c) (λ b. Keeps keeps b.regs (r.gives regs number))

  module _ (At : (ℕ → ℕ) → ℕ → Processor → Type 0) where
    -- where it found another number, it goes back to the computation
    pub record IsBack (regs : ℕ → ℕ) (found : ℕ) (c : Processor) : Type 0 where
      pub back : (start : ℕ) → c.place ≡ start + (length z.computation + 1) → c.place + 1 < 2 ^ 32 → Turns (k.effect_of z.branch c) c start
      pub again : (place : ℕ) → At regs found (go_to place c)

    -- once all is computed: the exchange compares with the number that was found last, and stores what the operation leaves
    pub record Exchanges (regs : ℕ → ℕ) (number : ℕ) (c : Processor) : Type 0 where
      pub to : ℕ
      pub high : ℕ
      pub rest : Rest
      pub compares : Bool
      pub expected : ℕ
      pub new : ℕ
      pub is_expected : expected % 2 ^ (8 * r.bytes) ≡ number
      pub is : (w : W) → o.fits regs w → k.effect_of z.exchange c ≡ Locked to high (r.address regs) r.bytes rest (Exchange expected new compares)
      -- the low bytes are what the operation leaves
      pub is_new : (w : W) → o.fits regs w → new % 2 ^ (8 * r.bytes) ≡ r.leaves regs number % 2 ^ (8 * r.bytes)
      pub done : IsDone regs number (exchanged r.bytes to high rest (Exchange expected new compares) number c)
      pub back : (found : ℕ) → found < 2 ^ (8 * r.bytes) → found ≢ number → IsBack regs found (exchanged r.bytes to high rest (Exchange expected new compares) found c)

    -- at the probe
    pub record Probes (regs : ℕ → ℕ) (c : Processor) : Type 0 where
      pub effect : Effect
      pub is : (w : W) → o.fits regs w → k.effect_of z.probe c ≡ effect
      pub probes : (w : W) → o.fits regs w → IsProbe (r.address regs) r.bytes effect
      pub found : (number : ℕ) → number < 2 ^ (8 * r.bytes) → At regs number (probed effect number c)

    -- WHAT A COMPARE LOOP DOES FOR AN OPERATION, instruction by instruction: `At` is what is known where the computation begins
    pub record Compares (world : World W) : Type 0 where
      pub replaces : Replaces world o r
      pub begins : (c : Processor) (regs : ℕ → ℕ) → Keeps keeps c.regs regs → Reaches k z.before c (λ b. Probes regs b)
      pub computes : (c : Processor) (regs : ℕ → ℕ) (number : ℕ) → number < 2 ^ (8 * r.bytes) → At regs number c → Reaches k z.computation c (λ b. Exchanges regs number b)
