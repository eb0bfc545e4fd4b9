-- A retry loop: a linked load, a computation on registers, a pair store, and a branch back to the linked load where that failed (RISC-V A extension, "Load-Reserved/Store-Conditional Instructions"; Arm ARM, exclusive monitors).
use Rattle.std.specs.Prelude.{◌≡◌, ◌≢◌, ℕ, ◌+◌, ◌*◌, ◌^◌, ◌<◌, Bool, true, false, List, [], ◌∷◌, ◌++◌, length}
use Rattle.ax_store.specs.Storage.{at_place}
use Rattle.ax_tags.specs.declared.tags.Tag.{Tag}
use Rattle.ax_tags.specs.declared.tags.Tag.TheVariants.{Silent, Stored}
use Rattle.ax_isa.specs.declared.effects.Effect.TheVariants.{Link, PairStore}
use Rattle.ax_isa.specs.declared.effects.Rest.{Rest}
use Rattle.ax_isa.specs.Processor.{Processor}
use Rattle.ax_isa.specs.Steps.{Kind, extended}
use Rattle.ax_expand.specs.Operation.{Keeps, Operation}
use Rattle.ax_expand.specs.Private.{Private, Goes}
use Rattle.ax_expand.specs.Standing.{silently}
use Rattle.ax_expand.specs.World.{World}
use Rattle.ax_loops.specs.Moving.{Turns, nowhere}
use Rattle.ax_loops.specs.Replacing.{Replacement, Replaces}

pub record RetryLoop (I : Type 0) : Type 0 where
  pub link : I
  pub computation : List I
  pub pair : I
  pub branch : I
  -- the register that gets what is linked, how it takes fewer than 8 bytes, and the register that tells whether the pair store failed
  pub old : ℕ
  pub rest : Rest
  pub failed : ℕ
  -- the registers that are as the operation finds them until its event: all that it keeps, but those that get results
  pub holds : ℕ → Bool

-- its instructions with their marks: the event is the pair store's where it writes
abbrev pub retry_code : {I : Type 0} → RetryLoop I → List (I × Tag)
retry_code z = (z.link, Silent) ∷ (silently z.computation ++ (z.pair, Stored) ∷ (z.branch, Silent) ∷ [])

abbrev pub retry_size : {I : Type 0} → RetryLoop I → ℕ
retry_size z = length z.computation + 3

-- the idle steps in a row: from a branch back to the next pair store
abbrev pub retry_most : {I : Type 0} → RetryLoop I → ℕ
retry_most z = length z.computation + 2

module _ {I W : Type 0} (k : Kind I) (keeps : ℕ → Bool) (o : Operation W) (r : Replacement W) (z : RetryLoop I) where
  -- once all is computed: the pair store stores what the operation leaves, and where it does the registers are the operation's
  pub record Stores (regs : ℕ → ℕ) (number : ℕ) (c : Processor) : Type 0 where
    pub holds : Keeps z.holds c.regs regs
    pub stores : (w : W) → o.fits regs w → k.effect_of z.pair c ≡ PairStore z.failed (r.address regs) r.bytes (r.leaves regs number)
    pub gives : Keeps keeps (at_place c.regs z.failed 0) (r.gives regs number)

  pub record Computes (regs : ℕ → ℕ) (number : ℕ) (y : Private) : Type 0 where
    pub private : Private
    pub goes : Goes k nowhere z.computation y private
    pub stores : Stores regs number private.cpu

  -- WHAT A RETRY LOOP DOES FOR AN OPERATION, instruction by instruction, whatever its scratch registers have
  pub record Retries (world : World W) : Type 0 where
    pub replaces : Replaces world o r
    pub unbuffered : k.buffered ≡ false
    pub kept : (q : ℕ) → z.holds q ≡ true → (keeps q ≡ true) × (q ≢ z.old) × (q ≢ z.failed)
    pub fills : (before number : ℕ) → extended r.bytes z.rest before number ≡ extended r.bytes z.rest 0 number
    pub links : (c : Processor) (regs : ℕ → ℕ) (w : W) → o.fits regs w → Keeps z.holds c.regs regs → k.effect_of z.link c ≡ Link z.old (r.address regs) r.bytes z.rest
    pub computes : (y : Private) (regs : ℕ → ℕ) (number : ℕ) → number < 2 ^ (8 * r.bytes) → Keeps z.holds y.cpu.regs regs → y.cpu.regs z.old ≡ extended r.bytes z.rest 0 number → Computes regs number y
    -- back to the linked load, or on
    pub back : (c : Processor) (start : ℕ) → c.place ≡ start + length z.computation + 2 → c.place + 1 < 2 ^ 32 → c.regs z.failed ≡ 1 → Turns (k.effect_of z.branch c) c start
    pub on : (c : Processor) → c.place + 1 < 2 ^ 32 → c.regs z.failed ≡ 0 → Turns (k.effect_of z.branch c) c (c.place + 1)
