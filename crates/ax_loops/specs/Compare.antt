-- A compare loop: a plain load, and then a computation on registers, a locked compare-and-swap with the number that was found last, and a branch back to the computation where memory has another (Intel SDM volume 2, CMPXCHG; Arm ARM, CAS; RISC-V Zacas).
use Rattle.std.specs.Prelude.{◌≡◌, ◌≢◌, ℕ, ◌+◌, ◌*◌, ◌%◌, ◌^◌, ◌<◌, Bool, true, false, List, [], ◌∷◌, ◌++◌, length}
use Rattle.ax_tags.specs.declared.tags.Tag.{Tag}
use Rattle.ax_tags.specs.declared.tags.Tag.TheVariants.{Silent, Stored}
use Rattle.ax_isa.specs.declared.effects.Change.TheVariants.{Exchange}
use Rattle.ax_isa.specs.declared.effects.Effect.TheVariants.{Load, Locked}
use Rattle.ax_isa.specs.declared.effects.Rest.{Rest}
use Rattle.ax_isa.specs.Processor.{Processor}
use Rattle.ax_isa.specs.Steps.{Kind, exchanged, extended}
use Rattle.ax_expand.specs.Operation.{Keeps, Operation}
use Rattle.ax_expand.specs.Private.{Private, Goes}
use Rattle.ax_expand.specs.Standing.{silently}
use Rattle.ax_expand.specs.World.{World}
use Rattle.ax_loops.specs.Moving.{Turns, nowhere}
use Rattle.ax_loops.specs.Replacing.{Replacement, Replaces}

pub record CompareLoop (I : Type 0) : Type 0 where
  pub load : I
  pub computation : List I
  pub exchange : I
  -- what stands between the exchange and the branch
  pub checks : List I
  pub branch : I
  -- the register that gets what is found, by the load and by an exchange that fails, and how each takes fewer than 8 bytes
  pub old : ℕ
  pub loaded : Rest
  pub rest : Rest
  -- the second register of an exchange, and whether it compares as x86-64's does
  pub high : ℕ
  pub compares : Bool
  -- the registers that are as the operation finds them until its event: all that it keeps, but those that get results
  pub holds : ℕ → Bool

-- its instructions with their marks: the event is the exchange's where it stores
abbrev pub compare_code : {I : Type 0} → CompareLoop I → List (I × Tag)
compare_code z = (z.load, Silent) ∷ (silently z.computation ++ (z.exchange, Stored) ∷ (silently z.checks ++ (z.branch, Silent) ∷ []))

abbrev pub compare_size : {I : Type 0} → CompareLoop I → ℕ
compare_size z = length z.computation + length z.checks + 3

-- the idle steps in a row: from an exchange that failed to the next one
abbrev pub compare_most : {I : Type 0} → CompareLoop I → ℕ
compare_most z = length z.computation + length z.checks + 1

module _ {I W : Type 0} (k : Kind I) (keeps : ℕ → Bool) (o : Operation W) (r : Replacement W) (z : CompareLoop I) where
  -- the checks lead from one processor to another
  pub record Checks (y : Private) (Then : Processor → Type 0) : Type 0 where
    pub private : Private
    pub goes : Goes k nowhere z.checks y private
    pub next : Then private.cpu

  -- it is through, and goes on
  pub record IsDone (regs : ℕ → ℕ) (number : ℕ) (c : Processor) : Type 0 where
    pub gives : Keeps keeps c.regs (r.gives regs number)
    pub on : c.place + 1 < 2 ^ 32 → Turns (k.effect_of z.branch c) c (c.place + 1)

  -- it goes back to the computation, with what it found
  pub record IsBack (regs : ℕ → ℕ) (found : ℕ) (c : Processor) : Type 0 where
    pub holds : Keeps z.holds c.regs regs
    pub old : c.regs z.old ≡ extended r.bytes z.loaded 0 found
    pub back : (start : ℕ) → c.place ≡ start + (length z.computation + length z.checks + 2) → c.place + 1 < 2 ^ 32 → Turns (k.effect_of z.branch c) c (start + 1)

  -- once all is computed: the exchange compares with the number that was found last, and stores what the operation leaves
  pub record Exchanges (regs : ℕ → ℕ) (number : ℕ) (c : Processor) : Type 0 where
    pub expected : ℕ
    pub is_expected : expected % 2 ^ (8 * r.bytes) ≡ number
    pub exchanges : (w : W) → o.fits regs w → k.effect_of z.exchange c ≡ Locked z.old z.high (r.address regs) r.bytes z.rest (Exchange expected (r.leaves regs number) z.compares)
    pub done : (f : ℕ → ℕ) → Checks (record { cpu = exchanged r.bytes z.old z.high z.rest (Exchange expected (r.leaves regs number) z.compares) number c; frame = f }) (λ b. IsDone regs number b)
    pub back : (f : ℕ → ℕ) (found : ℕ) → found < 2 ^ (8 * r.bytes) → found ≢ number → Checks (record { cpu = exchanged r.bytes z.old z.high z.rest (Exchange expected (r.leaves regs number) z.compares) found c; frame = f }) (λ b. IsBack regs found b)

  pub record Computes (regs : ℕ → ℕ) (number : ℕ) (y : Private) : Type 0 where
    pub private : Private
    pub goes : Goes k nowhere z.computation y private
    pub exchanges : Exchanges regs number private.cpu

  -- WHAT A COMPARE LOOP DOES FOR AN OPERATION, instruction by instruction, whatever its scratch registers have
  pub record Compares (world : World W) : Type 0 where
    pub replaces : Replaces world o r
    pub kept : (q : ℕ) → z.holds q ≡ true → (keeps q ≡ true) × (q ≢ z.old)
    pub fills : (before number : ℕ) → extended r.bytes z.loaded before number ≡ extended r.bytes z.loaded 0 number
    pub loads : (c : Processor) (regs : ℕ → ℕ) (w : W) → o.fits regs w → Keeps z.holds c.regs regs → k.effect_of z.load c ≡ Load z.old (r.address regs) r.bytes z.loaded false
    pub computes : (y : Private) (regs : ℕ → ℕ) (number : ℕ) → number < 2 ^ (8 * r.bytes) → Keeps z.holds y.cpu.regs regs → y.cpu.regs z.old ≡ extended r.bytes z.loaded 0 number → Computes regs number y
