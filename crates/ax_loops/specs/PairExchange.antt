-- An exchange by a linked load and a pair store: it leaves without a store where the object in the word that it loaded differs from the expected number; where the pair store fails a strong one goes back, and a weak one answers false (RISC-V A extension, "Load-Reserved/Store-Conditional Instructions"; Arm ARM, exclusive monitors).
use Rattle.std.specs.Prelude.{◌≡◌, ◌≢◌, ℕ, ◌+◌, ◌*◌, ◌^◌, ◌<◌, ◌≤◌, Bool, true, false, List, ◌∷◌, ◌++◌, length, nat_eq, Option}
use Rattle.ax_tags.specs.declared.tags.Tag.{Tag}
use Rattle.ax_tags.specs.declared.tags.Tag.TheVariants.{Linked, Stored, StoredOrMiss}
use Rattle.ax_isa.specs.declared.effects.Effect.TheVariants.{Link, PairStore}
use Rattle.ax_isa.specs.declared.effects.Rest.{Rest}
use Rattle.ax_isa.specs.Processor.{Processor}
use Rattle.ax_isa.specs.Steps.{Kind, extended, go_with}
use Rattle.ax_isa.specs.Tells.{masked_by}
use Rattle.ax_expand.specs.Operation.{Keeps, Operation}
use Rattle.ax_expand.specs.Standing.{silently}
use Rattle.ax_expand.specs.World.{World}
use Rattle.ax_loops.specs.Exchanging.{Exchange, IsExchange}
use Rattle.ax_loops.specs.Ways.{Laid, Leads}

pub record PairExchange (I : Type 0) : Type 0 where
  pub weak : Bool
  pub link : I
  -- what stands between the linked load and the pair store, and behind that
  pub between : List I
  pub pair : I
  pub behind : List I
  -- the register that gets what is linked, and how it takes fewer than 8 bytes; those with the expected number, with the mask if there is one, and with whether the pair store failed
  pub old : ℕ
  pub rest : Rest
  pub expected : ℕ
  pub mask : Option ℕ
  pub failed : ℕ
  -- the registers that are as the operation finds them until its event: all that it keeps, but those that get results
  pub holds : ℕ → Bool
  -- so many steps at most lead back from a pair store that failed, and so many idle steps follow one another
  pub back : ℕ
  pub most : ℕ

-- the event is the linked load's where the numbers differ, else the pair store's
abbrev pub pair_mark : Bool → Tag
pair_mark true = StoredOrMiss
pair_mark false = Stored

abbrev pub exchange_code : {I : Type 0} → PairExchange I → List (I × Tag)
exchange_code z = (z.link, Linked z.weak z.expected z.mask) ∷ (silently z.between ++ (z.pair, pair_mark z.weak) ∷ silently z.behind)

abbrev pub exchange_size : {I : Type 0} → PairExchange I → ℕ
exchange_size z = length z.between + length z.behind + 2

module _ {I W : Type 0} (k : Kind I) (keeps : ℕ → Bool) (o : Operation W) (r : Exchange W) (z : PairExchange I) where
  abbrev pub laid : ℕ → Laid I
  laid start = record { kind = k; code = exchange_code z; start = start }

  -- it is through, with these registers
  pub record IsThrough (start : ℕ) (after : ℕ → ℕ) (c : Processor) : Type 0 where
    pub place : c.place ≡ start + exchange_size z
    pub gives : Keeps keeps c.regs after

  pub record IsBack (start : ℕ) (regs : ℕ → ℕ) (c : Processor) : Type 0 where
    pub place : c.place ≡ start
    pub holds : Keeps z.holds c.regs regs

  -- a way out with an answer
  abbrev pub Ends : ℕ → (ℕ → ℕ) → ℕ → Bool → Processor → Type 0
  Ends start regs number stored c = Leads (laid start) z.most (λ b. IsThrough start (r.gives regs number stored) b) c

  -- behind a pair store that failed
  abbrev pub Fails : Bool → ℕ → (ℕ → ℕ) → Processor → Type 0
  Fails true start regs c = Ends start regs (r.expected regs) false c
  Fails false start regs c = Leads (laid start) z.back (λ b. IsBack start regs b) c

  -- where a word of this number was linked
  pub record AtPair (start : ℕ) (regs : ℕ → ℕ) (number : ℕ) (c : Processor) : Type 0 where
    pub place : c.place ≡ start + (length z.between + 1)
    pub stores : (w : W) → o.fits regs w → k.effect_of z.pair c ≡ PairStore z.failed (r.address regs) r.bytes (r.leaves regs number)
    pub done : Ends start regs (r.expected regs) true (go_with z.failed 0 c)
    pub fails : Fails z.weak start regs (go_with z.failed 1 c)

  -- a way to it, which leaves room for the steps back and the linked load
  pub record Pairs (start : ℕ) (regs : ℕ → ℕ) (number : ℕ) (c : Processor) : Type 0 where
    pub forth : ℕ
    pub few : forth + z.back + 1 ≤ z.most
    pub leads : Leads (laid start) forth (λ b. AtPair start regs number b) c

  -- behind the linked load, which found a word of this number
  pub record HasLinked (start : ℕ) (regs : ℕ → ℕ) (number : ℕ) (c : Processor) : Type 0 where
    pub room : start + exchange_size z < 2 ^ 32
    pub place : c.place ≡ start + 1
    pub holds : Keeps z.holds c.regs regs
    pub old : c.regs z.old ≡ extended r.bytes z.rest 0 number
    pub small : number < 2 ^ (8 * r.bytes)

  -- WHAT SUCH CODE DOES FOR AN EXCHANGE, instruction by instruction, whatever its scratch registers have
  pub record Exchanges (world : World W) : Type 0 where
    pub exchange : IsExchange world r z.weak o
    pub unbuffered : k.buffered ≡ false
    pub few : z.back + 1 ≤ z.most
    pub kept : (q : ℕ) → z.holds q ≡ true → (keeps q ≡ true) × (q ≢ z.old)
    pub fills : (before number : ℕ) → extended r.bytes z.rest before number ≡ extended r.bytes z.rest 0 number
    -- the test of its mark is that of the object
    pub compares :
        (c : Processor) (regs : ℕ → ℕ) (number : ℕ) (w : W) → o.fits regs w → Keeps z.holds c.regs regs → number < 2 ^ (8 * r.bytes)
        → nat_eq (masked_by z.mask r.bytes c number) (masked_by z.mask r.bytes c (c.regs z.expected)) ≡ nat_eq (r.part regs number) (r.expected regs)
    pub links : (c : Processor) (regs : ℕ → ℕ) (w : W) → o.fits regs w → Keeps z.holds c.regs regs → k.effect_of z.link c ≡ Link z.old (r.address regs) r.bytes z.rest
    -- from there out where the numbers differ, else to the pair store
    pub differs :
        (start : ℕ) (c : Processor) (regs : ℕ → ℕ) (number : ℕ) (w : W) → o.fits regs w → HasLinked start regs number c → r.part regs number ≢ r.expected regs → Ends start regs (r.part regs number) false c
    pub equals : (start : ℕ) (c : Processor) (regs : ℕ → ℕ) (number : ℕ) (w : W) → o.fits regs w → HasLinked start regs number c → r.part regs number ≡ r.expected regs → Pairs start regs number c
