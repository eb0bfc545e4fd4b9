-- An operation that compares an object with an expected number, and stores another there where they are equal; a weak one may answer false there (LLVM Language Reference, "cmpxchg"). The object is a word in memory, or a part of one under a mask: the word is what is linked and stored.
use Rattle.std.specs.Prelude.{◌≡◌, ◌≢◌, ℕ, ◌*◌, ◌%◌, ◌^◌, ◌<◌, Bool, true, false, [], Option, Some, None}
use Rattle.ax_store.specs.Bytes.{IsWidth, all_inside, number_at}
use Rattle.ax_store.specs.Storage.{entry_of}
use Rattle.ax_isa.specs.Past.{Noted}
use Rattle.ax_isa.specs.Tells.{An_act, A_look, A_miss, Library}
use Rattle.ax_expand.specs.OneInstruction.{Happens}
use Rattle.ax_expand.specs.Operation.{Deed, Operation}
use Rattle.ax_expand.specs.Shared.{IsBelow}
use Rattle.ax_expand.specs.World.{World}
use Rattle.ax_loops.specs.Replacing.{Wrote}

-- which word it is, which part of it is the object, what is expected, and what is stored there
pub record Exchange (W : Type 0) : Type 0 where
  -- of the word
  pub bytes : ℕ
  -- by the operation's registers: the address of the word, and the object's expected number
  pub address : (ℕ → ℕ) → ℕ
  pub expected : (ℕ → ℕ) → ℕ
  -- the object's number in the word's, by the registers; without a mask the word's own
  pub part : (ℕ → ℕ) → ℕ → ℕ
  -- the word that is stored over one of this number, by the registers
  pub leaves : (ℕ → ℕ) → ℕ → ℕ
  -- the registers afterwards, by the registers, the object's number that is found, and whether it was replaced
  pub gives : (ℕ → ℕ) → ℕ → Bool → ℕ → ℕ
  -- the word's number that is found in what all share
  pub finds : (ℕ → ℕ) → W → ℕ

-- an event leaves these registers, without output, and is no caused failure
pub record Gives {W : Type 0} (d : Deed W) (after : ℕ → ℕ) : Type 0 where
  pub regs : d.regs ≡ after
  pub output : d.output ≡ None
  pub excused : d.excused ≡ false

module _ {W : Type 0} (world : World W) (r : Exchange W) where
  -- the write over a word of this number is what becomes of all that is shared
  abbrev pub Stores : Noted → ℕ → (ℕ → ℕ) → ℕ → Deed W → Type 0
  Stores n p regs number d = Gives d (r.gives regs (r.expected regs) true) × ((lib : Library) (new : Noted) → Wrote lib p (entry_of (r.address regs) r.bytes (r.leaves regs number)) n new → world.sees new d.world)

  -- nothing that is shared changes
  abbrev pub Answers : Noted → (ℕ → ℕ) → Deed W → Type 0
  Answers n regs d = Gives d regs × world.sees n d.world

  pub record IsExchange (weak : Bool) (o : Operation W) : Type 0 where
    pub width : IsWidth r.bytes
    -- it acts once no own store waits: it stores where it finds the expected number, and else only answers
    pub stores :
        (p : ℕ) (n : Noted) (regs : ℕ → ℕ) (seen : Option ℕ) (w : W) → world.sees n w → n.storage.waiting p ≡ [] → o.fits regs w → r.part regs (r.finds regs w) ≡ r.expected regs
        → Happens (o.happens An_act p regs seen w) (λ d. Stores n p regs (r.finds regs w) d)
    pub differs :
        (p : ℕ) (n : Noted) (regs : ℕ → ℕ) (seen : Option ℕ) (w : W) → world.sees n w → n.storage.waiting p ≡ [] → o.fits regs w → r.part regs (r.finds regs w) ≢ r.expected regs
        → Happens (o.happens An_act p regs seen w) (λ d. Answers n (r.gives regs (r.part regs (r.finds regs w)) false) d)
    -- a weak one may look, and then answer false where it saw the expected number
    pub looks :
        weak ≡ true → (p : ℕ) (n : Noted) (regs : ℕ → ℕ) (seen : Option ℕ) (w : W) → world.sees n w → o.fits regs w → Happens (o.happens A_look p regs seen w) (λ d. (d.seen ≡ Some (r.part regs (r.finds regs w))) × Answers n regs d)
    pub misses :
        weak ≡ true → (p : ℕ) (n : Noted) (regs : ℕ → ℕ) (w : W) → world.sees n w → o.fits regs w → Happens (o.happens A_miss p regs (Some (r.expected regs)) w) (λ d. Answers n (r.gives regs (r.expected regs) false) d)
    -- the word's bytes are aligned, below the frames and inside the regions
    pub aligned : (regs : ℕ → ℕ) (w : W) → o.fits regs w → r.address regs % r.bytes ≡ 0
    pub below : (regs : ℕ → ℕ) (w : W) → o.fits regs w → IsBelow (r.address regs) r.bytes
    pub inside : (n : Noted) (regs : ℕ → ℕ) (w : W) → world.sees n w → o.fits regs w → all_inside n.storage.inside (r.address regs) r.bytes ≡ true
    -- what stands there, which fits in its bytes
    pub found : (n : Noted) (regs : ℕ → ℕ) (w : W) → world.sees n w → o.fits regs w → number_at n.storage.mem (r.address regs) r.bytes ≡ r.finds regs w
    pub small : (regs : ℕ → ℕ) (w : W) → o.fits regs w → r.finds regs w < 2 ^ (8 * r.bytes)
