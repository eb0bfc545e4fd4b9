-- A retry loop over 16 bytes: its linked load is one instruction of two steps, each of which loads 8 bytes, then comes a computation on registers, a pair store, and a way back where that failed (Arm ARM, LDXP and exclusive monitors).
use Rattle.std.specs.Prelude.{◌≡◌, ◌≢◌, ℕ, ◌+◌, ◌*◌, ◌^◌, ◌<◌, ◌≤◌, Bool, true, false, List, ◌∷◌, ◌++◌, length}
use Rattle.ax_store.specs.Bytes.{number_at}
use Rattle.ax_tags.specs.declared.tags.Tag.{Tag}
use Rattle.ax_tags.specs.declared.tags.Tag.TheVariants.{Silent, Stored}
use Rattle.ax_isa.specs.declared.effects.Effect.TheVariants.{LinkHalf, Load, PairStore}
use Rattle.ax_isa.specs.declared.effects.Rest.TheVariants.{Zeros}
use Rattle.ax_isa.specs.Past.{Noted}
use Rattle.ax_isa.specs.Processor.{Processor}
use Rattle.ax_isa.specs.Steps.{Kind, go_with}
use Rattle.ax_isa.specs.Tells.{Library}
use Rattle.ax_follow.specs.Contract.{Meaning, Reading}
use Rattle.ax_expand.specs.Expands.{Begun, reading_of}
use Rattle.ax_expand.specs.Operation.{Alone, Inner, Keeps, Operation, alone}
use Rattle.ax_expand.specs.Standing.{HasAt, setting_by, silently}
use Rattle.ax_expand.specs.World.{Words, World}
use Rattle.ax_loops.specs.Replacing.{Replacement, Replaces}
use Rattle.ax_loops.specs.Ways.{Laid, Leads}

pub record WideLoop (I : Type 0) : Type 0 where
  pub link : I
  -- what stands between the linked load and the pair store, and behind that
  pub between : List I
  pub pair : I
  pub behind : List I
  -- the registers that get what is linked, and the one that tells whether the pair store failed
  pub low : ℕ
  pub high : ℕ
  pub failed : ℕ
  -- the registers that are as the operation finds them until its event: all that it keeps, but those that get results
  pub holds : ℕ → Bool
  -- so many steps at most lead back from a pair store that failed, and so many idle steps follow one another
  pub back : ℕ
  pub most : ℕ

-- the event is the pair store's where it writes
abbrev pub wide_code : {I : Type 0} → WideLoop I → List (I × Tag)
wide_code z = (z.link, Silent) ∷ (silently z.between ++ (z.pair, Stored) ∷ silently z.behind)

abbrev pub wide_size : {I : Type 0} → WideLoop I → ℕ
wide_size z = length z.between + length z.behind + 2

-- ---- the contract of such code: no half of a linked load is done at its beginning, nor at its end
pub record Whole (keeps : ℕ → Bool) (frames : ℕ → ℕ → ℕ) (p : ℕ) (c : Processor) (n : Noted) (t : Inner) : Type 0 where
  pub alone : Alone keeps frames p c n t
  pub half : c.half ≡ false

abbrev pub whole : {W : Type 0} → World W → Operation W → Bool → (ℕ → Bool) → (ℕ → ℕ → ℕ) → ℕ → ℕ → ℕ → Meaning Inner W
whole world o quiet keeps frames start end own = record (alone world o quiet keeps frames start end own) { matches = λ p c n t. Whole keeps frames p c n t }

-- AN EXPANSION that begins and ends with no half of a linked load done
pub record ExpandsWhole {I W : Type 0} (k : Kind I) (world : World W) (most : ℕ) (keeps : ℕ → Bool) (size : ℕ) (piece : ℕ → List (I × Tag)) (o : Operation W) : Type 0 where
  pub length_is : (start : ℕ) → length (piece start) ≡ size
  pub some : 1 ≤ size
  pub follows :
      (code : List I) (tags : ℕ → Tag) (lib : Library) (v : Reading) (quiet : Bool) (own start : ℕ) (frames : ℕ → ℕ → ℕ) → Words lib → most ≤ v.most
      → HasAt (setting_by k code tags lib) (reading_of v) quiet own start (piece start)
      → Begun (setting_by k code tags lib) (whole world o quiet keeps frames start (start + size) own) (reading_of v) own

module _ {I W : Type 0} (k : Kind I) (keeps : ℕ → Bool) (o : Operation W) (r : Replacement W) (z : WideLoop I) where
  abbrev pub wide_laid : ℕ → Laid I
  wide_laid start = record { kind = k; code = wide_code z; start = start }

  -- it is through, with these registers
  pub record IsOver (start : ℕ) (after : ℕ → ℕ) (c : Processor) : Type 0 where
    pub place : c.place ≡ start + wide_size z
    pub gives : Keeps keeps c.regs after
    pub half : c.half ≡ false

  pub record IsAgain (start : ℕ) (regs : ℕ → ℕ) (c : Processor) : Type 0 where
    pub place : c.place ≡ start
    pub holds : Keeps z.holds c.regs regs
    pub half : c.half ≡ false

  -- all is computed: the pair store stores what the operation leaves
  pub record AtStore (start : ℕ) (regs : ℕ → ℕ) (number : ℕ) (c : Processor) : Type 0 where
    pub place : c.place ≡ start + (length z.between + 1)
    pub stores : (w : W) → o.fits regs w → k.effect_of z.pair c ≡ PairStore z.failed (r.address regs) 16 (r.leaves regs number)
    pub done : Leads (wide_laid start) z.most (λ b. IsOver start (r.gives regs number) b) (go_with z.failed 0 c)
    pub fails : Leads (wide_laid start) z.back (λ b. IsAgain start regs b) (go_with z.failed 1 c)

  -- a way to it, which leaves room for the steps back and both steps of the linked load
  pub record Prepares (start : ℕ) (regs : ℕ → ℕ) (number : ℕ) (c : Processor) : Type 0 where
    pub forth : ℕ
    pub few : forth + z.back + 2 ≤ z.most
    pub leads : Leads (wide_laid start) forth (λ b. AtStore start regs number b) c

  -- behind the linked load, which found these two numbers
  pub record HasBoth (start : ℕ) (regs : ℕ → ℕ) (low high : ℕ) (c : Processor) : Type 0 where
    pub room : start + wide_size z < 2 ^ 32
    pub place : c.place ≡ start + 1
    pub holds : Keeps z.holds c.regs regs
    pub low_is : c.regs z.low ≡ low
    pub high_is : c.regs z.high ≡ high
    pub low_small : low < 2 ^ 64
    pub high_small : high < 2 ^ 64
    pub half : c.half ≡ false

  -- WHAT A WIDE LOOP DOES FOR AN OPERATION, instruction by instruction, whatever its scratch registers have
  pub record WideRetries (world : World W) : Type 0 where
    pub replaces : Replaces world o r
    pub wide : r.bytes ≡ 16
    pub halves : (n : Noted) (regs : ℕ → ℕ) (w : W) → world.sees n w → o.fits regs w → (number_at n.storage.mem (r.address regs) 8 < 2 ^ 64) × (number_at n.storage.mem (r.address regs + 8) 8 < 2 ^ 64)
    pub unbuffered : k.buffered ≡ false
    pub few : z.back + 2 ≤ z.most
    pub kept : (q : ℕ) → z.holds q ≡ true → (keeps q ≡ true) × (q ≢ z.low) × (q ≢ z.high)
    pub apart : z.low ≢ z.high
    -- the two steps of the linked load
    pub first : (c : Processor) (regs : ℕ → ℕ) (w : W) → o.fits regs w → Keeps z.holds c.regs regs → c.half ≡ false → k.effect_of z.link c ≡ LinkHalf z.low (r.address regs)
    pub second : (c : Processor) (regs : ℕ → ℕ) (w : W) → o.fits regs w → Keeps z.holds c.regs regs → c.half ≡ true → k.effect_of z.link c ≡ Load z.high (r.address regs + 8) 8 Zeros true
    pub computes : (start : ℕ) (c : Processor) (regs : ℕ → ℕ) (low high : ℕ) (w : W) → o.fits regs w → HasBoth start regs low high c → Prepares start regs (low + 2 ^ 64 * high) c
