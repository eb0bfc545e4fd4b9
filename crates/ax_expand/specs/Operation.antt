-- What the code of one operation on registers means.
use Rattle.std.specs.Prelude.{◌≡◌, ℕ, suc, Bool, true, false, if◌then◌else◌, Option, Some, None}
use Rattle.ax_words.specs.declared.source.SourceStatus.TheVariants.{Running as Runs}
use Rattle.ax_tags.specs.declared.tags.Role.TheVariants.{None as Outside}
use Rattle.ax_isa.specs.Past.{Noted}
use Rattle.ax_isa.specs.Processor.{Processor}
use Rattle.ax_isa.specs.Tells.{Given, Nothing}
use Rattle.ax_follow.specs.Contract.{Meaning, Did, done_after}
use Rattle.ax_expand.specs.World.{World}
use Rattle.ax_expand.specs.Private.{Spells}

-- what an event of an operation leaves: registers, what a look saw, what all share
pub record Deed (W : Type 0) : Type 0 where
  pub regs : ℕ → ℕ
  pub seen : Option ℕ
  pub world : W
  pub output : Option ℕ
  pub excused : Bool

pub record Operation (W : Type 0) : Type 1 where
  -- of processor p, with these registers and what a look saw before
  pub happens : Given → ℕ → (ℕ → ℕ) → Option ℕ → W → Option (Deed W)
  -- what it asks of its registers and of all that is shared
  pub fits : (ℕ → ℕ) → W → Type 0

-- a processor in the code of an operation
pub record Inner : Type 0 where
  pub regs : ℕ → ℕ
  pub seen : Option ℕ
  pub over : Bool

-- a silent instruction gives no source event
abbrev pub hushed : Bool → Given → Given
hushed true g = Nothing
hushed false g = g

abbrev pub did_of : {W : Type 0} → Bool → Given → Option (Deed W) → Option (Did Inner W)
did_of quiet g None = None
did_of quiet g (Some d) = Some (record { processor = record { regs = d.regs; seen = d.seen; over = done_after g false }; world = d.world; output = d.output; gives = hushed quiet g; excused = d.excused })

abbrev pub Keeps : (ℕ → Bool) → (ℕ → ℕ) → (ℕ → ℕ) → Type 0
Keeps keeps f g = (r : ℕ) → keeps r ≡ true → f r ≡ g r

-- a processor of the machine that stands there: the registers that the code keeps, and the bytes of its frame as it sees them
pub record Alone (keeps : ℕ → Bool) (frames : ℕ → ℕ → ℕ) (p : ℕ) (c : Processor) (n : Noted) (t : Inner) : Type 0 where
  pub regs : Keeps keeps c.regs t.regs
  pub role : c.role ≡ Outside
  pub frame : Spells p n (frames p)

abbrev pub Fits : {W : Type 0} → Operation W → Bool → Inner → W → Type 0
Fits o true t w = Unit {0}
Fits o false t w = o.fits t.regs w

-- THE MEANING of an operation's code, which stands from `start` to `end`
abbrev pub alone : {W : Type 0} → World W → Operation W → Bool → (ℕ → Bool) → (ℕ → ℕ → ℕ) → ℕ → ℕ → ℕ → Meaning Inner W
alone world o quiet keeps frames start end own =
    record {
      status = λ t. Runs;
      chosen = λ g p t w. if t.over then None else did_of quiet g (o.happens g p t.regs t.seen w);
      drained = world.drained;
      drain_gives = world.drain_gives;
      sees = world.sees;
      number = λ t. if t.over then suc own else own;
      begins = λ t. if t.over then end else start;
      matches = λ p c n t. Alone keeps frames p c n t;
      fits = λ p t w. Fits o t.over t w;
    }
