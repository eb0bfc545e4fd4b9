-- An operation on registers whose code prepares registers for another operation, does that, and makes results of what it leaves, over any instruction set.
use Rattle.std.specs.Prelude.{◌≡◌, ◌≢◌, ℕ, ◌+◌, Bool, true, false, List, Option, Some, None, length}
use Rattle.ax_tags.specs.declared.tags.Tag.{Tag}
use Rattle.ax_isa.specs.Steps.{Kind}
use Rattle.ax_isa.specs.Tells.{Given, Library, Nothing}
use Rattle.ax_follow.specs.Contract.{IsOwn, Reading, done_after}
use Rattle.ax_expand.specs.Bytes.{bytes_world}
use Rattle.ax_expand.specs.Expands.{Expands}
use Rattle.ax_expand.specs.Operation.{Deed, Inner, Keeps, Operation, alone}
use Rattle.ax_expand.specs.Private.{Goes, Private}
use Rattle.ax_expand.specs.Shared.{Shared}
use Rattle.ax_expand.specs.Standing.{wrap}
use Rattle.ax_expand.specs.Wraps.{Wrapping}

-- this code uses no byte of a frame
abbrev pub no_room : ℕ → Bool
no_room b = false

-- straight code that leads to registers of which this holds
pub record Leads {I : Type 0} (k : Kind I) (is : List I) (y : Private) (Q : (ℕ → ℕ) → Type 0) : Type 0 where
  pub private : Private
  pub goes : Goes k no_room is y private
  pub frame : private.frame ≡ y.frame
  pub regs : Q private.cpu.regs

pub record Around (I : Type 0) : Type 1 where
  pub kind : Kind I
  -- the operation, and the registers that its code keeps
  pub outer : Operation Shared
  pub keeps : ℕ → Bool
  -- the other operation: its code from a place on, the length of that, its idle steps in a row, and the registers that it keeps
  pub inner : Operation Shared
  pub piece : ℕ → List (I × Tag)
  pub size : ℕ
  pub most : ℕ
  pub holds : ℕ → Bool
  -- what stands before its code and behind it
  pub before : List I
  pub after : List I
  -- the registers of the operation and those of the other one, before the event and after it
  pub Ties : Bool → (ℕ → ℕ) → (ℕ → ℕ) → Type 0

-- two events that leave the same, but for registers
pub record Agrees (Tie : (ℕ → ℕ) → (ℕ → ℕ) → Type 0) (d e : Deed Shared) : Type 0 where
  pub seen : d.seen ≡ e.seen
  pub world : d.world ≡ e.world
  pub output : d.output ≡ e.output
  pub excused : d.excused ≡ e.excused
  pub regs : Tie d.regs e.regs

-- where the other operation has an event, so has this one
abbrev pub Agree : ((ℕ → ℕ) → (ℕ → ℕ) → Type 0) → Option (Deed Shared) → Option (Deed Shared) → Type 0
Agree Tie d None = Unit {0}
Agree Tie None (Some e) = ⊥
Agree Tie (Some d) (Some e) = Agrees Tie d e

module _ {I : Type 0} (z : Around I) where
  -- ALL THAT IS TO BE SHOWN of such code
  pub record IsAround : Type 0 where
    pub expands : Expands z.kind bytes_world z.most z.holds z.size z.piece z.inner
    pub brings : (y : Private) → Leads z.kind z.before y (λ got. (regs : ℕ → ℕ) → Keeps z.keeps y.cpu.regs regs → z.Ties false regs got)
    pub puts : (y : Private) (regs got : ℕ → ℕ) → z.Ties true regs got → Keeps z.holds y.cpu.regs got → Leads z.kind z.after y (λ left. Keeps z.keeps left regs)
    pub fits : (regs got : ℕ → ℕ) (w : Shared) → z.Ties false regs got → z.outer.fits regs w → z.inner.fits got w
    pub happens :
        (g : Given) (p : ℕ) (regs got : ℕ → ℕ) (seen : Option ℕ) (w : Shared) → g ≢ Nothing → z.Ties false regs got → z.outer.fits regs w
        → Agree (z.Ties (done_after g false)) (z.outer.happens g p regs seen w) (z.inner.happens g p got seen w)

  abbrev pub code : ℕ → List (I × Tag)
  code start = wrap z.before z.piece z.after start

  abbrev pub size : ℕ
  size = length z.before + z.size + length z.after

  abbrev pub idle : ℕ
  idle = z.most + length z.before + length z.after

  -- IT IS AN EXPANSION of its operation
  abbrev pub Expanding : Type 0
  Expanding = Expands z.kind bytes_world idle z.keeps size code z.outer

-- where the code stands
pub record Standing (I : Type 0) : Type 0 where
  pub code : List I
  pub tags : ℕ → Tag
  pub library : Library
  pub reading : Reading
  pub quiet : Bool
  pub number : ℕ
  pub start : ℕ
  pub frames : ℕ → ℕ → ℕ

-- a processor in the operation's code and one in that of the other
pub record Relates {I : Type 0} (z : Around I) (frames : ℕ → ℕ → ℕ) (p : ℕ) (f : ℕ → ℕ) (acted : Bool) (s t : Inner) : Type 0 where
  pub over : s.over ≡ acted
  pub inner_over : t.over ≡ acted
  pub seen : t.seen ≡ s.seen
  pub frame : (b : ℕ) → IsOwn p b → f b ≡ frames p b
  pub regs : z.Ties acted s.regs t.regs

abbrev pub wrapping_at : {I : Type 0} → Around I → Standing I → Wrapping I Inner Shared
wrapping_at z x =
    record {
      kind = z.kind;
      code = x.code;
      tags = x.tags;
      library = x.library;
      meaning = alone bytes_world z.outer x.quiet z.keeps x.frames x.start (x.start + size z) x.number;
      reading = x.reading;
      world = bytes_world;
      operation = z.inner;
      piece = z.piece;
      size = z.size;
      most = z.most;
      keeps = z.holds;
      number = x.number;
      quiet = x.quiet;
      start = x.start;
      before = z.before;
      after = z.after;
      takes = λ p s. Unit {0};
      room = λ p b. false;
      relates = Relates z x.frames;
    }
