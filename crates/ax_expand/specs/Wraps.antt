-- Code round an operation: what it is, and what it has to do. It brings what the operation takes, and keeps what that gives.
use Rattle.std.specs.Prelude.{◌≡◌, ◌≢◌, ℕ, ◌+◌, ◌≤◌, Bool, true, false, List, length}
use Rattle.ax_store.specs.Storage.{seen}
use Rattle.ax_words.specs.declared.source.SourceStatus.TheVariants.{Running as Runs}
use Rattle.ax_tags.specs.declared.tags.Role.TheVariants.{None as Outside}
use Rattle.ax_tags.specs.declared.tags.Tag.{Tag}
use Rattle.ax_isa.specs.Past.{Noted}
use Rattle.ax_isa.specs.Processor.{Processor}
use Rattle.ax_isa.specs.Run.{Setting}
use Rattle.ax_isa.specs.Steps.{Kind}
use Rattle.ax_isa.specs.Tells.{Given, Nothing, Library}
use Rattle.ax_follow.specs.Contract.{Meaning, Reading, IsOwn}
use Rattle.ax_expand.specs.Expands.{reading_of, Expands}
use Rattle.ax_expand.specs.Mirrors.{Mirrored}
use Rattle.ax_expand.specs.Operation.{Operation, Inner, Keeps}
use Rattle.ax_expand.specs.Private.{Private, Spells, Goes}
use Rattle.ax_expand.specs.Standing.{HasAt, setting_by, wrap}
use Rattle.ax_expand.specs.World.{World, Lawful, Over, Words}

-- a processor of the machine with what it sees
abbrev pub viewed : ℕ → Processor → Noted → Private
viewed p c n = record { cpu = c; frame = seen p n.storage }

pub record Wrapping (I P W : Type 0) : Type 1 where
  -- the machine with its code, and what that means
  pub kind : Kind I
  pub code : List I
  pub tags : ℕ → Tag
  pub library : Library
  pub meaning : Meaning P W
  pub reading : Reading
  pub world : World W
  -- the operation; its code from a place on, the length of that, its idle steps and the registers that it keeps
  pub operation : Operation W
  pub piece : ℕ → List (I × Tag)
  pub size : ℕ
  pub most : ℕ
  pub keeps : ℕ → Bool
  -- the instruction whose code all this is, whether it is silent, where its code begins, and what stands before the operation's code and behind it
  pub number : ℕ
  pub quiet : Bool
  pub start : ℕ
  pub before : List I
  pub after : List I
  -- the processors above whose event is that of the operation
  pub takes : ℕ → P → Type 0
  -- the addresses of p's frame that this code uses
  pub room : ℕ → ℕ → Bool
  -- the bytes of p's frame while the operation runs tie a processor above to one in the operation's code, before its event and after it
  pub relates : ℕ → (ℕ → ℕ) → Bool → P → Inner → Type 0

abbrev pub setting_in : {I P W : Type 0} → Wrapping I P W → Setting I
setting_in z = setting_by z.kind z.code z.tags z.library

module _ {I P W : Type 0} (z : Wrapping I P W) where
  -- where the operation's code ends
  abbrev pub inner_start : ℕ
  inner_start = z.start + length z.before

  abbrev pub inner_end : ℕ
  inner_end = z.start + length z.before + z.size

  -- once all that the operation takes is in its registers
  pub record Brought (p : ℕ) (s : P) (y : Private) : Type 0 where
    pub private : Private
    pub inner : Inner
    pub goes : Goes z.kind (z.room p) z.before y private
    pub regs : Keeps z.keeps private.cpu.regs inner.regs
    pub begins : inner.over ≡ false
    pub rel : z.relates p private.frame false s inner

  -- and once what it gave is where it is kept
  pub record PutBack (p : ℕ) (s : P) (y : Private) : Type 0 where
    pub private : Private
    pub goes : Goes z.kind (z.room p) z.after y private
    pub matches : (n : Noted) → Spells p n private.frame → z.meaning.matches p private.cpu n s

  pub record Wraps (p : ℕ) : Type 0 where
    pub over : (f : ℕ → ℕ) (a : Bool) (s : P) (t : Inner) → z.relates p f a s t → t.over ≡ a
    pub runs : (f : ℕ → ℕ) (a : Bool) (s : P) (t : Inner) → z.relates p f a s t → z.meaning.status s ≡ Runs
    pub number : (f : ℕ → ℕ) (s : P) (t : Inner) → z.relates p f false s t → z.meaning.number s ≡ z.number
    pub fits : (f : ℕ → ℕ) (s : P) (t : Inner) (w : W) → z.relates p f false s t → z.meaning.fits p s w → z.operation.fits t.regs w
    -- above happens what the operation does
    pub chosen : (f : ℕ → ℕ) (g : Given) (s : P) (t : Inner) (w : W) → g ≢ Nothing → z.relates p f false s t → z.meaning.fits p s w → Mirrored z.quiet (z.relates p f) g (z.operation.happens g p t.regs t.seen w) (z.meaning.chosen g p s w)
    pub ends : (f : ℕ → ℕ) (s : P) (t : Inner) → z.relates p f true s t → z.meaning.begins s ≡ inner_end + length z.after
    pub roomy : (f : ℕ → ℕ) (a : Bool) (s : P) (t : Inner) (w : W) → z.relates p f a s t → z.meaning.fits p s w → (b : ℕ) → z.room p b ≡ true → z.world.inside w b ≡ true
    pub role : (s : P) (c : Processor) (n : Noted) → z.meaning.matches p c n s → c.role ≡ Outside
    -- the code before brings what it takes, and that behind keeps what it gives
    pub brings : (s : P) (c : Processor) (n : Noted) → z.takes p s → z.meaning.number s ≡ z.number → z.meaning.status s ≡ Runs → c.place ≡ z.start → z.meaning.matches p c n s → Brought p s (viewed p c n)
    pub puts : (s : P) (t : Inner) (y : Private) → z.relates p y.frame true s t → Keeps z.keeps y.cpu.regs t.regs → y.cpu.role ≡ Outside → y.cpu.place ≡ inner_end → PutBack p s y

  -- ALL THAT A CALLER SHOWS, and none of it speaks of runs
  pub record IsWrapping : Type 0 where
    pub laws : Lawful z.world
    pub over : Over z.meaning z.world
    pub words : Words z.library
    pub expands : Expands z.kind z.world z.most z.keeps z.size z.piece z.operation
    pub few : z.most + length z.before + length z.after ≤ z.reading.most
    pub has : HasAt (setting_in z) (reading_of z.reading) z.quiet z.number z.start (wrap z.before z.piece z.after z.start)
    pub mine : (p b : ℕ) → z.room p b ≡ true → IsOwn p b
    pub wraps : (p : ℕ) → Wraps p
    pub starts : (s : P) → z.meaning.number s ≡ z.number → z.meaning.begins s ≡ z.start
