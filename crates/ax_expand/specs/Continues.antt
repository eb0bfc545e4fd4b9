-- Code that touches a processor and its frame alone, and what comes behind it.
use Rattle.std.specs.Prelude.{◌≡◌, ◌≢◌, ◌⊎◌, ℕ, ◌≤◌, Bool, true, false, List, Option, Some}
use Rattle.ax_isa.specs.Past.{Noted, drain}
use Rattle.ax_isa.specs.Processor.{Processor}
use Rattle.ax_isa.specs.Run.{Setting}
use Rattle.ax_isa.specs.Tells.{An_act}
use Rattle.ax_follow.specs.Contract.{Did, Meaning, Reading, IsOwn, ByOthers, Happening, Stage, InStep}
use Rattle.ax_expand.specs.Expands.{reading_of}
use Rattle.ax_expand.specs.Operation.{hushed}
use Rattle.ax_expand.specs.Private.{Private, Spells}
use Rattle.ax_expand.specs.World.{World, Lawful, Over, Words}

-- from here on the code keeps in step, whatever the stage: `acted`, and at most `idle` idle steps so far
abbrev pub Continues : {I P W : Type 0} → Setting I → Meaning P W → Reading → ℕ → Bool → ℕ → P → Private → Type 0
Continues x l v p acted idle s y = (j : Stage) (n : Noted) → j.acted ≡ acted → j.idle ≤ idle → Spells p n y.frame → (hs : List Happening) → InStep l (reading_of v) x p hs j s y.cpu n

-- numbers that match p's stay so, whatever others do and whatever of the own stores goes to memory
pub record StableAt {I P W : Type 0} (x : Setting I) (l : Meaning P W) (p : ℕ) : Type 0 where
  pub others : (c : Processor) (n new : Noted) (s : P) → ByOthers p n new → l.matches p c n s → l.matches p c new s
  pub drains : (c : Processor) (n : Noted) (s : P) → x.kind.buffered ≡ true → l.matches p c n s → l.matches p c (drain p n) s

-- the code of instruction `number`, as a processor runs it, with what stands above
pub record Context (I P W : Type 0) : Type 1 where
  pub setting : Setting I
  pub meaning : Meaning P W
  pub reading : Reading
  pub world : World W
  pub processor : ℕ
  pub above : P
  pub number : ℕ
  pub quiet : Bool
  -- the addresses of its frame that it uses
  pub room : ℕ → Bool

pub record IsContext {I P W : Type 0} (context : Context I P W) : Type 0 where
  pub laws : Lawful context.world
  pub over : Over context.meaning context.world
  pub words : Words context.setting.library
  pub mine : (b : ℕ) → context.room b ≡ true → IsOwn context.processor b
  pub roomy : (w : W) → context.meaning.fits context.processor context.above w → (b : ℕ) → context.room b ≡ true → context.world.inside w b ≡ true

module _ {I P W : Type 0} (context : Context I P W) where
  abbrev pub IsStable : Type 0
  IsStable = StableAt context.setting context.meaning context.processor

  abbrev pub GoesOn : Bool → ℕ → Private → Type 0
  GoesOn acted idle y = Continues context.setting context.meaning context.reading context.processor acted idle context.above y

  -- a place is in this code, or it has acted and is through there
  abbrev pub StaysAt : Bool → ℕ → Type 0
  StaysAt acted place = (context.reading.owner place ≡ context.number) ⊎ ((acted ≡ true) × (place ≡ context.meaning.begins context.above))

  -- it is not yet through at a place
  abbrev pub IsBefore : Bool → ℕ → Type 0
  IsBefore acted place = acted ≡ true → place ≢ context.meaning.begins context.above

  -- what an event does above of which others see nothing
  abbrev pub quietly : P → Option ℕ → W → Did P W
  quietly t out w = record { processor = t; world = w; output = out; gives = hushed context.quiet An_act; excused = false }

  abbrev pub Does : P → Option ℕ → Type 0
  Does t out = (w : W) → context.meaning.fits context.processor context.above w → context.meaning.chosen An_act context.processor context.above w ≡ Some (quietly t out w)
