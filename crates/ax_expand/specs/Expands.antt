-- THE CONTRACT OF AN EXPANSION, over whatever stands round it.
use Rattle.std.specs.Prelude.{◌≡◌, ℕ, ◌+◌, ◌≤◌, Bool, List, length}
use Rattle.ax_words.specs.declared.source.SourceStatus.TheVariants.{Running as Runs}
use Rattle.ax_tags.specs.declared.tags.Tag.{Tag}
use Rattle.ax_isa.specs.Past.{Noted}
use Rattle.ax_isa.specs.Processor.{Processor}
use Rattle.ax_isa.specs.Run.{Setting}
use Rattle.ax_isa.specs.Steps.{Kind}
use Rattle.ax_isa.specs.Tells.{Library, told_of}
use Rattle.ax_follow.specs.Contract.{Meaning, Reading, Happening, stage_start, InStep}
use Rattle.ax_expand.specs.Operation.{Operation, alone}
use Rattle.ax_expand.specs.Standing.{HasAt, setting_by}
use Rattle.ax_expand.specs.World.{World, Words}

-- marks are read without roles
abbrev pub reading_of : Reading → Reading
reading_of v = record v { given = told_of }

-- wherever a processor stands at the beginning of the code of instruction `own` with its numbers, this code keeps in step
pub record Begun {I P W : Type 0} (x : Setting I) (l : Meaning P W) (v : Reading) (own : ℕ) : Type 0 where
  pub follows : (p : ℕ) (s : P) (c : Processor) (n : Noted) → l.number s ≡ own → l.status s ≡ Runs → c.place ≡ l.begins s → l.matches p c n s → (hs : List Happening) → InStep l v x p hs stage_start s c n

-- `piece start` is the code, from that place on; `keeps` are the registers that hold what the operation says, all others are scratch; it idles at most `most` steps in a row
pub record Expands {I W : Type 0} (k : Kind I) (world : World W) (most : ℕ) (keeps : ℕ → Bool) (size : ℕ) (piece : ℕ → List (I × Tag)) (o : Operation W) : Type 0 where
  pub length_is : (start : ℕ) → length (piece start) ≡ size
  pub some : 1 ≤ size
  pub follows :
      (code : List I) (tags : ℕ → Tag) (lib : Library) (v : Reading) (quiet : Bool) (own start : ℕ) (frames : ℕ → ℕ → ℕ) → Words lib → most ≤ v.most
      → HasAt (setting_by k code tags lib) (reading_of v) quiet own start (piece start)
      → Begun (setting_by k code tags lib) (alone world o quiet keeps frames start (start + size) own) (reading_of v) own
