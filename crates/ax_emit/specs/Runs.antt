-- Runs of an image that is laid out from lines' code.
use Rattle.std.specs.Prelude.{◌≡◌, ℕ, ◌+◌, ◌<◌, ◌^◌, Bool, List, length, Some, slice_get}
use Rattle.ax_store.specs.declared.entry.Entry.{Entry}
use Rattle.ax_tags.specs.declared.tags.Tag.{Tag}
use Rattle.ax_isa.specs.Run.{Setting}
use Rattle.ax_isa.specs.Steps.{Kind}
use Rattle.ax_isa.specs.Tells.{Library}
use Rattle.ax_follow.specs.Contract.{Lawful, Reading}
use Rattle.ax_follow.specs.RunTheorem.{RunsInStep}
use Rattle.ax_mid.specs.declared.code.Line.{Line}
use Rattle.ax_expand.specs.Standing.{setting_by}
use Rattle.ax_expand.specs.World.{Words}
use Rattle.ax_fine.specs.Fine.{Program, fine}
use Rattle.ax_emit.specs.Images.{Drafted, code_in, image_of, places_of, reading_in, tags_in}
use Rattle.ax_emit.specs.Lines.{LineCode}

-- the code of lines with its sizes, the most idle steps in a row, what calls name, and the stores that count
pub record Emission (I R : Type 0) : Type 0 where
  pub size_of : Line R → ℕ
  pub code_of : (ℕ → ℕ) → ℕ → Line R → List (I × Tag)
  pub most : ℕ
  pub library : Library
  pub counts : Entry → Bool
  pub public : Entry → Bool

module _ {I R W : Type 0} (m : Program R W) (e : Emission I R) where
  abbrev pub image_in : List (Drafted I)
  image_in = image_of e.size_of e.code_of m.code.lines

  abbrev pub places_in : ℕ → ℕ
  places_in = places_of e.size_of e.code_of m.code.lines

  abbrev pub reading_of_image : Reading
  reading_of_image = reading_in image_in e.counts e.public e.most

abbrev pub setting_of_image : {I R W : Type 0} → Kind I → Program R W → Emission I R → Setting I
setting_of_image k m e = setting_by k (code_in (image_in m e)) (tags_in (image_in m e)) e.library

-- THE IMAGE RUNS AS THE FINE MIDDLE MACHINE
abbrev pub EmittedCodeRuns : {I R W : Type 0} → Kind I → Program R W → Emission I R → Type 0
EmittedCodeRuns k m e =
    ((j : ℕ) (line : Line _) → slice_get m.code.lines j ≡ Some line → LineCode k m e.most (e.size_of line) (λ places start. e.code_of places start line) line) → Words e.library → length (image_in m e) + 1 < 2 ^ 32
    → Lawful (fine m (places_in m e)) (reading_of_image m e) (setting_of_image k m e) → RunsInStep (setting_of_image k m e) (fine m (places_in m e)) (reading_of_image m e)
