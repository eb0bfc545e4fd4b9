-- WHAT HOLDS OF THE IMAGES OF ACCEPTED MODULES, for any instruction set.
use Rattle.std.specs.Prelude.{◌≡◌, ℕ, ◌<◌, ◌^◌, true, List, length}
use Rattle.ax_source_run.specs.SourceState.{SourceProgram}
use Rattle.ax_check.specs.Accepted.{IsAccepted}
use Rattle.ax_isa.specs.Steps.{Kind}
use Rattle.ax_agree.specs.Sound.{IsSound, are_names}
use Rattle.ax_mid.specs.Machine.{behind_label}
use Rattle.ax_emit.specs.Passes.{place_end}
use Rattle.ax_image.specs.Image.{Coding, draft, image, size_of}
use Rattle.ax_selected.specs.Direct.{needs_no_routine}
use Rattle.ax_selected.specs.Registers.{key}
use Rattle.ax_selected.specs.Selected.{selected}
use Rattle.ax_sound.specs.Pieces.{HasSoundPieces}

-- the line behind a label of a module's selected code
abbrev pub behind_in : SourceProgram → ℕ → ℕ
behind_in program n = behind_label key (selected program).lines n 0

-- all places of the code, and the one behind it, are below 2 ^ 31, and so is the number of lines
pub record IsShort {I : Type 0} (c : Coding I) (program : SourceProgram) : Type 0 where
  pub end : place_end (size_of c) 1 (selected program).lines < 2 ^ 31
  pub code : length (draft c program) < 2 ^ 31
  pub lines : length (selected program).lines < 2 ^ 31

module _ {I : Type 0} (kind : Kind I) (valid : I → Type 0) where
  -- of a module that needs no routine, by pieces that are sound
  abbrev pub ImagesAreShort : Type 0
  ImagesAreShort = (program : SourceProgram) (c : Coding I) → needs_no_routine program ≡ true → IsAccepted program → HasSoundPieces kind valid program.target (behind_in program) c → IsShort c program

  -- with a name for each function
  abbrev pub ImagesAreSound : Type 0
  ImagesAreSound =
      (program : SourceProgram) (c : Coding I) → needs_no_routine program ≡ true → IsAccepted program → HasSoundPieces kind valid program.target (behind_in program) c
      → (names : List (List ℕ)) → length names ≡ length program.source.functions → are_names names ≡ true → IsSound kind valid names (image c program)
