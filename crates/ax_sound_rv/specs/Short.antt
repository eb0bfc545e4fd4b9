-- IMAGES OF MODULES FOR RV64 WHOSE ATOMIC INSTRUCTIONS HAVE CODE ARE SHORT.
use Rattle.std.specs.Prelude.{◌≡◌, ◌<◌, ◌^◌, true, length}
use Rattle.ax_source_run.specs.SourceState.{SourceProgram}
use Rattle.ax_check.specs.Accepted.{IsAccepted}
use Rattle.ax_emit.specs.Passes.{place_end}
use Rattle.ax_emit_rv.specs.Code.{size_of}
use Rattle.ax_image_rv.specs.Image.{rv_program}
use Rattle.ax_direct_rv.specs.Direct.{direct_draft, direct_expansions, is_built}
use Rattle.ax_selected.specs.Selected.{selected}

-- all places of the code, and the one behind it, are below 2 ^ 31, and so is the number of lines
pub record IsShort (program : SourceProgram) : Type 0 where
  pub end : place_end (size_of (rv_program program) (direct_expansions program.target)) 1 (selected program).lines < 2 ^ 31
  pub code : length (direct_draft program) < 2 ^ 31
  pub lines : length (selected program).lines < 2 ^ 31

abbrev pub DirectImagesAreShort : Type 0
DirectImagesAreShort = (program : SourceProgram) → is_built program ≡ true → IsAccepted program → IsShort program
