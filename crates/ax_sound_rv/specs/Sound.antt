-- IMAGES OF MODULES FOR RV64 WHOSE ATOMIC INSTRUCTIONS HAVE CODE ARE SOUND.
use Rattle.std.specs.Prelude.{◌≡◌, ℕ, true, List, length}
use Rattle.ax_source_run.specs.SourceState.{SourceProgram}
use Rattle.ax_check.specs.Accepted.{IsAccepted}
use Rattle.ax_agree.specs.Sound.{IsSound, are_names}
use Rattle.ax_rv.specs.Instructions.{IsInstr, rv_kind}
use Rattle.ax_direct_rv.specs.Direct.{direct_image, is_built}

-- with a name for each function
abbrev pub DirectImagesAreSound : Type 0
DirectImagesAreSound = (program : SourceProgram) → is_built program ≡ true → IsAccepted program → (names : List (List ℕ)) → length names ≡ length program.source.functions → are_names names ≡ true → IsSound rv_kind IsInstr names (direct_image program)
