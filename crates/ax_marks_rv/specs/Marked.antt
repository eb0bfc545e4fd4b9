-- THE ROWS OF IMAGES ON RV64 (*Skeleton and rows*).
use Rattle.std.specs.Prelude.{◌≡◌, ◌+◌, ◌<◌, ◌^◌, true, length}
use Rattle.ax_source_run.specs.SourceState.{SourceProgram}
use Rattle.ax_check.specs.Accepted.{IsAccepted}
use Rattle.ax_agree.specs.Rows.{HasRows}
use Rattle.ax_rv.specs.Instructions.{rv_kind}
use Rattle.ax_direct_rv.specs.Direct.{direct_draft, direct_image, is_built}

-- each instruction of a built accepted module has its row in the image, and nothing else is in it
abbrev pub DirectImagesHaveRows : Type 0
DirectImagesHaveRows = (program : SourceProgram) → is_built program ≡ true → IsAccepted program → length (direct_draft program) + 1 < 2 ^ 32 → HasRows rv_kind (direct_image program) program
