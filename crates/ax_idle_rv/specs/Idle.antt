-- NO PROCESSOR IDLES in a run of an image whose atomic operations have code of their own: without a loop, or a loop of linked load and pair store.
use Rattle.std.specs.Prelude.{◌+◌, ◌<◌, ◌^◌, length}
use Rattle.ax_source_run.specs.SourceState.{SourceProgram}
use Rattle.ax_check.specs.Accepted.{IsAccepted}
use Rattle.ax_agree.specs.Lowers.{NeverIdles}
use Rattle.ax_rv.specs.Instructions.{rv_kind}
use Rattle.ax_direct_rv.specs.Direct.{direct_draft, direct_image}

-- of an accepted module, where the image's places are numbers of 32 bits
abbrev pub DirectImagesNeverIdle : Type 0
DirectImagesNeverIdle = (program : SourceProgram) → IsAccepted program → length (direct_draft program) + 1 < 2 ^ 32 → NeverIdles rv_kind (direct_image program) program
