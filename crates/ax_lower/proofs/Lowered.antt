-- What laws of images ask of an image's length.
use Rattle.std.proofs.Common.{◌+◌, ◌<◌, ◌^◌, length, arith}
use Rattle.ax_source_run.specs.SourceState.{SourceProgram}
use Rattle.ax_direct_rv.specs.Direct.{direct_draft}
use Rattle.ax_sound_rv.specs.Short.{IsShort}

pub few : (program : SourceProgram) → IsShort program → length (direct_draft program) + 1 < 2 ^ 32
few program short = let code = short.code in omega (arith, code)
