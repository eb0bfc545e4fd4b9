-- RV64's code of a module's middle code, as the coding of its image.
use Rattle.ax_source_run.specs.SourceState.{SourceProgram}
use Rattle.ax_rv.specs.declared.instructions.RvInstr.{RvInstr}
use Rattle.ax_mid.specs.Machine.{behind_label}
use Rattle.ax_emit_rv.specs.Code.{piece_of}
use Rattle.ax_image.specs.Image.{Coding}
use Rattle.ax_image_rv.specs.Image.{frame_depth, frame_size}
use Rattle.ax_direct_rv.specs.Direct.{direct_expansions}
use Rattle.ax_selected.specs.Registers.{key}
use Rattle.ax_selected.specs.Selected.{selected}

abbrev pub direct_coding : SourceProgram → Coding RvInstr
direct_coding program = record { piece = piece_of key frame_depth (λ n. behind_label key (selected program).lines n 0) (direct_expansions program.target); frame_size = frame_size }
