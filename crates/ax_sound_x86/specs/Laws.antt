-- THE X86-64 CODE OF MIDDLE INSTRUCTIONS IS SOUND.
use Rattle.std.specs.Prelude.{ℕ, ◌<◌, Bool}
use Rattle.ax_words.specs.declared.mark.Op.{Op}
use Rattle.ax_words.specs.declared.order.Order.{Order}
use Rattle.ax_words.specs.declared.width.Width.{Width}
use Rattle.ax_target.specs.declared.target.Target.{Target}
use Rattle.ax_map.specs.Map.{IsFrameSize}
use Rattle.ax_x86.specs.declared.instructions.X86Instr.{X86Instr}
use Rattle.ax_x86.specs.Instructions.{IsInstr, x86_kind}
use Rattle.ax_emit_x86.specs.Code.{Expansion, piece_of}
use Rattle.ax_image.specs.Image.{Coding}
use Rattle.ax_selected.specs.Registers.{key}
use Rattle.ax_cas.specs.Codes.{Atomic, expansion_of}
use Rattle.ax_sound.specs.Pieces.{HasSoundPieces}
use Rattle.ax_sound_x86.specs.Operations.{AreSoundExpansions}

-- the code of middle instructions: frames lie `depth` below the stack pointer and have so many bytes, and the line behind label n is `behind n`
abbrev pub x86_coding : ℕ → ℕ → (ℕ → ℕ) → (Op → Width → Order → Bool → Expansion) → Coding X86Instr
x86_coding depth frame_size behind expansions = record { piece = piece_of key depth behind expansions; frame_size = frame_size }

-- addresses of allocas are numbers of up to 32 kilobytes
abbrev pub X86PiecesAreSound : Type 0
X86PiecesAreSound =
    (target : Target) (depth frame_size : ℕ) (behind : ℕ → ℕ) (expansions : Op → Width → Order → Bool → Expansion) → 32768 < depth → IsFrameSize frame_size → AreSoundExpansions target expansions
    → HasSoundPieces x86_kind IsInstr target behind (x86_coding depth frame_size behind expansions)

-- AND SO IS THAT OF ATOMIC OPERATIONS
abbrev pub X86OperationsAreSound : Type 0
X86OperationsAreSound = (target : Target) → AreSoundExpansions target (λ o width order weak. expansion_of (Atomic o width order weak))
