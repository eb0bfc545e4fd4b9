-- WHEN AN IMAGE OF SELECTED CODE LOWERS ITS MODULE, for any instruction set: where its frames lie, the machine that runs it, and what its code has to keep.
use Rattle.std.specs.Prelude.{◌≡◌, ℕ, ◌+◌, Bool, true, false, if◌then◌else◌, nat_eq, nat_lt, List, []}
use Rattle.ax_words.specs.declared.mark.Op.{Op}
use Rattle.ax_words.specs.declared.order.Order.{Order}
use Rattle.ax_words.specs.declared.width.Width.{Width}
use Rattle.ax_source_run.specs.SourceState.{SourceProgram}
use Rattle.ax_map.specs.Map.{frame_base, stack_offset}
use Rattle.ax_check.specs.Accepted.{IsAccepted}
use Rattle.ax_isa.specs.Run.{Setting}
use Rattle.ax_isa.specs.Steps.{Kind}
use Rattle.ax_follow.specs.Contract.{Follows, Meaning, Reading}
use Rattle.ax_agree.specs.Agree.{is_native_entry}
use Rattle.ax_agree.specs.Library.{library_of}
use Rattle.ax_agree.specs.Lowers.{Lowers}
use Rattle.ax_mid.specs.declared.instruction.MidInst.TheVariants as mid
use Rattle.ax_mid.specs.declared.registers.Virtual.{Virtual}
use Rattle.ax_mid.specs.Machine.{is_wide}
use Rattle.ax_mid.specs.Processor.{MidProcessor}
use Rattle.ax_expand.specs.Shared.{Shared, counts}
use Rattle.ax_expand.specs.Standing.{setting_by}
use Rattle.ax_fine.specs.Fine.{Program}
use Rattle.ax_fine.specs.Near.{on_bytes}
use Rattle.ax_loops.specs.Updating.{AreNumbers}
use Rattle.ax_emit.specs.Images.{code_in, reading_in, tags_in}
use Rattle.ax_selected.specs.Direct.{needs_no_routine}
use Rattle.ax_meaning.specs.Lowering.{Frames, framed, meaning_of}
use Rattle.ax_image.specs.Image.{Coding, draft, image, places}

-- ---- frames
-- where the room of a frame begins; there are eight processors
abbrev pub is_living : ℕ → Bool
is_living p = nat_lt p 8

abbrev pub room_start : ℕ → ℕ
room_start p = if is_living p then frame_base p else frame_base 0

-- where the stack pointer points at the start, and stays: the last 8 bytes of that room
abbrev pub stack_top : ℕ → ℕ
stack_top p = room_start p + stack_offset

-- below it 8,208 registers of 8 bytes, and 32,768 bytes for allocas
abbrev pub frame_depth : ℕ
frame_depth = 98432

-- the bytes of each function's frame
abbrev pub frame_size : ℕ
frame_size = 98440

abbrev pub area : ℕ → ℕ
area p = room_start p + 32632

-- all registers but the stack pointer are 0 at the start
abbrev pub home_by : ℕ → ℕ → ℕ → ℕ
home_by stack p r = if nat_eq r stack then stack_top p else 0

-- of an instruction set whose stack pointer is register `stack`; no code changes the fixed ones
abbrev pub frames_by : ℕ → (ℕ → Bool) → Frames
frames_by stack fixed = record { base = area; lives = is_living; count = 8208; size = 32768; depth = frame_depth; top = stack_top; low = area; fixed = fixed; home = home_by stack }

-- ---- what operations ask
-- middle code whose atomic operations ask this
abbrev pub asking : {R W : Type 0} → Program R W → (Op → Width → Order → Bool → ℕ → List ℕ → W → Type 0) → Program R W
asking m more = record m { atomic = λ o width order weak. record (m.atomic o width order weak) { fits = more o width order weak } }

-- 16 bytes are taken in two registers, which hold words
abbrev pub asks_words : {W : Type 0} → Bool → (ℕ → List ℕ → W → Type 0) → ℕ → List ℕ → W → Type 0
asks_words true asks a args w = asks a args w × AreNumbers args
asks_words false asks a args w = asks a args w

-- the selected code of a module on an instruction set with operations on 16 bytes
abbrev pub wide_program : SourceProgram → Frames → Program Virtual Shared
wide_program program frames = (let m = on_bytes (framed program frames) in asking m (λ o width order weak. asks_words (is_wide width) (m.atomic o width order weak).fits))

module _ {I : Type 0} (kind : Kind I) (c : Coding I) (program : SourceProgram) where
  -- the machine with that code, which calls no routine
  abbrev pub setting : Setting I
  setting = setting_by kind (code_in (draft c program)) (tags_in (draft c program)) (library_of kind [])

  -- the stores below the frames are those of which the code's meaning knows
  abbrev pub reading : ℕ → Reading
  reading most = reading_in (draft c program) counts (is_native_entry program) most

  -- what the code means
  abbrev pub meaning : (ℕ → Bool) → Meaning MidProcessor Shared
  meaning fixed = meaning_of program (frames_by kind.stack fixed) (places c program)

  -- labels have no code, and each frame has its size
  pub record IsCoding : Type 0 where
    pub labels : (n : ℕ) → c.piece (mid.Label n) (λ j. 0) 0 ≡ []
    pub frame : c.frame_size ≡ frame_size

  -- AN IMAGE THAT FOLLOWS WHAT IT MEANS LOWERS ITS MODULE
  abbrev pub FollowingImageLowers : (ℕ → Bool) → ℕ → Type 0
  FollowingImageLowers fixed most = IsCoding → Follows (meaning fixed) (reading most) setting → IsAccepted program → needs_no_routine program ≡ true → Lowers kind (image c program) program
