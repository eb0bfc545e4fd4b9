-- IMAGES OF SELECTED CODE ON X86-64: the code of all lines, one after the other, with frames of one size.
use Rattle.std.specs.Prelude.{◌≡◌, ℕ, ◌+◌, ◌<◌, ◌≤◌, ◌^◌, Bool, true, nat_eq, List, [], ◌∷◌, Some, length, slice_get}
use Rattle.ax_words.specs.declared.mark.Op.{Op}
use Rattle.ax_words.specs.declared.order.Order.{Order}
use Rattle.ax_words.specs.declared.width.Width.{Width}
use Rattle.ax_source_run.specs.SourceState.{SourceProgram}
use Rattle.ax_check.specs.Accepted.{IsAccepted}
use Rattle.ax_isa.specs.declared.images.Image.{Image}
use Rattle.ax_agree.specs.Lowers.{Lowers}
use Rattle.ax_x86.specs.declared.instructions.X86Instr.{X86Instr}
use Rattle.ax_x86.specs.Instructions.{x86_kind}
use Rattle.ax_mid.specs.declared.code.Line.{Line}
use Rattle.ax_mid.specs.declared.instruction.MidInst.TheVariants as mid
use Rattle.ax_mid.specs.declared.registers.Virtual.{Virtual}
use Rattle.ax_expand.specs.Shared.{Shared}
use Rattle.ax_fine.specs.Fine.{Program}
use Rattle.ax_emit.specs.Images.{Drafted}
use Rattle.ax_emit.specs.Touches.{IsSize}
use Rattle.ax_emit_x86.specs.Code.{Expansion, inst_code, load_in, store_in}
use Rattle.ax_emit_x86.specs.Laws.{Accessed, Expanded, few_steps}
use Rattle.ax_selected.specs.Direct.{needs_no_routine}
use Rattle.ax_selected.specs.Selected.{selected}
use Rattle.ax_meaning.specs.Lowering.{Frames}
use Rattle.ax_image.specs.Image.{Coding, draft, image, places}
use Rattle.ax_image.specs.Lowering.{frame_size, frames_by, wide_program}

-- ---- frames
-- no code changes the stack pointer rsp, but a `ret`, behind which nothing runs
abbrev pub is_fixed : ℕ → Bool
is_fixed r = nat_eq r 4

abbrev pub x86_frames : Frames
x86_frames = frames_by x86_kind.stack is_fixed

-- ---- what the code means
abbrev pub x86_program : SourceProgram → Program Virtual Shared
x86_program program = wide_program program x86_frames

module _ (program : SourceProgram) (expansions : Op → Width → Order → Bool → Expansion) where
  -- each access and each atomic operation of the code has an expansion that meets its contract
  pub record AreExpanded (most : ℕ) : Type 0 where
    pub few : few_steps ≤ most
    pub loads : (n : ℕ) → IsSize n → Accessed (x86_program program) ((x86_program program).load n) (load_in n) [] (0 ∷ [])
    pub stores : (n : ℕ) → IsSize n → Accessed (x86_program program) ((x86_program program).store n) (store_in n) (0 ∷ []) []
    pub atomics :
        (place : ℕ) (line : Line Virtual) (o : Op) (width : Width) (order : Order) (weak : Bool) (address : Virtual) (args results : List Virtual) → slice_get (selected program).lines place ≡ Some line → line.inst ≡ mid.Atomic o width order weak address args results
        → Expanded (x86_program program) expansions most o width order weak args results

  -- the code of its lines
  abbrev pub x86_coding : Coding X86Instr
  x86_coding = record { piece = inst_code (x86_program program) expansions; frame_size = frame_size }

  abbrev pub x86_draft : List (Drafted X86Instr)
  x86_draft = draft x86_coding program

  abbrev pub x86_places : ℕ → ℕ
  x86_places = places x86_coding program

  -- THE IMAGE of the module
  abbrev pub x86_image : Image X86Instr
  x86_image = image x86_coding program

-- IT LOWERS THE MODULE, where its places are numbers of 32 bits
abbrev pub X86ImageLowers : SourceProgram → (Op → Width → Order → Bool → Expansion) → ℕ → Type 0
X86ImageLowers program expansions most =
    IsAccepted program → needs_no_routine program ≡ true → AreExpanded program expansions most → length (x86_draft program expansions) + 1 < 2 ^ 32 → Lowers x86_kind (x86_image program expansions) program

abbrev pub X86ImagesLower : Type 0
X86ImagesLower = (program : SourceProgram) (expansions : Op → Width → Order → Bool → Expansion) (most : ℕ) → X86ImageLowers program expansions most

-- a module with the code of its atomic operations, and so many idle steps in a row at most
pub record X86Module : Type 0 where
  pub program : SourceProgram
  pub expansions : Op → Width → Order → Bool → Expansion
  pub most : ℕ
