-- IMAGES OF SELECTED CODE ON RV64: the code of all lines, one after the other, with frames of one size.
use Rattle.std.specs.Prelude.{◌≡◌, ℕ, ◌+◌, ◌<◌, ◌≤◌, ◌^◌, Bool, true, ◌||◌, nat_eq, List, [], ◌∷◌, Some, length, slice_get}
use Rattle.ax_words.specs.declared.mark.Op.{Op}
use Rattle.ax_words.specs.declared.order.Order.{Order}
use Rattle.ax_words.specs.declared.width.Width.{Width}
use Rattle.ax_module.specs.declared.module.Function.{Function}
use Rattle.ax_source_run.specs.SourceState.{SourceProgram}
use Rattle.ax_check.specs.Accepted.{IsAccepted}
use Rattle.ax_isa.specs.declared.images.Image.{Image}
use Rattle.ax_agree.specs.Lowers.{Lowers}
use Rattle.ax_rv.specs.declared.instructions.RvInstr.{RvInstr}
use Rattle.ax_rv.specs.Instructions.{rv_kind}
use Rattle.ax_mid.specs.declared.code.Line.{Line}
use Rattle.ax_mid.specs.declared.instruction.MidInst.TheVariants as mid
use Rattle.ax_mid.specs.declared.registers.Virtual.{Virtual}
use Rattle.ax_expand.specs.Shared.{Shared}
use Rattle.ax_fine.specs.Fine.{Program}
use Rattle.ax_fine.specs.Near.{on_bytes}
use Rattle.ax_emit.specs.Images.{Drafted}
use Rattle.ax_emit.specs.Touches.{IsSize}
use Rattle.ax_emit_rv.specs.Code.{Expansion, cleared, inst_code, load_in, store_in}
use Rattle.ax_emit_rv.specs.Laws.{Accessed, Expanded, few_steps}
use Rattle.ax_selected.specs.Direct.{needs_no_routine}
use Rattle.ax_selected.specs.Selected.{selected}
use Rattle.ax_meaning.specs.Lowering.{Frames, framed}
use Rattle.ax_image.specs.Image.{Coding, draft, entries_from as image_entries, entry_of as image_entry, image, places}
use Rattle.ax_image.specs.Lowering.{frames_by}
pub use Rattle.ax_image.specs.Lowering.{frame_depth, frame_size}

-- ---- frames
-- no code changes the stack pointer and the link register, which is 0
abbrev pub is_fixed : ℕ → Bool
is_fixed r = nat_eq r 1 || nat_eq r 2

abbrev pub rv_frames : Frames
rv_frames = frames_by rv_kind.stack is_fixed

-- ---- what the code means
abbrev pub rv_program : SourceProgram → Program Virtual Shared
rv_program program = on_bytes (framed program rv_frames)

module _ (program : SourceProgram) (expansions : Op → Width → Order → Bool → Expansion) where
  -- each access and each atomic operation of the code has an expansion that meets its contract
  pub record AreExpanded (most : ℕ) : Type 0 where
    pub few : few_steps ≤ most
    pub loads : (n : ℕ) → IsSize n → Accessed (rv_program program) ((rv_program program).load n) (load_in n) (cleared n) [] (7 ∷ [])
    pub stores : (n : ℕ) → IsSize n → Accessed (rv_program program) ((rv_program program).store n) (store_in n) [] (6 ∷ []) []
    pub atomics :
        (place : ℕ) (line : Line Virtual) (o : Op) (width : Width) (order : Order) (weak : Bool) (address : Virtual) (args results : List Virtual) → slice_get (selected program).lines place ≡ Some line → line.inst ≡ mid.Atomic o width order weak address args results
        → Expanded (rv_program program) expansions most o width order weak args results

  -- the code of its lines
  abbrev pub rv_coding : Coding RvInstr
  rv_coding = record { piece = inst_code (rv_program program) expansions; frame_size = frame_size }

  abbrev pub rv_draft : List (Drafted RvInstr)
  rv_draft = draft rv_coding program

  abbrev pub rv_places : ℕ → ℕ
  rv_places = places rv_coding program

  abbrev pub entry_of : ℕ → ℕ
  entry_of = image_entry rv_coding program

  abbrev pub entries_from : ℕ → List Function → List ℕ
  entries_from = image_entries rv_coding program

  -- THE IMAGE of the module
  abbrev pub rv_image : Image RvInstr
  rv_image = image rv_coding program

-- IT LOWERS THE MODULE, where its places are numbers of 32 bits
abbrev pub RvImageLowers : SourceProgram → (Op → Width → Order → Bool → Expansion) → ℕ → Type 0
RvImageLowers program expansions most =
    IsAccepted program → needs_no_routine program ≡ true → AreExpanded program expansions most → length (rv_draft program expansions) + 1 < 2 ^ 32 → Lowers rv_kind (rv_image program expansions) program

abbrev pub RvImagesLower : Type 0
RvImagesLower = (program : SourceProgram) (expansions : Op → Width → Order → Bool → Expansion) (most : ℕ) → RvImageLowers program expansions most

-- a module with the code of its atomic operations, and so many idle steps in a row at most
pub record RvModule : Type 0 where
  pub program : SourceProgram
  pub expansions : Op → Width → Order → Bool → Expansion
  pub most : ℕ
