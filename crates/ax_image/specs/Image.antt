-- IMAGES OF SELECTED CODE, for any instruction set: the code of all lines, one after the other, with frames of one size.
use Rattle.std.specs.Prelude.{◌≡◌, ℕ, ◌+◌, ◌<◌, List, [], ◌∷◌, length, map, slice_index_or}
use Rattle.ax_tags.specs.declared.tags.Tag.{Tag}
use Rattle.ax_module.specs.declared.module.Function.{Function}
use Rattle.ax_source_run.specs.SourceState.{SourceProgram}
use Rattle.ax_isa.specs.declared.images.Image.{Image}
use Rattle.ax_mid.specs.declared.code.Line.{Line}
use Rattle.ax_mid.specs.declared.instruction.MidInst.{MidInst}
use Rattle.ax_mid.specs.declared.registers.Virtual.{Virtual}
use Rattle.ax_mid.specs.Machine.{behind_label}
use Rattle.ax_emit.specs.Images.{Drafted, code_in, image_of, places_of}
use Rattle.ax_emit.specs.Sites.{ranges_from}
use Rattle.ax_selected.specs.Registers.{block_label, key}
use Rattle.ax_selected.specs.Selected.{selected}

-- the code of a middle instruction from a place on, where the code of lines begins at these places; and the bytes of each function's frame
pub record Coding (I : Type 0) : Type 0 where
  pub piece : MidInst Virtual → (ℕ → ℕ) → ℕ → List (I × Tag)
  pub frame_size : ℕ

-- a module and its code
pub record Coded (I : Type 0) : Type 0 where
  pub coding : Coding I
  pub program : SourceProgram

module _ {I : Type 0} (c : Coding I) where
  abbrev pub code_of : (ℕ → ℕ) → ℕ → Line Virtual → List (I × Tag)
  code_of places start line = c.piece line.inst places start

  -- how many instructions that is, wherever it stands
  abbrev pub size_of : Line Virtual → ℕ
  size_of line = length (c.piece line.inst (λ j. 0) 0)

  module _ (program : SourceProgram) where
    abbrev pub draft : List (Drafted I)
    draft = image_of size_of code_of (selected program).lines

    abbrev pub places : ℕ → ℕ
    places = places_of size_of code_of (selected program).lines

    -- a function is entered behind the label of its first block
    abbrev pub entry_of : ℕ → ℕ
    entry_of f = places (behind_label key (selected program).lines (block_label f 0) 0)

    -- that of function f and those behind it
    abbrev pub entries_from : ℕ → List Function → List ℕ
    entries_from f [] = []
    entries_from f (function ∷ functions) = entry_of f ∷ entries_from (f + 1) functions

    -- THE IMAGE of the module: the code, tags and sites of its lines, and for each function its entry and its frame; no routine is called
    abbrev pub image : Image I
    image = record {
      code = code_in draft;
      tags = map (λ d. d.tag) draft;
      sites = ranges_from size_of 1 (selected program).lines;
      routines = [];
      entries = entries_from 0 program.source.functions;
      frames = map (λ f. c.frame_size) program.source.functions;
    }

    -- its functions are entered there, and each has a frame
    pub record HasEntries : Type 0 where
      pub entry : (f : ℕ) → f < length program.source.functions → slice_index_or image.entries f 0 ≡ entry_of f
      pub frame : (f : ℕ) → f < length program.source.functions → slice_index_or image.frames f 0 ≡ c.frame_size
      pub entries : length image.entries ≡ length program.source.functions
      pub frames : length image.frames ≡ length program.source.functions

-- what emission is given of a module: the sizes and the code of lines, the lines, where control goes on at labels, the functions and the bytes of a frame
pub record IsGiven {I : Type 0} (x : Coded I) (sizes : Line Virtual → ℕ) (codes : (ℕ → ℕ) → ℕ → Line Virtual → List (I × Tag)) (lines : List (Line Virtual)) (labels : ℕ → ℕ) (functions : List Function) (frame_bytes : ℕ) : Type 0 where
  pub sizes_are : sizes ≡ size_of x.coding
  pub codes_are : codes ≡ code_of x.coding
  pub lines_are : lines ≡ (selected x.program).lines
  pub labels_are : (n : ℕ) → labels n ≡ behind_label key (selected x.program).lines n 0
  pub functions_are : functions ≡ x.program.source.functions
  pub frame_is : frame_bytes ≡ x.coding.frame_size

abbrev pub ImagesHaveEntries : (I : Type 0) → Type 0
ImagesHaveEntries I = (c : Coding I) (program : SourceProgram) → HasEntries c program
