-- What is known of the objects of a function of an accepted module, and what tells of them.
use Rattle.std.specs.Prelude.{◌≡◌, ℕ, ◌+◌, ◌<◌, ◌≤◌, slice_index_or}
use Rattle.ax_layout.specs.Layout.{HasElement, address_in}
use Rattle.ax_module.specs.Types.{type_bytes}
use Rattle.ax_rules.specs.declared.facts.Extent.{Extent}
use Rattle.ax_rules.specs.declared.facts.FunctionScope.{FunctionScope}
use Rattle.ax_rules.specs.Facts.{outcome_at}
use Rattle.ax_source_run.specs.SourcePointers.{Elements, elements_of, no_elements}
use Rattle.ax_source_run.specs.SourceState.{Object, Private, Shared, SourceProgram}
use Rattle.ax_typed.specs.Typed.{outcome_in}
use Rattle.ax_selected.specs.Addresses.{count_of, frame_offset, rounded_bytes}
use Rattle.ax_reach.specs.declared.frame.Frame.{Frame}

abbrev pub extent_of : Elements → Extent
extent_of e = record { elem = e.elem; count = e.count }

-- labels, frames and addresses have so many bits as the code gives them: a function's number is below 64, its frame has at most 32,768 bytes, elements have at most 16, and globals lie where the layout says
pub record Fits (program : SourceProgram) (f : ℕ) : Type 0 where
  pub number : f < 64
  pub sizes : (o : Object) → type_bytes (elements_of program.source f o).elem ≤ 16
  pub frame : (r : ℕ) → frame_offset program.source f r + rounded_bytes (elements_of program.source f (Private r)) ≤ 32768
  pub globals : (g i : ℕ) → i < count_of program f (Shared g) → HasElement program.layout g i
  -- what isn't there lies at 0
  pub absent : (g : ℕ) → count_of program f (Shared g) ≡ 0 → address_in program.layout g 0 ≡ 0

-- results, elements and offsets are those of the function
pub record AreOf (program : SourceProgram) (f : ℕ) (scope : FunctionScope) (frame : Frame) : Type 0 where
  pub outcome : (r : ℕ) → outcome_at scope r ≡ outcome_in program.source f r
  pub global : (g : ℕ) → slice_index_or scope.globals g (extent_of no_elements) ≡ extent_of (elements_of program.source f (Shared g))
  pub offset : (r : ℕ) → slice_index_or frame.offsets r frame.bytes ≡ frame_offset program.source f r
  pub fits : Fits program f
