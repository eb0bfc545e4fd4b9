-- What a machine begins with.
use Rattle.std.specs.Prelude.{◌≡◌, ℕ, false, length, ◌+◌, ◌-◌, ◌*◌, ◌/◌, ◌%◌, if◌then◌else◌, List, [], ◌∷◌, None, map, replicate, slice_index_or, slice_set}
use Rattle.ax_map.specs.Map.{covers, frame_base, in_regions, stack_offset}
use Rattle.ax_store.specs.Bytes.{byte_of}
use Rattle.ax_store.specs.Storage.{Storage}
use Rattle.ax_layout.specs.declared.address_range.AddressRange.{AddressRange}
use Rattle.ax_isa.specs.declared.cpu.Cpu.{Cpu}
use Rattle.ax_tags.specs.declared.tags.Role.TheVariants.{None as Outside}
use Rattle.ax_isa.specs.declared.cpu.Status.TheVariants.{Running}
use Rattle.ax_isa.specs.declared.images.Image.{Image}
use Rattle.ax_isa.specs.Steps.{Kind}
use Rattle.ax_source_run.specs.SourceState.{SourceProgram}
use Rattle.ax_agree.specs.Lowers.{machine_begins}
use Rattle.ax_run.specs.Machine.{MachineState, Tells}

-- a processor at a place, with its stack pointer in this register
abbrev pub first_cpu : ℕ → ℕ → ℕ → Cpu
first_cpu stack p place = record { regs = slice_set (replicate 32 0) stack (frame_base p + stack_offset); compared = (0, 0); half = false; place = place; status = Running; role = Outside }

-- processors p, p + 1, .. at the places of these functions
abbrev pub cpus_from : ℕ → List ℕ → ℕ → List ℕ → List Cpu
cpus_from stack places p [] = []
cpus_from stack places p (f ∷ entries) = first_cpu stack p (slice_index_or places f 0) ∷ cpus_from stack places (p + 1) entries

-- the frames of these functions
abbrev pub frames_for : List ℕ → List ℕ → List ℕ
frames_for frames entries = map (λ f. slice_index_or frames f 0) entries

-- memory where the first n elements of a global have these numbers
abbrev pub elements_put : AddressRange → ℕ → (ℕ → ℕ) → (ℕ → ℕ) → ℕ → ℕ
elements_put span n numbers mem a =
    if covers span.start (n * span.bytes) a then byte_of (numbers ((a - span.start) / span.bytes)) ((a - span.start) % span.bytes) else mem a

-- a storage with these frames and this memory, where no store waits and no reservation stands
abbrev pub storage_with : ℕ → List ℕ → (ℕ → ℕ) → Storage
storage_with end frames mem = record { inside = in_regions end frames; mem = mem; waiting = λ p. []; linked = λ p. None }

-- a machine of an image of a program before its first event, with room for so many events
pub record Begun {I : Type 0} (kind : Kind I) (image : Image I) (program : SourceProgram) (entries : List ℕ) (events : ℕ) (r : MachineState) : Type 0 where
  pub program_is : r.program ≡ program
  pub buffered : r.store.buffered ≡ kind.buffered
  pub count : length r.processors ≡ length entries
  pub none : r.events ≡ []
  pub room : r.room ≡ events
  pub tells : Tells kind image (machine_begins kind image program entries) r
