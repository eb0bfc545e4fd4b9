-- When an image lowers a module, and that none of its processors idles.
use Rattle.std.specs.Prelude.{◌≡◌, ℕ, ◌+◌, ◌-◌, ◌*◌, ◌/◌, ◌%◌, ◌<◌, ◌≤◌, if◌then◌else◌, List, [], ◌∷◌, Some, length, slice_get}
use Rattle.ax_words.specs.declared.source.SourceEvent.{SourceEvent}
use Rattle.ax_map.specs.Map.{covers}
use Rattle.ax_store.specs.Bytes.{byte_of}
use Rattle.ax_words.specs.declared.event.Event.{Event}
use Rattle.ax_isa.specs.declared.images.Image.{Image}
use Rattle.ax_isa.specs.Steps.{Kind}
use Rattle.ax_isa.specs.Tells.{given_of}
use Rattle.ax_isa.specs.Run.{Machine, machine_start, tag_at, run, explain, idle_run}
use Rattle.ax_module.specs.declared.module.Module.{Module}
use Rattle.ax_layout.specs.declared.address_range.AddressRange.{AddressRange}
use Rattle.ax_layout.specs.Layout.{next_multiple}
use Rattle.ax_source_run.specs.SourceRun.{first_numbers, source_run, source_start}
use Rattle.ax_source_run.specs.SourceState.{SourceProgram}
use Rattle.ax_agree.specs.Agree.{Agree, is_native_entry}
use Rattle.ax_agree.specs.Library.{image_setting}

-- the functions that the processors of a run begin with
pub record AreEntriesOf (m : Module) (entries : List ℕ) : Type 0 where
  pub some : 1 ≤ length entries
  pub few : length entries ≤ 8
  pub each : (k f : ℕ) → slice_get entries k ≡ Some f → f < length m.functions

-- the byte at an address before the first event: that of the element that lies there, of the globals from number g on, and else 0
abbrev pub byte_in : Module → ℕ → List AddressRange → ℕ → ℕ
byte_in m g [] a = 0
byte_in m g (span ∷ spans) a =
    if covers span.start (span.count * span.bytes) a
    then byte_of (first_numbers m g ((a - span.start) / span.bytes)) ((a - span.start) % span.bytes)
    else byte_in m (g + 1) spans a

abbrev pub first_byte : SourceProgram → ℕ → ℕ
first_byte program a = byte_in program.source 0 program.layout.spans a

-- the region of the globals ends at a multiple of 16
abbrev pub region_end : SourceProgram → ℕ
region_end program = next_multiple 16 program.layout.end

module _ {I : Type 0} (kind : Kind I) (image : Image I) (program : SourceProgram) where
  -- the first state of an image's run
  abbrev pub machine_begins : List ℕ → Machine
  machine_begins entries = machine_start kind.stack image.entries image.frames entries (region_end program) (first_byte program)

  -- *Machine run* of an image
  abbrev pub machine_run : List ℕ → List Event → Machine
  machine_run entries events = run (image_setting kind image) events (machine_begins entries)

  -- *Explanation* of that run
  abbrev pub explanation : List ℕ → List Event → List SourceEvent
  explanation entries events = explain (image_setting kind image) given_of (tag_at image.tags) (is_native_entry program) events (machine_begins entries)

  -- AN IMAGE LOWERS A MODULE where the machine run and the source run under its explanation agree, for every list of entries and every list of events
  pub record Lowers : Type 0 where
    pub agrees : (entries : List ℕ) → AreEntriesOf program.source entries → (events : List Event) → Agree program (machine_run entries events) (source_run program (explanation entries events) (source_start program.source entries))

  -- NO IDLING: no processor makes 4,096 Steps in a row of which none gives an Act, is a caused failure or is a busy test: every prefix of a list of events is a list of events
  pub record NeverIdles : Type 0 where
    pub few : (entries : List ℕ) → AreEntriesOf program.source entries → (events : List Event) (p : ℕ) → idle_run (image_setting kind image) given_of (tag_at image.tags) (is_native_entry program) events (machine_begins entries) (λ q. 0) p < 4096
