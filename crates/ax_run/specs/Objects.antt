-- What memory has of the elements of globals.
use Rattle.std.specs.Prelude.{ℕ, ◌-◌, ◌*◌, ◌/◌, Bool, ◌&&◌, ◌||◌, if◌then◌else◌, nat_eq, Option, Some, None}
use Rattle.ax_map.specs.Map.{covers}
use Rattle.ax_layout.specs.declared.address_range.AddressRange.{AddressRange}
use Rattle.ax_layout.specs.Layout.{span_in}
use Rattle.ax_source_run.specs.SourceAccess.{is_native_element}
use Rattle.ax_source_run.specs.SourceState.{SourceProgram}
use Rattle.ax_agree.specs.Agree.{lock_of, number_of}

-- the number of an element; none exactly where it is locked and its lock word isn't 0
abbrev pub object_in : SourceProgram → (ℕ → ℕ) → ℕ → ℕ → Option ℕ
object_in program mem g i = if is_native_element program g i || nat_eq (lock_of program mem g i) 0 then Some (number_of program mem g i) else None

-- is this the address of a byte of a native element of global g, which lies there
abbrev pub in_native_span : SourceProgram → ℕ → AddressRange → ℕ → Bool
in_native_span program g span a = covers span.start (span.count * span.bytes) a && is_native_element program g ((a - span.start) / span.bytes)

abbrev pub is_native_in : SourceProgram → ℕ → ℕ → Bool
is_native_in program g a = in_native_span program g (span_in program.layout g) a
