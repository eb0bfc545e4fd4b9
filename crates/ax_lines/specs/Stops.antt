-- What a function that takes memory reads.
use Rattle.std.specs.Prelude.{◌≡◌, Option, Some, None, Result, Ok, Err}
use Rattle.ax_lines.specs.declared.listing.Stop.{Stop}
use Rattle.ax_lines.specs.declared.listing.Stop.TheVariants.{Memory, Bad}

abbrev pub Stops : {Y : Type 0} → Stop → Option Y → Type 0
Stops Memory read = Unit {0}
Stops Bad read = read ≡ None

-- What a function returned, seen by view, is what reading gives, unless memory ran out.
abbrev pub ReadsAs : {X Y : Type 0} → (X → Y) → Result X Stop → Option Y → Type 0
ReadsAs view (Ok x) read = read ≡ Some (view x)
ReadsAs view (Err e) read = Stops e read
