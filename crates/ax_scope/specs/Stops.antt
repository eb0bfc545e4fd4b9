-- What a function that takes memory resolves.
use Rattle.std.specs.Prelude.{◌≡◌, Option, Some, None, Result, Ok, Err}
use Rattle.ax_scope.specs.declared.fault.NameStop.{NameStop}
use Rattle.ax_scope.specs.declared.fault.NameStop.TheVariants.{Name, Memory}

abbrev pub Stops : {Y : Type 0} → NameStop → Option Y → Type 0
Stops Memory found = Unit {0}
Stops Name found = found ≡ None

-- What a function returned, seen by view, is what was found, unless memory ran out.
abbrev pub Resolves : {X Y : Type 0} → (X → Y) → Result X NameStop → Option Y → Type 0
Resolves view (Ok x) found = found ≡ Some (view x)
Resolves view (Err e) found = Stops e found
