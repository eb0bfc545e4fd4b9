-- What routines do, as the machine keeps it.
use Rattle.ax_source.specs.declared.calls.Kind.{Kind}
use Rattle.ax_source.specs.declared.calls.Kind.TheVariants as kind
use Rattle.ax_source_run.specs.SourceCalls.{RoutineKind, SizedLoad, SizedStore, SizedUpdate, SizedCompare, GenericLoad, GenericStore, GenericExchange, GenericCompare, IsLockFree}

abbrev pub kind_in : Kind → RoutineKind
kind_in kind.SizedLoad = SizedLoad
kind_in kind.SizedStore = SizedStore
kind_in (kind.SizedUpdate op) = SizedUpdate op
kind_in kind.SizedCompare = SizedCompare
kind_in kind.GenericLoad = GenericLoad
kind_in kind.GenericStore = GenericStore
kind_in kind.GenericExchange = GenericExchange
kind_in kind.GenericCompare = GenericCompare
kind_in kind.IsLockFree = IsLockFree
