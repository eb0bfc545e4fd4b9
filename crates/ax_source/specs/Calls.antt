-- What routines do, and the pointers that it needs.
use Rattle.std.specs.Prelude.{ℕ, Bool, true, false, ◌&&◌, List, Option, Some, None, slice_get}
use Rattle.ax_module.specs.declared.operand.Arg.{Arg}
use Rattle.ax_module.specs.declared.operand.Arg.TheVariants as arg
use Rattle.ax_words.specs.declared.routine.RoutineName.{RoutineName}
use Rattle.ax_source_run.specs.SourceCalls.{RoutineKind, SizedLoad, SizedStore, SizedUpdate, SizedCompare, GenericLoad, GenericStore, GenericExchange, GenericCompare, IsLockFree, kind_of}

abbrev pub is_pointer : Option Arg → Bool
is_pointer (Some (arg.Pointer addr)) = true
is_pointer (Some (arg.Value ty v)) = false
is_pointer None = false

abbrev pub is_pointer_at : List Arg → ℕ → Bool
is_pointer_at args k = is_pointer (slice_get args k)

-- the object, and what is written
abbrev pub has_pointers : RoutineKind → List Arg → Bool
has_pointers SizedLoad args = is_pointer_at args 0
has_pointers SizedStore args = is_pointer_at args 0
has_pointers (SizedUpdate op) args = is_pointer_at args 0
has_pointers SizedCompare args = is_pointer_at args 0 && is_pointer_at args 1
has_pointers GenericLoad args = is_pointer_at args 1 && is_pointer_at args 2
has_pointers GenericStore args = is_pointer_at args 1
has_pointers GenericExchange args = is_pointer_at args 1 && is_pointer_at args 3
has_pointers GenericCompare args = is_pointer_at args 1 && is_pointer_at args 2
has_pointers IsLockFree args = is_pointer_at args 1

abbrev pub routine_has_pointers : Option RoutineName → List Arg → Bool
routine_has_pointers None args = true
routine_has_pointers (Some routine) args = has_pointers (kind_of routine) args
