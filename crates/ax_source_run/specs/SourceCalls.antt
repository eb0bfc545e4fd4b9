-- Calls of libatomic's routines (GCC libatomic ABI). A routine of a size has the object, what it writes or expects, and orders; one that takes the size as an argument has it first.
use Rattle.std.specs.Prelude.{ℕ, ◌-◌, ◌%◌, false, nat_lt, if◌then◌else◌, List, [], ◌∷◌, Option, Some, None, slice_get, slice_index_or}
use Rattle.ax_module.specs.declared.operand.Arg.{Arg}
use Rattle.ax_module.specs.declared.operand.Arg.TheVariants as arg
use Rattle.ax_words.specs.declared.operation.RmwOp.{RmwOp}
use Rattle.ax_words.specs.declared.operation.RmwOp.TheVariants as rmw
use Rattle.ax_words.specs.declared.routine.RoutineName.{RoutineName}
use Rattle.ax_words.specs.Routine as routines
use Rattle.ax_source_run.specs.SourceAccess.{Access, ObjectOperation, Reads, Writes, Updates, Compares, Reply, Silent, Found, Into, EqualOrInto}
use Rattle.ax_source_run.specs.SourcePointers.{pointed, pointer_of}
use Rattle.ax_source_run.specs.SourceState.{Object, Shared, Private, Pointer, SourceProcessor, SourceProgram, Number}
use Rattle.ax_source_run.specs.SourceValues.{operand_of}

-- what a routine does
pub data RoutineKind : Type 0 where
  SizedLoad : RoutineKind
  SizedStore : RoutineKind
  SizedUpdate : RmwOp → RoutineKind
  SizedCompare : RoutineKind
  GenericLoad : RoutineKind
  GenericStore : RoutineKind
  GenericExchange : RoutineKind
  GenericCompare : RoutineKind
  IsLockFree : RoutineKind

-- of each size there are these, in the order of the routines' numbers
abbrev pub sized_kinds : List RoutineKind
sized_kinds =
    SizedLoad ∷ SizedStore ∷ SizedUpdate rmw.Xchg ∷ SizedCompare ∷
    SizedUpdate rmw.Add ∷ SizedUpdate rmw.Sub ∷ SizedUpdate rmw.And ∷ SizedUpdate rmw.Or ∷ SizedUpdate rmw.Xor ∷ SizedUpdate rmw.Nand ∷ []

-- and behind the five sizes these
abbrev pub generic_kinds : List RoutineKind
generic_kinds = GenericLoad ∷ GenericStore ∷ GenericExchange ∷ GenericCompare ∷ IsLockFree ∷ []

abbrev pub kind_numbered : ℕ → RoutineKind
kind_numbered n =
    if nat_lt n 50 then slice_index_or sized_kinds (n % 10) SizedLoad
    else slice_index_or generic_kinds (n - 50) IsLockFree

unfoldable pub kind_of : RoutineName → RoutineKind
unfolding routines.number_of
kind_of routine = kind_numbered (routines.number_of routine)

module _ (program : SourceProgram) (s : SourceProcessor) where
  -- no pointer
  abbrev pub pointer_of_arg : Option Arg → Pointer
  pointer_of_arg (Some (arg.Pointer addr)) = pointer_of program.source addr s
  pointer_of_arg (Some (arg.Value ty operand)) = pointed (Number 0)
  pointer_of_arg None = pointed (Number 0)

  abbrev pub number_of_arg : Option Arg → ℕ
  number_of_arg (Some (arg.Value ty operand)) = operand_of ty operand s.values
  number_of_arg (Some (arg.Pointer addr)) = 0
  number_of_arg None = 0

  abbrev pub pointer_at : List Arg → ℕ → Pointer
  pointer_at args k = pointer_of_arg (slice_get args k)

  abbrev pub number_at : List Arg → ℕ → ℕ
  number_at args k = number_of_arg (slice_get args k)

  -- what an argument points to, which is an element of an alloca
  abbrev pub content_of : Object → ℕ → ℕ
  content_of (Private r) i = s.allocas r i
  content_of (Shared g) i = 0

  abbrev pub content_at : List Arg → ℕ → ℕ
  content_at args k = content_of (pointer_at args k).object (pointer_at args k).index

  -- a call of a routine never waits
  abbrev pub call : Pointer → ObjectOperation → Reply → Access
  call p operation reply = record { pointer = p; operation = operation; may_wait = false; reply = reply }

  -- all arguments are read before one is written; IsLockFree has none
  abbrev pub call_of : RoutineKind → List Arg → Option Access
  call_of SizedLoad args = Some (call (pointer_at args 0) Reads Found)
  call_of SizedStore args = Some (call (pointer_at args 0) (Writes (number_at args 1)) Silent)
  call_of (SizedUpdate op) args = Some (call (pointer_at args 0) (Updates op (number_at args 1)) Found)
  call_of SizedCompare args = Some (call (pointer_at args 0) (Compares (content_at args 1) (number_at args 2)) (EqualOrInto (pointer_at args 1)))
  call_of GenericLoad args = Some (call (pointer_at args 1) Reads (Into (pointer_at args 2)))
  call_of GenericStore args = Some (call (pointer_at args 1) (Writes (content_at args 2)) Silent)
  call_of GenericExchange args = Some (call (pointer_at args 1) (Updates rmw.Xchg (content_at args 2)) (Into (pointer_at args 3)))
  call_of GenericCompare args = Some (call (pointer_at args 1) (Compares (content_at args 2) (content_at args 3)) (EqualOrInto (pointer_at args 2)))
  call_of IsLockFree args = None
