-- The functions that may be called: `@out`, and libatomic's routines (GCC libatomic ABI).
use Rattle.std.specs.Prelude.{ℕ, Bool, true, false, not, ◌&&◌, nat_lt, if◌then◌else◌, List, [], ◌∷◌, map, Option, Some, None}
use Rattle.std.specs.Cmp.Lexicographic.{pointwise}
use Rattle.ax_module.specs.declared.inst.Inst.{Inst}
use Rattle.ax_module.specs.declared.inst.Inst.TheVariants as inst
use Rattle.ax_module.specs.declared.operand.Arg.{Arg}
use Rattle.ax_module.specs.declared.operand.Arg.TheVariants as arg
use Rattle.ax_module.specs.declared.types.Ty.{Ty}
use Rattle.ax_module.specs.declared.types.Ty.TheVariants.{I1, I8, I16, I32, I64, I128, Ptr}
use Rattle.ax_words.specs.declared.routine.RoutineName.{RoutineName}
use Rattle.ax_words.specs.Routine as routines
use Rattle.ax_source_run.specs.SourceCalls as calls
use Rattle.ax_source_run.specs.SourceInstructions.{is_out}
use Rattle.ax_rules.specs.declared.facts.Shape.{Shape}
use Rattle.ax_rules.specs.declared.facts.Shape.TheVariants as shape
use Rattle.ax_rules.specs.Parts.{same_type}

-- which arguments a routine takes, by what it does
abbrev pub shape_of_kind : calls.RoutineKind → Shape
shape_of_kind calls.SizedLoad = shape.Load
shape_of_kind calls.SizedStore = shape.Store
shape_of_kind (calls.SizedUpdate op) = shape.Update
shape_of_kind calls.SizedCompare = shape.Compare
shape_of_kind calls.GenericLoad = shape.GenericLoad
shape_of_kind calls.GenericStore = shape.GenericStore
shape_of_kind calls.GenericExchange = shape.GenericExchange
shape_of_kind calls.GenericCompare = shape.GenericCompare
shape_of_kind calls.IsLockFree = shape.IsLockFree

unfoldable pub shape_of : RoutineName → Shape
shape_of routine = shape_of_kind (calls.kind_of routine)

-- the type of a routine's size, by its number: ten routines of each size
abbrev pub sized_type : ℕ → Ty
sized_type n =
    if nat_lt n 10 then I8 else
    if nat_lt n 20 then I16 else
    if nat_lt n 30 then I32 else
    if nat_lt n 40 then I64 else I128

unfoldable pub type_of_routine : RoutineName → Ty
unfolding routines.number_of
type_of_routine routine = sized_type (routines.number_of routine)

-- the types of the arguments; the last are orders, and the first of a generic routine is the size
abbrev pub argument_types : Shape → Ty → List Ty
argument_types shape.Load t = Ptr ∷ I32 ∷ []
argument_types shape.Store t = Ptr ∷ t ∷ I32 ∷ []
argument_types shape.Update t = Ptr ∷ t ∷ I32 ∷ []
argument_types shape.Compare t = Ptr ∷ Ptr ∷ t ∷ I32 ∷ I32 ∷ []
argument_types shape.GenericLoad t = I64 ∷ Ptr ∷ Ptr ∷ I32 ∷ []
argument_types shape.GenericStore t = I64 ∷ Ptr ∷ Ptr ∷ I32 ∷ []
argument_types shape.GenericExchange t = I64 ∷ Ptr ∷ Ptr ∷ Ptr ∷ I32 ∷ []
argument_types shape.GenericCompare t = I64 ∷ Ptr ∷ Ptr ∷ Ptr ∷ I32 ∷ I32 ∷ []
argument_types shape.IsLockFree t = I64 ∷ Ptr ∷ []

-- the type of the result, `void` where there is none
abbrev pub result_type : Shape → Ty → Option Ty
result_type shape.Load t = Some t
result_type shape.Store t = None
result_type shape.Update t = Some t
result_type shape.Compare t = Some I1
result_type shape.GenericLoad t = None
result_type shape.GenericStore t = None
result_type shape.GenericExchange t = None
result_type shape.GenericCompare t = Some I1
result_type shape.IsLockFree t = Some I1

abbrev pub arg_type : Arg → Ty
arg_type (arg.Pointer a) = Ptr
arg_type (arg.Value t v) = t

abbrev pub same_result : Option Ty → Option Ty → Bool
same_result None None = true
same_result (Some t) (Some u) = same_type t u
same_result _ _ = false

-- whether a call's types are those of a signature
abbrev pub fits : Option Ty → List Ty → Option Ty → List Arg → Bool
fits result types t args = same_result result t && pointwise same_type types (map arg_type args)

-- `void (i64)`
abbrev pub fits_out : Option Ty → List Arg → Bool
fits_out t args = fits None (I64 ∷ []) t args

abbrev pub fits_routine : RoutineName → Option Ty → List Arg → Bool
fits_routine routine t args = fits (result_type (shape_of routine) (type_of_routine routine)) (argument_types (shape_of routine) (type_of_routine routine)) t args

-- the routine that is called with the types of its signature
abbrev pub called_if : Option RoutineName → Option Ty → List Arg → Option RoutineName
called_if None t args = None
called_if (Some routine) t args = if fits_routine routine t args then Some routine else None

abbrev pub called : Option Ty → List ℕ → List Arg → Option RoutineName
called t name args = called_if (routines.routine_named name) t args

abbrev pub is_some_routine : Option RoutineName → Bool
is_some_routine None = false
is_some_routine (Some routine) = true

-- a call of a function that is neither `@out` nor a routine, or whose types aren't those of its signature
unfoldable pub user_call : Inst → Bool
user_call (inst.Call t name args) = if is_out name then not (fits_out t args) else not (is_some_routine (called t name args))
user_call _ = false
