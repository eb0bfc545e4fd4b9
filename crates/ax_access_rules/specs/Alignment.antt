-- N8 AlignOverstated and N9 PlainLocked, which speak of the addresses of globals.
use Rattle.std.specs.Prelude.{◌≡◌, ◌<◌, ℕ, Bool, true, false, not, ◌&&◌, ◌||◌, nat_eq, List, ◌∷◌, Option, Some, None, unwrap_or, slice_get}
use Rattle.ax_module.specs.declared.inst.Inst.{Inst}
use Rattle.ax_module.specs.declared.inst.Inst.TheVariants as inst
use Rattle.ax_module.specs.declared.operand.Addr.{Addr}
use Rattle.ax_module.specs.declared.operand.Base.{Base}
use Rattle.ax_module.specs.declared.operand.Base.TheVariants as base
use Rattle.ax_module.specs.declared.operand.Operand.{Operand}
use Rattle.ax_module.specs.declared.types.Ty.{Ty}
use Rattle.ax_module.specs.Types.{type_bytes}
use Rattle.ax_words.specs.declared.routine.RoutineName.{RoutineName}
use Rattle.ax_target.specs.declared.target.Target.{Target}
use Rattle.ax_layout.specs.declared.classes.Class.{Class}
use Rattle.ax_layout.specs.declared.classes.Class.TheVariants.{Native, Locked}
use Rattle.ax_layout.specs.Classes.{class_of}
use Rattle.ax_layout.specs.Layout.{HasElement, LayoutState, address_in, bytes_in}
use Rattle.ax_source_run.specs.SourcePointers.{scaled}
use Rattle.ax_rules.specs.declared.facts.Extent.{Extent}
use Rattle.ax_rules.specs.declared.facts.Outcome.{Outcome}
use Rattle.ax_rules.specs.declared.facts.Outcome.TheVariants as outcome
use Rattle.ax_rules.specs.declared.facts.Origin.{Origin}
use Rattle.ax_rules.specs.declared.facts.Origin.TheVariants as origin
use Rattle.ax_rules.specs.declared.facts.FunctionScope.{FunctionScope}
use Rattle.ax_rules.specs.Constants.{constant_index, is_multiple}
use Rattle.ax_rules.specs.Facts.{origin_of, outcome_at}
use Rattle.ax_access_rules.specs.Mixed.{is_sized}
use Rattle.ax_rules.specs.Parts.{pointers_of}
use Rattle.ax_rules.specs.Signatures.{called, shape_of, type_of_routine}
use Rattle.ax_rules.specs.Width.{is_i128}

abbrev pub scaled_if : Ty → ℕ → Option ℕ → Option ℕ
scaled_if elem bytes None = None
scaled_if elem bytes (Some index) = Some (scaled elem bytes index)

abbrev pub index_of_outcome : ℕ → Outcome → Option ℕ
index_of_outcome bytes (outcome.Gep b elem t v) = scaled_if elem bytes (constant_index t v)
index_of_outcome bytes _ = Some 0

-- the index of a pointer where it is constant; an absent one is 0
abbrev pub index_of_base : FunctionScope → ℕ → Base → Option ℕ
index_of_base scope bytes (base.Value k) = index_of_outcome bytes (outcome_at scope k)
index_of_base scope bytes _ = Some 0

abbrev pub index_by : FunctionScope → ℕ → Base → Option (Ty × ℕ × Ty × Operand) → Option ℕ
index_by scope bytes b None = index_of_base scope bytes b
index_by scope bytes b (Some s) = scaled_if s.0 bytes (constant_index s.2 s.3)

abbrev pub index_in : FunctionScope → ℕ → Addr → Option ℕ
index_in scope bytes a = index_by scope bytes a.base a.step

-- whether the address of the element that is named is a multiple of n, or else that of each element
abbrev pub are_aligned : LayoutState → ℕ → Extent → Option ℕ → ℕ → Bool
are_aligned layout g e (Some i) n = is_multiple (address_in layout g i) n
are_aligned layout g e None n = is_multiple (address_in layout g 0) n && (nat_eq e.count 1 || is_multiple (type_bytes e.elem) n)

abbrev pub is_overstated_in : LayoutState → FunctionScope → Addr → ℕ → ℕ → Option Extent → Bool
is_overstated_in layout scope a n g None = false
is_overstated_in layout scope a n g (Some e) = not (are_aligned layout g e (index_in scope (type_bytes e.elem) a) n)

abbrev pub is_overstated_at : LayoutState → FunctionScope → Addr → ℕ → Origin → Bool
is_overstated_at layout scope a n (origin.Global g) = is_overstated_in layout scope a n g (slice_get scope.globals g)
is_overstated_at layout scope a n (origin.Alloca k) = false
is_overstated_at layout scope a n origin.Neither = false

-- an access to a global whose address is no multiple of the stated alignment
abbrev pub is_overstated : LayoutState → FunctionScope → Addr → ℕ → Bool
is_overstated layout scope a n = is_overstated_at layout scope a n (origin_of scope a.base)

abbrev pub stated : Option ℕ → Ty → ℕ
stated align t = unwrap_or align (type_bytes t)

-- a routine's first pointer is its object's
abbrev pub is_unaligned_call : LayoutState → FunctionScope → Option RoutineName → List Addr → Bool
is_unaligned_call layout scope (Some routine) (a ∷ more) = is_sized (shape_of routine) && is_overstated layout scope a (type_bytes (type_of_routine routine))
is_unaligned_call layout scope _ _ = false

unfoldable pub overstated : LayoutState → FunctionScope → Inst → Bool
overstated layout scope (inst.Load t a align) = is_overstated layout scope a (stated align t)
overstated layout scope (inst.LoadAtomic t a order align) = is_overstated layout scope a align
overstated layout scope (inst.Store t v a align) = is_overstated layout scope a (stated align t)
overstated layout scope (inst.StoreAtomic t v a order align) = is_overstated layout scope a align
overstated layout scope (inst.Cmpxchg weak a t v u w success failure align) = is_overstated layout scope a align
overstated layout scope (inst.Rmw op a t v order align) = is_overstated layout scope a align
overstated layout scope (inst.Call t name args) = is_unaligned_call layout scope (called t name args) (pointers_of (inst.Call t name args))
overstated layout scope _ = false

abbrev pub is_locked_class : Class → Bool
is_locked_class Native = false
is_locked_class Locked = true

-- all elements of a global have the class of its first
abbrev pub is_plain_locked_in : LayoutState → Target → ℕ → Option Extent → Bool
is_plain_locked_in layout t g None = false
is_plain_locked_in layout t g (Some e) = is_locked_class (class_of (address_in layout g 0) (type_bytes e.elem) t) || is_i128 e.elem

abbrev pub is_plain_locked : LayoutState → Target → FunctionScope → Origin → Bool
is_plain_locked layout t scope (origin.Global g) = is_plain_locked_in layout t g (slice_get scope.globals g)
is_plain_locked layout t scope (origin.Alloca k) = false
is_plain_locked layout t scope origin.Neither = false

-- a plain load or store of a global that is locked or has i128 elements
unfoldable pub plain_locked : LayoutState → Target → FunctionScope → Inst → Bool
plain_locked layout target scope (inst.Load t a align) = is_plain_locked layout target scope (origin_of scope a.base)
plain_locked layout target scope (inst.Store t v a align) = is_plain_locked layout target scope (origin_of scope a.base)
plain_locked layout target scope _ = false

-- the layout has the globals of the scope
pub record LaysOut (layout : LayoutState) (scope : FunctionScope) : Type 0 where
  pub element : (g : ℕ) (e : Extent) → slice_get scope.globals g ≡ Some e → HasElement layout g 0
  pub bytes : (g : ℕ) (e : Extent) → slice_get scope.globals g ≡ Some e → bytes_in layout g ≡ type_bytes e.elem
  pub some : (g : ℕ) (e : Extent) → slice_get scope.globals g ≡ Some e → 0 < type_bytes e.elem
