-- N6 BadOrdering.
use Rattle.std.specs.Prelude.{ℕ, Bool, true, false, not, ◌||◌, pos, List, Option, Some, None, slice_get}
use Rattle.ax_module.specs.declared.inst.Inst.{Inst}
use Rattle.ax_module.specs.declared.inst.Inst.TheVariants as inst
use Rattle.ax_module.specs.declared.operand.Arg.{Arg}
use Rattle.ax_module.specs.declared.operand.Arg.TheVariants as arg
use Rattle.ax_module.specs.declared.operand.Operand.{Operand}
use Rattle.ax_module.specs.declared.operand.Operand.TheVariants as operand
use Rattle.ax_words.specs.declared.order.Access.{Access}
use Rattle.ax_words.specs.declared.order.Access.TheVariants as access
use Rattle.ax_words.specs.declared.order.Order.{Order}
use Rattle.ax_words.specs.declared.routine.RoutineName.{RoutineName}
use Rattle.ax_words.specs.Orders.{is_legal, order_of_abi}
use Rattle.ax_rules.specs.declared.facts.Shape.{Shape}
use Rattle.ax_rules.specs.declared.facts.Shape.TheVariants as shape
use Rattle.ax_rules.specs.Signatures.{called, shape_of}

abbrev pub is_illegal : Access → Option Order → Bool
is_illegal access None = true
is_illegal access (Some order) = not (is_legal access order)

-- no constant from 0 to 5 as it is written, or not legal as that access
abbrev pub is_bad_number : Access → Operand → Bool
is_bad_number access (operand.Const (pos n)) = is_illegal access (order_of_abi n)
is_bad_number access _ = true

abbrev pub is_bad_arg : Access → Option Arg → Bool
is_bad_arg access (Some (arg.Value t v)) = is_bad_number access v
is_bad_arg access _ = true

abbrev pub is_bad_order : List Arg → ℕ → Access → Bool
is_bad_order args k access = is_bad_arg access (slice_get args k)

-- the order arguments of a routine
abbrev pub bad_orders : Shape → List Arg → Bool
bad_orders shape.Load args = is_bad_order args 1 access.Load
bad_orders shape.Store args = is_bad_order args 2 access.Store
bad_orders shape.Update args = is_bad_order args 2 access.Rmw
bad_orders shape.Compare args = is_bad_order args 3 access.CmpSuccess || is_bad_order args 4 access.CmpFailure
bad_orders shape.GenericLoad args = is_bad_order args 3 access.Load
bad_orders shape.GenericStore args = is_bad_order args 3 access.Store
bad_orders shape.GenericExchange args = is_bad_order args 4 access.Rmw
bad_orders shape.GenericCompare args = is_bad_order args 4 access.CmpSuccess || is_bad_order args 5 access.CmpFailure
bad_orders shape.IsLockFree args = false

abbrev pub bad_orders_of : Option RoutineName → List Arg → Bool
bad_orders_of None args = false
bad_orders_of (Some routine) args = bad_orders (shape_of routine) args

-- an order that isn't legal where it stands
unfoldable pub order_fault : Inst → Bool
order_fault (inst.LoadAtomic t a order align) = not (is_legal access.Load order)
order_fault (inst.StoreAtomic t v a order align) = not (is_legal access.Store order)
order_fault (inst.Cmpxchg weak a t v u w success failure align) = not (is_legal access.CmpSuccess success) || not (is_legal access.CmpFailure failure)
order_fault (inst.Rmw op a t v order align) = not (is_legal access.Rmw order)
order_fault (inst.Fence single order) = not (is_legal access.Fence order)
order_fault (inst.Call t name args) = bad_orders_of (called t name args) args
order_fault _ = false
