-- Types of at most 128 bits, and results of the 2,048 instructions that a function has at most.
use Rattle.std.specs.Prelude.{ℕ, ◌<◌, IsTrue, Option, Some, None}
use Rattle.ax_cells.specs.Narrow.{is_narrow}
use Rattle.ax_module.specs.declared.operand.Addr.{Addr}
use Rattle.ax_module.specs.declared.operand.Base.{Base}
use Rattle.ax_module.specs.declared.operand.Base.TheVariants as base
use Rattle.ax_module.specs.declared.operand.Operand.{Operand}
use Rattle.ax_module.specs.declared.types.Ty.{Ty}
use Rattle.ax_selected.specs.Ranges.{IsNear}
use Rattle.ax_reach.specs.declared.access.Access.{Access}
use Rattle.ax_reach.specs.declared.access.Access.TheVariants as access
use Rattle.ax_reach.specs.declared.access.Exchange.{Exchange}
use Rattle.ax_reach.specs.declared.place.Index.{Index}
use Rattle.ax_reach.specs.declared.place.Index.TheVariants as index
use Rattle.ax_reach.specs.declared.place.Origin.{Origin}
use Rattle.ax_reach.specs.declared.place.Origin.TheVariants as origin

abbrev pub IsNearNumber : Ty → Operand → Type 0
IsNearNumber ty v = IsTrue (is_narrow ty) × IsNear v

-- ---- pointers
abbrev pub IsNearBase : Base → Type 0
IsNearBase (base.Value r) = r < 2048
IsNearBase (base.Global g) = Unit {0}
IsNearBase (base.Param k) = Unit {0}

-- the type of the index, and the index
abbrev pub IsNearStep : Option (Ty × ℕ × Ty × Operand) → Type 0
IsNearStep None = Unit {0}
IsNearStep (Some step) = IsNearNumber step.2 step.3

pub record IsNearAddr (a : Addr) : Type 0 where
  pub base : IsNearBase a.base
  pub step : IsNearStep a.step

-- ---- indexes
abbrev pub IsNearOrigin : Origin → Type 0
IsNearOrigin (origin.Gep r) = r < 2048
IsNearOrigin (origin.Number ty r) = IsTrue (is_narrow ty) × (r < 2048)

abbrev pub IsNearIndex : Index → Type 0
IsNearIndex (index.Fixed i) = Unit {0}
IsNearIndex (index.Brought from) = IsNearOrigin from

-- ---- accesses
pub record IsNearExchange (x : Exchange) : Type 0 where
  pub expected : IsNearNumber x.ty x.expected
  pub desired : IsNearNumber x.desired_ty x.desired

abbrev pub IsNearAccess : Access → Type 0
IsNearAccess (access.Load ty) = Unit {0}
IsNearAccess (access.Store ty v) = IsNearNumber ty v
IsNearAccess (access.LoadAtomic ty order) = Unit {0}
IsNearAccess (access.StoreAtomic ty v order) = IsNearNumber ty v
IsNearAccess (access.Update op ty v order) = IsNearNumber ty v
IsNearAccess (access.Compare x) = IsNearExchange x
